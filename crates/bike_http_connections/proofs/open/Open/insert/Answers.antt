use Rattle.std.proofs.Common.{◌∷◌, [], List, ◌≤◌, map, subst, sym, ap, inl, inr}
use Rattle.std.specs.Duration.{as_nanos}
use Rattle.std.specs.declared.time.Duration.{Duration}
use Rattle.bike_http_connection.specs.Connected.{Connected}
use Rattle.bike_http_connections.specs.Ahead.{Loses}
use Rattle.bike_http_connections.specs.Kept.{Kept}
use Rattle.bike_http_connections.specs.Table.{clients_of}
use Rattle.bike_http_connections.proofs.Losing.{loses_front}
use Rattle.bike_http_connections.proofs.Staying.{over_or_not}
use Rattle.bike_http_connections.proofs.open.Open.insert.Goals as goal

pub returns-clause-kept : goal.returns-clause-kept
returns-clause-kept g c known = elim (over_or_not c.step-connection.result.1) [
  | inl over ↦
      subst (λ (left : List Connected). Loses (c.args.connection.who ∷ clients_of c.args.self.now) left)
      (sym (ap (λ (opened : List Kept). map (λ one. one.who) opened) (c.keep.ensures.ended over)))
      (loses_front (c.args.connection.who ∷ []) (clients_of c.args.self.now))
  | inr on ↦
      subst (λ (who : Connected). Loses (who ∷ clients_of c.args.self.now) (clients_of c.keep.new.self)) (c.step-connection.ensures.same known on)
      c.keep.ensures.kept
]

pub returns-clause-time : goal.returns-clause-time
returns-clause-time g c = (
  c.keep.ensures.time.0,
  c.keep.ensures.time.1,
  subst (λ (d : Duration). as_nanos c.keep.ensures.time.0.end ≤ as_nanos d) c.step-connection.ensures.end c.keep.ensures.time.2,
)
