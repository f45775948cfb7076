use Rattle.std.proofs.Common.{◌≡◌, ◌<◌, List, ◌∷◌, [], length, true, false, subst, sym, ap, ◌∙◌}
use Rattle.std.proofs.Math.Nat.{le_refl}
use Rattle.std.specs.Duration.{as_nanos}
use Rattle.bike_http_connection.specs.Connected.{Connected, Opened}
use Rattle.bike_http_connections.specs.declared.limits.TheConstants.{MOST_OPEN}
use Rattle.bike_http_connections.specs.Ahead.{Loses, Stay}
use Rattle.bike_http_connections.specs.Kept.{Kept, kept_as, TakesIn, ComesIn}
use Rattle.bike_http_connections.specs.Table.{Table, clients_of}
use Rattle.bike_http_connections.proofs.Losing.{loses_front, loses_none}
use Rattle.bike_http_connections.proofs.Staying.{sent_has_none}
use Rattle.bike_http_connections.proofs.open.Open.keep.Goals as goal

pub returns-else-is_kept-clause-kept : goal.returns-else-is_kept-clause-kept
returns-else-is_kept-clause-kept g c =
    subst (λ (left : List Connected). Loses (c.args.connection.who ∷ clients_of c.args.self.now) left)
    (sym (ap (λ (t : Table). clients_of t) c.is_kept.ensures.kept)) (loses_front (c.args.connection.who ∷ []) (clients_of c.args.self.now))

pub returns-else-is_kept-clause-time : goal.returns-else-is_kept-clause-time
returns-else-is_kept-clause-time g c = (
  c.args.connection,
  (
    0,
    subst (λ (left : List Kept). Loses (kept_as c.args.connection 0 ∷ c.args.self.now.opened) left) (sym (ap (λ (t : Table). t.opened) c.is_kept.ensures.kept))
        (loses_front (kept_as c.args.connection 0 ∷ []) c.args.self.now.opened),
  ),
  le_refl (as_nanos c.args.connection.end),
)

pub returns-else-is_kept-clause-others : goal.returns-else-is_kept-clause-others
returns-else-is_kept-clause-others g c =
    subst (λ (left : List Kept). Stay c.args.self.now.opened left) (sym (ap (λ (t : Table). t.opened) c.is_kept.ensures.kept))
    (loses_none c.args.self.now.opened)

pub returns-else-is_kept-clause-comes_in : goal.returns-else-is_kept-clause-comes_in
returns-else-is_kept-clause-comes_in g c turn few =
    absurd (let both : true ≡ false = sym (c.is_kept.ensures.turn turn) ∙ c.if-is_kept.false in cc)

pub returns-then-is_kept-clause-time : goal.returns-then-is_kept-clause-time
returns-then-is_kept-clause-time g c = (
  c.is_kept.new.connection,
  subst (λ (old : List Kept). TakesIn c.is_kept.new.connection old c.put_back.new.self.opened) (ap (λ (t : Table). t.opened) c.is_kept.ensures.kept)
      c.put_back.ensures.whole,
  c.is_kept.ensures.sooner,
)

pub returns-then-is_kept-clause-others : goal.returns-then-is_kept-clause-others
returns-then-is_kept-clause-others g c =
    subst (λ (old : List Kept). Stay old c.put_back.new.self.opened) (ap (λ (t : Table). t.opened) c.is_kept.ensures.kept) c.put_back.ensures.others

pub returns-then-is_kept-clause-comes_in : goal.returns-then-is_kept-clause-comes_in
returns-then-is_kept-clause-comes_in g c turn few =
    subst (λ (one : Opened). ComesIn one c.args.self.now.opened c.put_back.new.self.opened)
    (c.is_kept.ensures.unchanged (sent_has_none c.args.step c.args.self.now turn))
    (subst (λ (old : List Kept). length old < MOST_OPEN → ComesIn c.is_kept.new.connection old c.put_back.new.self.opened)
    (ap (λ (t : Table). t.opened) c.is_kept.ensures.kept) c.put_back.ensures.comes_in few)
