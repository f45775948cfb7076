use Rattle.std.proofs.Common.{ℕ, ◌≤◌, ◌≡◌, true, false, List, ap, subst, sym, ◌∙◌}
use Rattle.std.specs.Duration.{as_nanos}
use Rattle.bike_http_connection.specs.Connected.{Connected}
use Rattle.bike_http_connections.specs.declared.limits.TheConstants.{MOST_OPEN}
use Rattle.bike_http_connections.specs.Ahead.{Loses}
use Rattle.bike_http_connections.specs.Turns.{nanos}
use Rattle.bike_http_connections.specs.Ending.{clients_in}
use Rattle.bike_http_connections.specs.Table.{Table, clients_of}
use Rattle.bike_http_connections.proofs.Ending.{in_time_is, none_late}
use Rattle.bike_http_connections.proofs.open.Open.give_up.Goals as goal

pub invariant_of-self : goal.invariant_of-self
invariant_of-self g c = record {
  soonest = c.deadlines_of-self-inside.ensures.all;
  counted = c.end_late.ensures.room c.self.invariant.counted;
  places = subst (λ (n : ℕ). MOST_OPEN ≤ n) (sym c.end_late.ensures.places) c.self.invariant.places;
}

pub returns-clause-late : goal.returns-clause-late
returns-clause-late g c =
    in_time_is (as_nanos c.args.now) c.self.inside.connections c.end_late.new.connections c.args.self.now.opened (ap (λ (t : Table). t.opened) c.self.view_is)
    c.end_late.ensures.late

pub returns-clause-lost : goal.returns-clause-lost
returns-clause-lost g c =
    subst (λ (clients : List Connected). Loses clients (clients_in c.end_late.new.connections.slots)) (ap (λ (t : Table). clients_of t) c.self.view_is) c.end_late.ensures.lost

pub returns-then-not-have_come-clause-late : goal.returns-then-not-have_come-clause-late
returns-then-not-have_come-clause-late g c =
    sym (ap (λ (t : Table). t.opened) c.self.view_is)
    ∙ in_time_is (as_nanos c.args.now) c.self.inside.connections c.self.inside.connections c.args.self.now.opened (ap (λ (t : Table). t.opened) c.self.view_is)
    (none_late (nanos c.self.inside.deadlines.soonest) (as_nanos c.args.now) c.self.inside.connections c.self.invariant.soonest
    (λ come. absurd (let both : true ≡ false = sym (c.have_come.ensures.1 come) ∙ c.if-not-have_come.true in cc)))
