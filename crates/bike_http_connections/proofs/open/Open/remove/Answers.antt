use Rattle.std.proofs.Common.{ℕ, ◌≤◌, ◌∷◌, ◌-◌, ap, subst, sym, ◌∙◌}
use Rattle.bike_http_connection.specs.Connected.{Connected, Opened}
use Rattle.bike_http_connections.specs.declared.limits.TheConstants.{MOST_OPEN}
use Rattle.bike_http_connections.specs.Ahead.{Loses}
use Rattle.bike_http_connections.specs.Ending.{clients_in}
use Rattle.bike_http_connections.specs.Table.{Table, clients_of}
use Rattle.bike_http_connections.specs.Turns.{nanos}
use Rattle.bike_http_connections.proofs.Ending.{client_taken, kept_taken, sooner_taken, blocks_taken}
use Rattle.bike_http_connections.proofs.open.Open.remove.Goals as goal

pub invariant_of-self-2 : goal.invariant_of-self-2
invariant_of-self-2 g c = record {
  soonest = sooner_taken (nanos c.self.inside.deadlines.soonest) c.self.inside.connections c.try_remove.new.self c.args.key c.self.invariant.soonest
      c.in_ok-entry.ensures.updates;
  counted = blocks_taken c.self.inside.connections c.try_remove.new.self c.args.key c.self.inside.room.held c.give_back.new.self.held c.in_ok-entry.entry
      c.in_ok-entry.ensures.value c.in_ok-entry.ensures.slots c.self.invariant.counted
      (c.give_back.ensures ∙ ap (λ (n : ℕ). c.self.inside.room.held - n) c.counted.ensures);
  places = subst (λ (n : ℕ). MOST_OPEN ≤ n) (sym c.in_ok-entry.ensures.capacity) c.self.invariant.places;
}

pub returns-clause-taken : goal.returns-clause-taken
returns-clause-taken g c =
    subst (λ (who : Connected). Loses (clients_of c.args.self.now) (who ∷ clients_in c.try_remove.new.self.slots)) (sym (ap (λ (one : Opened). one.who) c.into_connection.ensures))
    (client_taken c.self.inside.connections c.try_remove.new.self c.args.key c.in_ok-entry.entry (clients_of c.args.self.now) (ap (λ (t : Table). clients_of t) c.self.view_is)
    c.in_ok-entry.ensures.value c.in_ok-entry.ensures.slots)

pub returns-clause-whole : goal.returns-clause-whole
returns-clause-whole g c =
    kept_taken c.self.inside.connections c.try_remove.new.self c.args.key c.in_ok-entry.entry c.into_connection.result c.args.self.now.opened
    (ap (λ (t : Table). t.opened) c.self.view_is) c.in_ok-entry.ensures.value c.in_ok-entry.ensures.slots c.into_connection.ensures
