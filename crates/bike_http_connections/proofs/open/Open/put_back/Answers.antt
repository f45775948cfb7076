use Rattle.std.proofs.Common.{arith, ℕ, ◌∷◌, ◌+◌, ◌-◌, Some, ap, subst, sym, ◌∙◌}
use Rattle.std.specs.Duration.{as_nanos}
use Rattle.std.specs.declared.time.Duration.{Duration}
use Rattle.bike_http_connection.specs.Connected.{Connected}
use Rattle.bike_http_connections.specs.declared.limits.TheConstants.{MOST_OPEN}
use Rattle.bike_http_connections.specs.Ahead.{Loses}
use Rattle.bike_http_connections.specs.Kept.{Kept}
use Rattle.bike_http_connections.specs.Turns.{nanos, sooner_of}
use Rattle.bike_http_connections.specs.Ending.{clients_in}
use Rattle.bike_http_connections.specs.Table.{Table, clients_of}
use Rattle.bike_http_connections.proofs.Ending.{client_put, kept_put, sooner_put, blocks_put, blocks_back, others_stay, comes_in}
use Rattle.bike_http_connections.proofs.open.Open.put_back.Goals as goal

pub invariant_of-self : goal.invariant_of-self
invariant_of-self g c =
    let before = nanos c.self.inside.deadlines.soonest in
    record {
      soonest = sooner_put c.insert.result before (nanos c.note.new.self.soonest) c.self.inside.connections c.insert.new.self
          c.new-entry.result c.self.invariant.soonest
          (c.note.ensures ∙ ap (λ (d : Duration). sooner_of before (Some (as_nanos d))) (c.end.ensures ∙ sym (ap (λ (k : Kept). k.end) c.new-entry.ensures)))
          c.insert.ensures.updates c.insert.ensures.err;
      counted = blocks_back c.insert.result c.self.inside.connections c.insert.new.self c.self.inside.room.held c.take-blocks.new.self.held c.new-entry.result
          c.give_back.new.self.held c.self.invariant.counted
          (c.take-blocks.ensures.counted ∙ ap (λ (n : ℕ). c.self.inside.room.held + n) (sym (ap (λ (k : Kept). k.blocks) c.new-entry.ensures)))
          (c.give_back.ensures ∙ ap (λ (n : ℕ). c.take-blocks.new.self.held - n) (sym (ap (λ (k : Kept). k.blocks) c.new-entry.ensures)))
          (sym c.is_err.ensures.value ∙ c.if-is_err.true) c.insert.ensures.err;
      places = omega (arith, c.self.invariant.places, c.insert.ensures.capacity);
    }

pub invariant_of-self-else-is_err : goal.invariant_of-self-else-is_err
invariant_of-self-else-is_err g c =
    let before = nanos c.self.inside.deadlines.soonest in
    record {
      soonest = sooner_put c.insert.result before (nanos c.note.new.self.soonest) c.self.inside.connections c.insert.new.self
          c.new-entry.result c.self.invariant.soonest
          (c.note.ensures ∙ ap (λ (d : Duration). sooner_of before (Some (as_nanos d))) (c.end.ensures ∙ sym (ap (λ (k : Kept). k.end) c.new-entry.ensures)))
          c.insert.ensures.updates c.insert.ensures.err;
      counted = blocks_put c.insert.result c.self.inside.connections c.insert.new.self c.self.inside.room.held c.take-blocks.new.self.held c.new-entry.result
          c.self.invariant.counted
          (c.take-blocks.ensures.counted ∙ ap (λ (n : ℕ). c.self.inside.room.held + n) (sym (ap (λ (k : Kept). k.blocks) c.new-entry.ensures)))
          (sym c.is_err.ensures.value ∙ c.if-is_err.false) c.insert.ensures.was_vacant c.insert.ensures.updates;
      places = omega (arith, c.self.invariant.places, c.insert.ensures.capacity);
    }

pub returns-then-is_err-clause-kept : goal.returns-then-is_err-clause-kept
returns-then-is_err-clause-kept g c =
    subst (λ (who : Connected). Loses (who ∷ clients_of c.args.self.now) (clients_in c.insert.new.self.slots)) (ap (λ (k : Kept). k.who) c.new-entry.ensures)
    (client_put c.insert.result c.self.inside.connections c.insert.new.self c.new-entry.result (clients_of c.args.self.now) (ap (λ (t : Table). clients_of t) c.self.view_is)
    c.insert.ensures.was_vacant c.insert.ensures.updates c.insert.ensures.err)

pub returns-else-is_err-clause-kept : goal.returns-else-is_err-clause-kept
returns-else-is_err-clause-kept g c =
    subst (λ (who : Connected). Loses (who ∷ clients_of c.args.self.now) (clients_in c.insert.new.self.slots)) (ap (λ (k : Kept). k.who) c.new-entry.ensures)
    (client_put c.insert.result c.self.inside.connections c.insert.new.self c.new-entry.result (clients_of c.args.self.now) (ap (λ (t : Table). clients_of t) c.self.view_is)
    c.insert.ensures.was_vacant c.insert.ensures.updates c.insert.ensures.err)

pub returns-then-is_err-clause-whole : goal.returns-then-is_err-clause-whole
returns-then-is_err-clause-whole g c =
    kept_put c.insert.result c.self.inside.connections c.insert.new.self c.new-entry.result c.args.connection c.take-blocks.result c.args.self.now.opened
    (ap (λ (t : Table). t.opened) c.self.view_is) c.new-entry.ensures c.insert.ensures.was_vacant c.insert.ensures.updates c.insert.ensures.err

pub returns-else-is_err-clause-whole : goal.returns-else-is_err-clause-whole
returns-else-is_err-clause-whole g c =
    kept_put c.insert.result c.self.inside.connections c.insert.new.self c.new-entry.result c.args.connection c.take-blocks.result c.args.self.now.opened
    (ap (λ (t : Table). t.opened) c.self.view_is) c.new-entry.ensures c.insert.ensures.was_vacant c.insert.ensures.updates c.insert.ensures.err

pub returns-then-is_err-clause-noted : goal.returns-then-is_err-clause-noted
returns-then-is_err-clause-noted g c =
    c.note.ensures
    ∙ ap (λ (d : Duration). sooner_of (nanos c.self.inside.deadlines.soonest) (Some (as_nanos d))) c.end.ensures
    ∙ ap (λ (t : Table). sooner_of t.soonest (Some (as_nanos c.args.connection.end))) c.self.view_is

pub returns-else-is_err-clause-noted : goal.returns-else-is_err-clause-noted
returns-else-is_err-clause-noted g c =
    c.note.ensures
    ∙ ap (λ (d : Duration). sooner_of (nanos c.self.inside.deadlines.soonest) (Some (as_nanos d))) c.end.ensures
    ∙ ap (λ (t : Table). sooner_of t.soonest (Some (as_nanos c.args.connection.end))) c.self.view_is

pub returns-then-is_err-clause-others : goal.returns-then-is_err-clause-others
returns-then-is_err-clause-others g c =
    others_stay c.insert.result c.self.inside.connections c.insert.new.self c.new-entry.result c.args.self.now.opened
    (ap (λ (t : Table). t.opened) c.self.view_is) c.insert.ensures.was_vacant c.insert.ensures.updates c.insert.ensures.err

pub returns-then-is_err-clause-comes_in : goal.returns-then-is_err-clause-comes_in
returns-then-is_err-clause-comes_in g c few =
    comes_in c.insert.result c.self.inside.connections c.insert.new.self c.new-entry.result c.args.connection c.take-blocks.result MOST_OPEN
    c.args.self.now.opened (ap (λ (t : Table). t.opened) c.self.view_is) c.new-entry.ensures c.insert.ensures.was_vacant c.insert.ensures.updates
    c.insert.ensures.succeeds c.self.invariant.places few

pub returns-else-is_err-clause-others : goal.returns-else-is_err-clause-others
returns-else-is_err-clause-others g c =
    others_stay c.insert.result c.self.inside.connections c.insert.new.self c.new-entry.result c.args.self.now.opened
    (ap (λ (t : Table). t.opened) c.self.view_is) c.insert.ensures.was_vacant c.insert.ensures.updates c.insert.ensures.err

pub returns-else-is_err-clause-comes_in : goal.returns-else-is_err-clause-comes_in
returns-else-is_err-clause-comes_in g c few =
    comes_in c.insert.result c.self.inside.connections c.insert.new.self c.new-entry.result c.args.connection c.take-blocks.result MOST_OPEN
    c.args.self.now.opened (ap (λ (t : Table). t.opened) c.self.view_is) c.new-entry.ensures c.insert.ensures.was_vacant c.insert.ensures.updates
    c.insert.ensures.succeeds c.self.invariant.places few
