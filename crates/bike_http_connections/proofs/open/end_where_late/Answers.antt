use Rattle.std.proofs.Common.{ap, ◌-◌, ◌∙◌}
use Rattle.bike_http_connections.proofs.Ending.{ends_one, blocks_taken}
use Rattle.bike_http_connections.proofs.open.end_where_late.Goals as goal

pub returns-in-Some-try_remove-clause-lost : goal.returns-in-Some-try_remove-clause-lost
returns-in-Some-try_remove-clause-lost g c =
    ends_one c.args.connections.now c.try_remove.new.self c.args.key c.in-Some-try_remove.entry
    c.in-Some-try_remove.ensures.value c.in-Some-try_remove.ensures.slots

pub returns-in-Some-try_remove-clause-room : goal.returns-in-Some-try_remove-clause-room
returns-in-Some-try_remove-clause-room g c counted =
    blocks_taken c.args.connections.now c.try_remove.new.self c.args.key c.args.room.now.held c.give_back.new.self.held c.in-Some-try_remove.entry
    c.in-Some-try_remove.ensures.value c.in-Some-try_remove.ensures.slots counted
    (c.give_back.ensures ∙ ap (λ (blocks : _). c.args.room.now.held - blocks) c.counted.ensures)
