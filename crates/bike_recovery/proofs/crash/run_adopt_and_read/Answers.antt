use Rattle.std.proofs.Common.{arith}
use Rattle.sqlite.specs.State.{HasCleanDisk}
use Rattle.bike_desk.specs.Desk.{desk_state}
use Rattle.bike_recovery.proofs.FrontLemmas.{sound_at}
use Rattle.bike_recovery.proofs.crash.run_adopt_and_read.Goals as goal

pub returns-in-Ok-clause-headline : goal.returns-in-Ok-clause-headline
returns-in-Ok-clause-headline g c clean s at left fine =
    let early : HasCleanDisk (desk_state g.T.Store c.in-Ok.again) = omega (arith, fine, c.read_again-reading.ensures.clean) in
    let it = c.run_list-run.ensures.front clean s at _ left in
    let there = c.in-Ok.ensures.found _ it.4 early in
    (it.0, it.1, it.2, it.3, sound_at g.T.Store c.in-Ok.again _ there, c.read_again-reading.ensures.reads fine _ there)

pub returns-in-Err-clause-refused : goal.returns-in-Err-clause-refused
returns-in-Err-clause-refused g c clean s at left =
    let it = c.run_list-run.ensures.front clean s at _ left in
    c.in-Err.ensures.refused _ it.4
