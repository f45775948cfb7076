use Rattle.std.proofs.Common.{take, arith}
use Rattle.sqlite.specs.State.{HasCleanDisk}
use Rattle.bike_operator.specs.Runs.{after}
use Rattle.bike_desk.specs.Desk.{desk_state}
use Rattle.bike_recovery.proofs.FrontLemmas.{sound_at}
use Rattle.bike_recovery.proofs.crash.run_crash_and_read.Goals as goal

pub returns-in-Ok-clause-headline : goal.returns-in-Ok-clause-headline
returns-in-Ok-clause-headline g c s at clean =
    let early : HasCleanDisk (desk_state g.S.Store c.in-Ok.again) = omega (arith, clean, c.read_again-reading.ensures.clean) in
    let run : HasCleanDisk (desk_state g.S.Store c.run_list-run.new.self) = omega (arith, early, c.in-Ok.ensures.clean) in
    let it = c.in-Ok.ensures.front early s c.args.calls.now _ (c.run_list-run.ensures.front run s at) in
    (it.0, it.1, it.2, it.3, sound_at g.S.Store c.in-Ok.again _ it.4, c.read_again-reading.ensures.reads clean _ it.4)

pub returns-in-Ok-clause-replies : goal.returns-in-Ok-clause-replies
returns-in-Ok-clause-replies g c s at clean =
    let early : HasCleanDisk (desk_state g.S.Store c.in-Ok.again) = omega (arith, clean, c.read_again-reading.ensures.clean) in
    let run : HasCleanDisk (desk_state g.S.Store c.run_list-run.new.self) = omega (arith, early, c.in-Ok.ensures.clean) in
    let ran = c.run_list-run.ensures.ran run s at in
    record { within = ran.within; front = ran.front }

pub returns-in-Err-clause-refused : goal.returns-in-Err-clause-refused
returns-in-Err-clause-refused g c s at = c.in-Err.ensures.refused (λ run trees may.
    let it = c.run_list-run.ensures.front run s at trees may in
    (after s (take it.0 c.args.calls.now), it.4))
