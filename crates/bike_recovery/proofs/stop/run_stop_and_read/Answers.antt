use Rattle.std.proofs.Common.{arith}
use Rattle.std.proofs.Math.Logic.{∥∥₁_map}
use Rattle.sqlite.specs.State.{HasCleanDisk}
use Rattle.sqlite.specs.Files.{over_files}
use Rattle.bike_desk.specs.Desk.{desk_state}
use Rattle.bike_recovery.proofs.FrontLemmas.{sound_at}
use Rattle.bike_recovery.proofs.stop.run_stop_and_read.Goals as goal

pub returns-in-Ok-clause-headline : goal.returns-in-Ok-clause-headline
returns-in-Ok-clause-headline g c s at hold clean =
    let early : HasCleanDisk (desk_state over_files c.in-Ok.again) = omega (arith, clean, c.read_again-reading.ensures.clean) in
    let run : HasCleanDisk (desk_state over_files c.run_list-run.new.self) = omega (arith, hold.clean, c.resume_files-stopped.ensures.clean) in
    let fronts = (rw c.in-Ok.is at c.resume_files-stopped.ensures.front hold s c.args.calls.now _ (c.run_list-run.ensures.front run s at)) early in
    ∥∥₁_map fronts (λ it. (it.0, it.1, it.2, it.3, sound_at over_files c.in-Ok.again _ it.4, c.read_again-reading.ensures.reads clean _ it.4))

pub returns-in-Ok-clause-replies : goal.returns-in-Ok-clause-replies
returns-in-Ok-clause-replies g c s at clean =
    let run : HasCleanDisk (desk_state over_files c.run_list-run.new.self) = omega (arith, clean, c.resume_files-stopped.ensures.clean) in
    let ran = c.run_list-run.ensures.ran run s at in
    record { within = ran.within; front = ran.front }

pub returns-in-Err-clause-replies : goal.returns-in-Err-clause-replies
returns-in-Err-clause-replies g c s at clean =
    let run : HasCleanDisk (desk_state over_files c.run_list-run.new.self) = omega (arith, clean, c.resume_files-stopped.ensures.clean) in
    let ran = c.run_list-run.ensures.ran run s at in
    record { within = ran.within; front = ran.front }

pub returns-in-Err-clause-refused : goal.returns-in-Err-clause-refused
returns-in-Err-clause-refused g c s at hold =
    let run : HasCleanDisk (desk_state over_files c.run_list-run.new.self) = omega (arith, hold.clean, c.resume_files-stopped.ensures.clean) in
    rw c.in-Err.is at c.resume_files-stopped.ensures.refused hold s c.args.calls.now _ (c.run_list-run.ensures.front run s at)
