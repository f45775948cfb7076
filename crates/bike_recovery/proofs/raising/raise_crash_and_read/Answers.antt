use Rattle.std.proofs.Common.{arith}
use Rattle.sqlite.specs.State.{HasCleanDisk}
use Rattle.sqlite.specs.Held.{state}
use Rattle.bike_desk.specs.Desk.{desk_state}
use Rattle.bike_recovery.proofs.raising.raise_crash_and_read.Goals as goal

pub returns-in-Ok-adopt-clause-headline : goal.returns-in-Ok-adopt-clause-headline
returns-in-Ok-adopt-clause-headline g c v s stands live clean =
    let desk : HasCleanDisk (desk_state g.S.Store c.in-Ok-adopt.desk) = omega (arith, clean, c.read_again-reading.ensures.clean) in
    let raised : HasCleanDisk (state g.S.Store c.in-Ok.raised) = omega (arith, desk, c.in-Ok-adopt.ensures.clean) in
    let first : HasCleanDisk (state g.S.Store c.raise_anyhow-first.result) = omega (arith, raised, c.in-Ok.ensures.clean) in
    let holds = c.in-Ok.ensures.raised raised v s (c.raise_anyhow-first.ensures.left first v s stands live) in
    c.read_again-reading.ensures.reads clean s (c.in-Ok-adopt.ensures.found s ((state g.S.Store c.in-Ok.raised).now.schema, holds.now) desk)

pub returns-in-Err-adopt-clause-refused : goal.returns-in-Err-adopt-clause-refused
returns-in-Err-adopt-clause-refused g c v s stands live clean =
    let raised : HasCleanDisk (state g.S.Store c.in-Ok.raised) = omega (arith, clean, c.in-Err-adopt.ensures.clean) in
    let first : HasCleanDisk (state g.S.Store c.raise_anyhow-first.result) = omega (arith, raised, c.in-Ok.ensures.clean) in
    let holds = c.in-Ok.ensures.raised raised v s (c.raise_anyhow-first.ensures.left first v s stands live) in
    c.in-Err-adopt.ensures.refused s ((state g.S.Store c.in-Ok.raised).now.schema, holds.now) clean

pub returns-in-Err-clause-refused : goal.returns-in-Err-clause-refused
returns-in-Err-clause-refused g c v s stands live =
    c.in-Err.ensures.refused v s (λ first. c.raise_anyhow-first.ensures.left first v s stands live)
