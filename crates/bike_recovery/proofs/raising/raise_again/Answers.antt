use Rattle.std.proofs.Common.{inl, inr, None, arith}
use Rattle.sqlite.specs.State.{HasCleanDisk}
use Rattle.sqlite.specs.Held.{state}
use Rattle.bike_recovery.proofs.StopLemmas.{shut_only}
use Rattle.bike_recovery.proofs.raising.raise_again.Goals as goal

pub returns-in-Ok-raise-clause-raised : goal.returns-in-Ok-raise-clause-raised
returns-in-Ok-raise-clause-raised g c clean v s left =
    let again = c.in-Ok.again in
    let again_clean : HasCleanDisk (state g.S.Store again) = omega (arith, clean, c.in-Ok-raise.ensures.clean) in
    elim (left (state g.S.Store again).now.trees (c.in-Ok.ensures.left again_clean)) [
      | inl old ↦ c.in-Ok-raise.ensures.found v s old clean
      | inr new ↦ c.in-Ok-raise.ensures.found None s new clean
    ]

pub returns-in-Err-raise-clause-refused : goal.returns-in-Err-raise-clause-refused
returns-in-Err-raise-clause-refused g c v s left clean =
    let again = c.in-Ok.again in
    let again_clean : HasCleanDisk (state g.S.Store again) = omega (arith, clean, c.in-Err-raise.ensures.clean) in
    let conn_clean : HasCleanDisk (state g.S.Store c.args.conn) = omega (arith, again_clean, c.in-Ok.ensures.clean) in
    elim (left conn_clean (state g.S.Store again).now.trees (c.in-Ok.ensures.left again_clean)) [
      | inl old ↦ c.in-Err-raise.ensures.refused v s old clean
      | inr new ↦ c.in-Err-raise.ensures.refused None s new clean
    ]

pub returns-in-Err-clause-refused : goal.returns-in-Err-clause-refused
returns-in-Err-clause-refused g c v s left = shut_only g.S.Store c.args.conn c.in-Err.shut c.in-Err.ensures.refused
