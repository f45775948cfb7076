use Rattle.std.proofs.Common.{arith, sym, ◌∙◌}
use Rattle.bike_batch.proofs.Columns.{has_field, five_fields}
use Rattle.bike_batch.proofs.table.columns_of.Goals as goal

pub returns-in_err-get-clause-other : goal.returns-in_err-get-clause-other
returns-in_err-get-clause-other c = λ _ five. has_field _ 0 (omega (arith, five)) c.in_err-get.ensures.value

pub returns-in_err-get-2-clause-other : goal.returns-in_err-get-2-clause-other
returns-in_err-get-2-clause-other c = λ _ five. has_field _ 1 (omega (arith, five)) c.in_err-get-2.ensures.value

pub returns-in_err-get-3-clause-other : goal.returns-in_err-get-3-clause-other
returns-in_err-get-3-clause-other c = λ _ five. has_field _ 2 (omega (arith, five)) c.in_err-get-3.ensures.value

pub returns-in_err-get-4-clause-other : goal.returns-in_err-get-4-clause-other
returns-in_err-get-4-clause-other c = λ _ five. has_field _ 3 (omega (arith, five)) c.in_err-get-4.ensures.value

pub returns-in_err-get-5-clause-other : goal.returns-in_err-get-5-clause-other
returns-in_err-get-5-clause-other c = λ _ five. has_field _ 4 (omega (arith, five)) c.in_err-get-5.ensures.value

pub returns-clause-five : goal.returns-clause-five
returns-clause-five c =
    five_fields _ _ _ _ _ _
    (sym c.len.ensures ∙ c.if-len-ne5.false) c.in_ok-get.ensures.value c.in_ok-get-2.ensures.value c.in_ok-get-3.ensures.value c.in_ok-get-4.ensures.value c.in_ok-get-5.ensures.value
