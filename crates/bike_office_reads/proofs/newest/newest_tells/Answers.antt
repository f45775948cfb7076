use Rattle.std.proofs.Common.{sym, subst, ◌∙◌}
use Rattle.bike_sql.proofs.ChainLaws.{reads_as, reads_both}
use Rattle.bike_schema.proofs.AnswerLemmas.{reads_weaker, answers_next}
use Rattle.bike_office_reads.proofs.NewestLemmas.{AreNewestTo, GoesOn, none_to_zero, goes_on_from, comes_to_end, is_newest, is_older}
use Rattle.bike_office_reads.proofs.newest.newest_tells.Goals as goal

pub rentals-init : goal.rentals-init
rentals-init g c = reads_weaker c.in_ok-next.ensures (λ db x is s h. goes_on_from s 0 x (is s h) (none_to_zero s))

pub returns-in_default : goal.returns-in_default
returns-in_default g c = reads_as c.rentals.invariant (λ db goes s h. comes_to_end s (subst (GoesOn s) c.in_default.is (goes s h)))

pub returns-then-branch-number : goal.returns-then-branch-number
returns-then-branch-number g c =
    reads_as (reads_both c.rentals.invariant c.in_ok-find_newest_number.ensures) (λ db both s h.
    is_older s c.in-Some.ride c.in_ok-find_newest_number.field-0 (subst (GoesOn s) c.in-Some.is (both.0 s h)) (both.1 s h) (λ same. c.if-branch-number.true (same ∙ sym c.get-number.ensures.value)))

pub rentals-preserved : goal.rentals-preserved
rentals-preserved g c =
    answers_next (reads_both c.rentals.invariant c.in_ok-find_newest_number.ensures) c.in_ok-next-2.ensures (λ db x both is s h.
    goes_on_from s c.get-number.result x (is s h)
    (subst (λ n. AreNewestTo s n) (sym c.get-number.ensures.value)
    (is_newest s c.in-Some.ride c.in_ok-find_newest_number.field-0 (subst (GoesOn s) c.in-Some.is (both.0 s h)) (both.1 s h) (c.if-branch-number.false ∙ c.get-number.ensures.value))))
