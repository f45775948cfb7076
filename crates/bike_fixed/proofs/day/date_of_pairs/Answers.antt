use Rattle.std.proofs.Common.{◌≡◌, ◌+◌, ◌*◌, Some, [], ◌∷◌, rules}
use Rattle.bike_fixed.specs.Day.{date_parts}
use Rattle.bike_fixed.proofs.day.date_of_pairs.Goals as goal

pub returns-in_err-pair-clause-none : goal.returns-in_err-pair-clause-none
returns-in_err-pair-clause-none c = rw c.in_err-pair.ensures.none (search rules)

pub returns-in_err-pair-2-clause-none : goal.returns-in_err-pair-2-clause-none
returns-in_err-pair-2-clause-none c = rw (c.in_ok-pair.ensures.some.0, c.in_err-pair-2.ensures.none) (search rules)

pub returns-in_err-pair-3-clause-none : goal.returns-in_err-pair-3-clause-none
returns-in_err-pair-3-clause-none c = rw (c.in_ok-pair.ensures.some.0, c.in_ok-pair-2.ensures.some.0, c.in_err-pair-3.ensures.none) (search rules)

pub returns-in_err-pair-4-clause-none : goal.returns-in_err-pair-4-clause-none
returns-in_err-pair-4-clause-none c = rw (c.in_ok-pair.ensures.some.0, c.in_ok-pair-2.ensures.some.0, c.in_ok-pair-3.ensures.some.0, c.in_err-pair-4.ensures.none) (search rules)

-- What was read are the text's parts: proved once, for both clauses.
parts : (c : goal.After-date_of) → date_parts (c.args.century.0 ∷ c.args.century.1 ∷ c.args.year.0 ∷ c.args.year.1 ∷ 45 ∷ c.args.month.0 ∷ c.args.month.1 ∷ 45 ∷ c.args.day.0 ∷ c.args.day.1 ∷ [])
    ≡ Some (c.in_ok-pair.field-0 * 100 + c.in_ok-pair-2.field-0, c.in_ok-pair-3.field-0, c.in_ok-pair-4.field-0)
parts c =
    rw (
      c.in_ok-pair.ensures.some.0,
      c.in_ok-pair-2.ensures.some.0,
      c.in_ok-pair-3.ensures.some.0,
      c.in_ok-pair-4.ensures.some.0,
      c.in_ok-pair.ensures.some.1,
      c.in_ok-pair-2.ensures.some.1,
      c.in_ok-pair-3.ensures.some.1,
      c.in_ok-pair-4.ensures.some.1,
    )

pub returns-clause-some : goal.returns-clause-some
returns-clause-some c = rw (parts c) c.date_of.ensures.some

pub returns-clause-none : goal.returns-clause-none
returns-clause-none c = rw (parts c) c.date_of.ensures.none
