-- What is folded over the rows of riders, entries and rentals.
use Rattle.std.proofs.Common.{◌≡◌, inl, inr, ℕ, ◌+◌, ◌≤◌, List, [], ◌∷◌, length, Bool, Option, Some, None, max, ap, arith}
use Rattle.std.specs.List.{fold, cons_option}
use Rattle.sqlite_value.specs.Order.{Row}
use Rattle.sqlite_rules.specs.Lists.{Has}
use Rattle.bike_operator.specs.Counts.{count}
use Rattle.bike_laws.proofs.SingleSteps.CountLemmas.{count-cons, weight}
use Rattle.bike_readings.specs.Readings.{rider_read}
use Rattle.bike_ledger_rules.specs.declared.riders.RiderNumbers.{RiderNumbers}
use Rattle.bike_ledger_rules.specs.Riders.{behind, AreBelow}

-- rows of one width
abbrev pub AreWide : ℕ → List Row → Type 0
AreWide width rows = (r : Row) → Has rows r → length r ≡ width

pub count_option : {A : Type 0} (test : A → Bool) (o : Option A) (xs : List A)
    → count test (cons_option o xs) ≡ weight test o + count test xs
count_option test None xs = omega arith
count_option test (Some x) xs = count-cons test x xs

-- ---- how far the numbers of riders go

-- of a rider's row by itself
abbrev pub more : RiderNumbers → Row → RiderNumbers
more a row = record a { end = max a.end (behind (rider_read row)) }

grows : (rows : List Row) (a : RiderNumbers) → a.end ≤ (fold more a rows).end
grows [] a = omega arith
grows (r ∷ rows) a = let rest = grows rows (more a r) in omega (arith, rest)

each_behind : (rows : List Row) (a : RiderNumbers) (row : Row) → Has rows row → behind (rider_read row) ≤ (fold more a rows).end
each_behind [] a row has = elim has [ ]
each_behind (r ∷ rows) a row (inl is) =
    let rest = grows rows (more a r) in
    let same : behind (rider_read row) ≡ behind (rider_read r) = ap (λ (x : Row). behind (rider_read x)) is in
    omega (arith, rest, same)
each_behind (r ∷ rows) a row (inr later) = each_behind rows (more a r) row later

pub all_below : (rows : List Row) (a : RiderNumbers) → AreBelow (fold more a rows).end rows
all_below rows a row e has is =
    let each = each_behind rows a row has in
    let here : behind (rider_read row) ≡ e.0 + 1 = ap behind is in
    omega (arith, each, here)
