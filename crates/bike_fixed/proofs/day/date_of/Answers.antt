use Rattle.std.proofs.Common.{◌≡◌, ℕ, ℤ, pos, Result, Ok, Err, Option, IfNone, IsOk, ◌↔◌, true, false, rules}
use Rattle.std.specs.Result.{result_ok}
use Rattle.jiff.specs.Words.{IsDate}
use Rattle.bike_fixed.proofs.day.date_of.Goals as goal

-- numbers of which no date was made are no date
no_date : {T E : Type 0} (made : Result T E) (date : Option T) (P : ℤ → ℤ → ℤ → Type 0) (y m d : ℤ) (year month day : ℕ) → (IsOk made ↔ P y m d)
    → date ≡ result_ok made → y ≡ pos year → m ≡ pos month → d ≡ pos day → IfNone date (P (pos year) (pos month) (pos day) → ⊥)
no_date (Ok x) date P y m d year month day succeeds gives of_year of_month of_day = rw gives tt
no_date (Err x) date P y m d year month day succeeds gives of_year of_month of_day =
    rw (gives, ← of_year, ← of_month, ← of_day) (λ named. let ok : false ≡ true = succeeds.1 named in cc)

pub returns-clause-none : goal.returns-clause-none
returns-clause-none c = no_date c.new.result c.ok.result IsDate _ _ _ _ _ _ c.new.ensures.succeeds c.ok.ensures.value (search rules) (search rules) (search rules)
