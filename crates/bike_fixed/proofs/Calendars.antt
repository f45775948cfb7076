-- Counting off years and months finds the date that has the day number.
use Rattle.std.proofs.Common.{◌≡◌, ℕ, ℤ, zero, suc, pos, negsuc, ◌+◌, ◌-◌, ◌<◌, ◌≤◌, ◌-ℤ◌, ◌<ℤ◌, ◌≤ℤ◌, true, false, ltb, unsigned_abs, refl, sym, ap, ◌∙◌, arith, lit≤, inl}
use Rattle.std.proofs.lemmas.Bool.Decides.{nat_tests}
use Rattle.std.proofs.lemmas.Int.{by_lt_z}
use Rattle.jiff.proofs.SpanFacts.{signed_arith}
use Rattle.jiff.specs.Types.{Date}
use Rattle.jiff.specs.Words.{epoch_day}
use Rattle.jiff_core.specs.Calendar.{days_in_year, days_in_month, days_of_years, days_of_months, day_count, days_from_civil}
use Rattle.jiff_core.proofs.DateLemmas.{epoch_day-lt, epoch_day-ordinal, civil}
use Rattle.jiff_core.proofs.CalendarLemmas.{day_of_year_bound, days_of_months-zero}
use Rattle.jiff_core.proofs.StandardFacts.{known_days}
use Rattle.bike_fixed.specs.Calendar.{year_and_day, month_and_day, civil_date}

-- the days of that many years from the year on
days_of_span : ℕ → ℕ → ℕ
days_of_span year zero = 0
days_of_span year (suc count) = days_in_year (pos year) + days_of_span (year + 1) count

-- the days of that many months from the month on
days_of_run : ℕ → ℕ → ℕ → ℕ
days_of_run year month zero = 0
days_of_run year month (suc count) = days_in_month (pos year) month + days_of_run year (month + 1) count

years_from : (year count : ℕ) → days_of_years (year + 10000 + count) ≡ days_of_years (year + 10000) + days_of_span year count
unfolding days_of_years days_of_span
years_from year zero = let same : year + 10000 + 0 ≡ year + 10000 = omega arith in rw same (omega arith)
years_from year (suc count) =
    let moved : year + 10000 + suc count ≡ (year + 1) + 10000 + count = omega arith in
    let next : (year + 1) + 10000 ≡ suc (year + 10000) = omega arith in
    let this : pos (year + 10000) -ℤ pos 10000 ≡ pos year = omega (arith, signed_arith) in
    ap days_of_years moved ∙ years_from (year + 1) count ∙ ap (λ (n : ℕ). days_of_years n + days_of_span (year + 1) count) next
    ∙ ap (λ (z : ℤ). days_of_years (year + 10000) + days_in_year z + days_of_span (year + 1) count) this ∙ omega arith

months_from : (year month count : ℕ) → days_of_months (pos year) (month + count) ≡ days_of_months (pos year) month + days_of_run year (month + 1) count
unfolding days_of_months days_of_run
months_from year month zero = let same : month + 0 ≡ month = omega arith in rw same (omega arith)
months_from year month (suc count) =
    let moved : month + suc count ≡ (month + 1) + count = omega arith in
    let next : month + 1 ≡ suc month = omega arith in
    ap (days_of_months (pos year)) moved ∙ months_from year (month + 1) count
    ∙ ap (λ (n : ℕ). days_of_months (pos year) n + days_of_run year (month + 1 + 1) count) next
    ∙ ap (λ (n : ℕ). days_of_months (pos year) month + days_in_month (pos year) n + days_of_run year (month + 1 + 1) count) (sym next) ∙ omega arith

year_found : (most year count day : ℕ) → count ≤ most → day < days_in_year (pos (year + count)) → year_and_day most year (days_of_span year count + day) ≡ (year + count, day)
unfolding year_and_day days_of_span
year_found zero year zero day few lt = let a : 0 + day ≡ day = omega arith in let b : year + 0 ≡ year = omega arith in rw (a, b) refl
year_found zero year (suc count) day few lt = absurd (omega arith)
year_found (suc most) year zero day few lt =
    let a : 0 + day ≡ day = omega arith in
    let b : year + 0 ≡ year = omega arith in
    let in_year : day < days_in_year (pos year) = rw b at lt in
    let t : ltb day (days_in_year (pos year)) ≡ true = grind (arith, nat_tests) in
    rw (a, b, t) refl
year_found (suc most) year (suc count) day few lt =
    let y = days_in_year (pos year) in
    let s = days_of_span (year + 1) count in
    let t : ltb (y + s + day) y ≡ false = grind (arith, nat_tests) in
    let rest : y + s + day - y ≡ s + day = omega arith in
    let same : year + 1 + count ≡ year + suc count = omega arith in
    let ih = year_found most (year + 1) count day (omega arith) (rw same lt) in
    rw (t, rest) (ih ∙ rw same refl)

month_found : (most year month count day : ℕ) → count ≤ most → day < days_in_month (pos year) (month + count)
    → month_and_day most year month (days_of_run year month count + day) ≡ (month + count, day)
unfolding month_and_day days_of_run
month_found zero year month zero day few lt = let a : 0 + day ≡ day = omega arith in let b : month + 0 ≡ month = omega arith in rw (a, b) refl
month_found zero year month (suc count) day few lt = absurd (omega arith)
month_found (suc most) year month zero day few lt =
    let a : 0 + day ≡ day = omega arith in
    let b : month + 0 ≡ month = omega arith in
    let in_month : day < days_in_month (pos year) month = rw b at lt in
    let t : ltb day (days_in_month (pos year) month) ≡ true = grind (arith, nat_tests) in
    rw (a, b, t) refl
month_found (suc most) year month (suc count) day few lt =
    let m = days_in_month (pos year) month in
    let s = days_of_run year (month + 1) count in
    let t : ltb (m + s + day) m ≡ false = grind (arith, nat_tests) in
    let rest : m + s + day - m ≡ s + day = omega arith in
    let same : month + 1 + count ≡ month + suc count = omega arith in
    let ih = month_found most year (month + 1) count day (omega arith) (rw same lt) in
    rw (t, rest) (ih ∙ rw same refl)

-- the day number of the first day of a year
year_begins : (count : ℕ) → days_from_civil (pos (1970 + count)) 1 1 ≡ pos (days_of_span 1970 count)
unfolding days_from_civil day_count days_of_months
year_begins count =
    let moved : 1970 + count + 10000 ≡ 1970 + 10000 + count = omega arith in
    let counted : days_of_years (1970 + count + 10000) ≡ days_of_years 11970 + days_of_span 1970 count = ap days_of_years moved ∙ years_from 1970 count in
    omega (arith, signed_arith, counted)

epoch : Date
epoch = record { year = pos 1970; month = 1; day = 1; year_in = (Prim.search, Prim.search); month_in = (lit≤ tt, lit≤ tt); day_in = (lit≤ tt, lit≤ tt) }

pub from_1970 : (d : Date) → pos 0 ≤ℤ epoch_day d → pos 1970 ≤ℤ d.year
unfolding epoch
from_1970 d h = by_lt_z d.year (pos 1970)
    (λ lt. let e : epoch_day d <ℤ epoch_day epoch = epoch_day-lt d epoch (inl lt) in let k : epoch_day epoch ≡ pos 0 = known_days.0 in absurd (omega (arith, signed_arith)))
    (λ ge. ge)

-- a day number made of whole years, whole months and days is taken apart again
civil_parts : (count month day n : ℕ) → count ≤ 8029 → 1 ≤ month → month ≤ 12 → 1 ≤ day → day ≤ days_in_month (pos (1970 + count)) month
    → days_of_months (pos (1970 + count)) (month - 1) + day ≤ days_in_year (pos (1970 + count))
    → n ≡ days_of_span 1970 count + (days_of_months (pos (1970 + count)) (month - 1) + day - 1)
    → (1970 + count ≡ (civil_date n).0) × (month ≡ (civil_date n).1) × (day ≡ (civil_date n).2)
civil_parts count month day n few first last some within in_year is =
    let year = 1970 + count in
    let place = days_of_months (pos year) (month - 1) + day - 1 in
    let y : year_and_day 8029 1970 n ≡ (year, place) = ap (year_and_day 8029 1970) is ∙ year_found 8029 1970 count place few (omega arith) in
    let from_january : 0 + (month - 1) ≡ month - 1 = omega arith in
    let months = rw from_january at (months_from year 0 (month - 1)) in
    let none = days_of_months-zero (pos year) in
    let one : 0 + 1 ≡ 1 = refl in
    let this : 1 + (month - 1) ≡ month = omega arith in
    let split : place ≡ days_of_run year 1 (month - 1) + (day - 1) = omega (arith, months, none) in
    let m : month_and_day 11 year 1 place ≡ (1 + (month - 1), day - 1) = ap (month_and_day 11 year 1) split ∙ month_found 11 year 1 (month - 1) (day - 1) (omega arith) (rw this (omega arith)) in
    rw (y, m) (refl, sym this, omega arith)

years_since : (year : ℤ) → pos 1970 ≤ℤ year → year ≡ pos (1970 + (unsigned_abs year - 1970))
years_since (pos year) h = let same : year ≡ 1970 + (year - 1970) = omega (arith, signed_arith, h) in ap pos same
years_since (negsuc year) h = absurd (omega (arith, signed_arith, h))

pub civil_is : (d : Date) (n : ℕ) → epoch_day d ≡ pos n → (d.year ≡ pos (civil_date n).0) × (d.month ≡ (civil_date n).1) × (d.day ≡ (civil_date n).2)
civil_is d n e =
    let since = from_1970 d (omega (arith, signed_arith, e)) in
    let count = unsigned_abs d.year - 1970 in
    let year : d.year ≡ pos (1970 + count) = years_since d.year since in
    let last = rw year at d.year_in.1 in
    let few : count ≤ 8029 = omega (arith, signed_arith, last) in
    let bound = rw year at (day_of_year_bound d.year d.month d.day (civil d)) in
    let within = rw year at d.day_in.1 in
    let ordinals = rw year at (epoch_day-ordinal d) in
    let begins = year_begins count in
    let number = rw year at e in
    let is : n ≡ days_of_span 1970 count + (days_of_months (pos (1970 + count)) (d.month - 1) + d.day - 1) = omega (arith, signed_arith, number, ordinals, begins, d.day_in.0) in
    let parts = civil_parts count d.month d.day n few d.month_in.0 d.month_in.1 d.day_in.0 within bound is in
    (year ∙ ap pos parts.0, parts.1, parts.2)
