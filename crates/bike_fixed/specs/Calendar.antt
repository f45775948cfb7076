-- The civil date of a day number, day 0 being 1970-01-01: years and months are counted off in turn.
use Rattle.std.specs.Prelude.{ℕ, zero, suc, ◌+◌, ◌-◌, nat_lt, pos, if◌then◌else◌}
use Rattle.jiff_core.specs.Calendar.{days_in_year, days_in_month}

-- the year, and the place in it from 0, of the day that many days after 1 January of the year; at most `count` years on
unfoldable pub year_and_day : ℕ → ℕ → ℕ → ℕ × ℕ
year_and_day zero year day = (year, day)
year_and_day (suc count) year day =
    if nat_lt day (days_in_year (pos year)) then (year, day)
    else year_and_day count (year + 1) (day - days_in_year (pos year))

-- the month, and the place in it from 0, of the day that many
-- days after the first of the month; at most `count` months on
unfoldable pub month_and_day : ℕ → ℕ → ℕ → ℕ → ℕ × ℕ
month_and_day zero year month day = (month, day)
month_and_day (suc count) year month day =
    if nat_lt day (days_in_month (pos year) month) then (month, day)
    else month_and_day count year (month + 1) (day - days_in_month (pos year) month)

-- year, month and day of the month; from 1970 there are 8,029 years to 9999
abbrev pub civil_date : ℕ → ℕ × ℕ × ℕ
civil_date days =
    let year = year_and_day 8029 1970 days in
    let month = month_and_day 11 year.0 1 year.1 in
    (year.0, month.0, month.1 + 1)
