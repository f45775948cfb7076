-- A rental that ended, as a row.
use Rattle.std.specs.Prelude.{ℕ}
use Rattle.bike_operator.specs.declared.rental_info.ClosingInfo.{ClosingInfo}
use Rattle.bike_operator.specs.declared.rental_info.RentalInfo.{RentalInfo}
use Rattle.bike_day_texts.specs.Rows.{EndedRow}

-- a rental of this number that was closed so
abbrev pub info_row : ℕ → RentalInfo → ClosingInfo → EndedRow
info_row number r c = record {
  number = number;
  rider = r.rider;
  bike = r.bike;
  plan = r.plan;
  from_station = r.from_station;
  start = r.start;
  to_station = c.to_station;
  finish = c.finish;
  fare = c.fare;
}
