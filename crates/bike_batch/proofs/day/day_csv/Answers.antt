use Rattle.std.proofs.Common.{Err, ap}
use Rattle.bike_day_texts.specs.declared.table.DayTable.TheVariants.{Entries, Rentals, Requests}
use Rattle.bike_batch.proofs.DayLemmas.{refused, day_refused, day_written}
use Rattle.bike_batch.proofs.day.day_csv.Goals as goal

pub returns-in_err-begin-clause-day : goal.returns-in_err-begin-clause-day
returns-in_err-begin-clause-day g c =
    day_refused c.in_err-begin.field-0.0 _ c.from_residual.ensures.1 c.args.date.now c.args.zone.now (g.W.Write.contents c.args.out.now)
    (refused c.args.date.now c.args.zone.now c.in_err-begin.field-0.0 (λ is. c.in_err-begin.ensures.bad_date (ap Err is))
    (λ is. c.in_err-begin.ensures.bad_zone (ap Err is)) (λ is. c.in_err-begin.ensures.out_of_range (ap Err is))
    (λ is. c.in_err-begin.ensures.memory (ap Err is)))

pub returns-in-Entries-clause-wrote : goal.returns-in-Entries-clause-wrote
returns-in-Entries-clause-wrote g c clean s at =
    day_written c.args.date.now c.args.zone.now c.in_ok-begin.begin c.in_ok-begin.until c.in_ok-begin.ensures.bounds
    _ _ s c.args.table Entries c.in-Entries.is
    c.write_entries.result (c.write_entries.ensures.wrote clean s at)

pub returns-in-Rentals-clause-wrote : goal.returns-in-Rentals-clause-wrote
returns-in-Rentals-clause-wrote g c clean s at =
    day_written c.args.date.now c.args.zone.now c.in_ok-begin.begin c.in_ok-begin.until c.in_ok-begin.ensures.bounds
    _ _ s c.args.table Rentals c.in-Rentals.is
    c.write_rentals.result (c.write_rentals.ensures.wrote clean s at)

pub returns-in-Requests-clause-wrote : goal.returns-in-Requests-clause-wrote
returns-in-Requests-clause-wrote g c clean s at =
    day_written c.args.date.now c.args.zone.now c.in_ok-begin.begin c.in_ok-begin.until c.in_ok-begin.ensures.bounds
    _ _ s c.args.table Requests c.in-Requests.is
    c.write_requests.result (c.write_requests.ensures.wrote clean s at)
