use Rattle.std.proofs.Common.{◌≡◌, pos, arith}
use Rattle.jiff.proofs.SpanFacts.{signed_arith}
use Rattle.jiff.specs.Words.{epoch_day}
use Rattle.bike_fixed.proofs.Calendars.{civil_is}
use Rattle.bike_fixed.proofs.moment.date_of.Goals as goal

pub returns : goal.returns
returns c =
    let day : epoch_day c.from_days_since_min.result ≡ pos c.args.day = omega (arith, signed_arith, c.from_days_since_min.ensures) in
    let civil = civil_is c.from_days_since_min.result c.args.day day in
    record { year = civil.0; month = civil.1; day = civil.2 }
