use Rattle.std.proofs.Common.{◌≡◌, sym, ◌∙◌, rules, FitsSigned, ◌/◌, ◌≤◌, Some}
use Rattle.std.specs.Int.{w128}
use Rattle.std.proofs.lemmas.Int.{to_z-of_z}
use Rattle.jiff.specs.Words.{time_nanos, plain_zone}
use Rattle.bike_fixed.specs.Whole.{last_moment}
use Rattle.bike_fixed.proofs.Begins.{is_instant, begins_at, begins_second, is_moment, abs_is, below_zero, not_below_zero, is_made}
use Rattle.bike_fixed.proofs.day.begin_of.Goals as goal

pub returns-in_err-instant-clause-before : goal.returns-in_err-instant-clause-before
returns-in_err-instant-clause-before c =
    let zero : time_nanos c.to_datetime-midnight.result.time ≡ 0 = rw c.to_datetime-midnight.ensures.time c.midnight.ensures in
    absurd (is_instant
    (plain_zone c.args.zone.now) c.args.date c.to_datetime-midnight.result _ _ c.disambiguate.result c.to_datetime-midnight.ensures.date zero c.to_ambiguous_timestamp.ensures.datetime c.to_ambiguous_timestamp.ensures.offsets c.disambiguate.ensures c.requires
    (sym c.ok.ensures.value ∙ c.in_err-instant.was))

pub returns-then-nanos-lt0-clause-before : goal.returns-then-nanos-lt0-clause-before
returns-then-nanos-lt0-clause-before c =
    let zero : time_nanos c.to_datetime-midnight.result.time ≡ 0 = rw c.to_datetime-midnight.ensures.time c.midnight.ensures in
    let b = begins_at (plain_zone c.args.zone.now) c.args.date c.to_datetime-midnight.result _ _ c.disambiguate.result c.to_datetime-midnight.ensures.date zero c.to_ambiguous_timestamp.ensures.datetime c.to_ambiguous_timestamp.ensures.offsets c.disambiguate.ensures c.in_ok-instant.instant
    (sym c.ok.ensures.value ∙ c.in_ok-instant.was) in
    let f : FitsSigned w128 c.as_nanosecond-nanos.result = search rules in
    let t = rw (to_z-of_z w128 c.as_nanosecond-nanos.result f, c.as_nanosecond-nanos.ensures) at c.if-nanos-lt0.true in
    (_, b, below_zero _ t)

pub returns-clause-begins : goal.returns-clause-begins
returns-clause-begins c =
    let zero : time_nanos c.to_datetime-midnight.result.time ≡ 0 = rw c.to_datetime-midnight.ensures.time c.midnight.ensures in
    let f : FitsSigned w128 c.as_nanosecond-nanos.result = search rules in
    let t = rw (to_z-of_z w128 c.as_nanosecond-nanos.result f, c.as_nanosecond-nanos.ensures) at c.if-nanos-lt0.false in
    let u = rw (to_z-of_z w128 c.as_nanosecond-nanos.result f, c.as_nanosecond-nanos.ensures) at c.unsigned_abs.ensures.value in
    let nanos = abs_is _ _ (not_below_zero _ t) u in
    let some = sym c.ok.ensures.value ∙ c.in_ok-instant.was in
    let few : c.unsigned_abs.result / 1_000_000_000 ≤ last_moment = is_moment (plain_zone c.args.zone.now) c.args.date c.to_datetime-midnight.result _ _ c.disambiguate.result c.to_datetime-midnight.ensures.date zero c.to_ambiguous_timestamp.ensures.datetime c.to_ambiguous_timestamp.ensures.offsets c.disambiguate.ensures c.requires c.in_ok-instant.instant c.unsigned_abs.result some nanos in
    let made : c.new.result ≡ Some (c.unsigned_abs.result / 1_000_000_000) = is_made _ c.new.result c.new.ensures few in
    rw made (begins_second
    (plain_zone c.args.zone.now) c.args.date c.to_datetime-midnight.result _ _ c.disambiguate.result c.to_datetime-midnight.ensures.date zero c.to_ambiguous_timestamp.ensures.datetime c.to_ambiguous_timestamp.ensures.offsets c.disambiguate.ensures c.in_ok-instant.instant c.unsigned_abs.result some nanos)
