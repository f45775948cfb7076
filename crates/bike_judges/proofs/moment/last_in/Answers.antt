use Rattle.std.proofs.Common.{ap, sym, ◌∙◌}
use Rattle.bike_readings.proofs.ReadLemmas.{read_some, read_none}
use Rattle.bike_judges.specs.Moments.{last_in}
use Rattle.bike_judges.proofs.moment.last_in.Goals as goal

pub returns-in-Ok : goal.returns-in-Ok
returns-in-Ok c = read_some _ _ (sym c.in-Ok.is ∙ c.moment_at.ensures) ∙ ap last_in (sym c.in-Some.is)

pub returns-in-Some : goal.returns-in-Some
returns-in-Some c = read_none _ _ (sym c.in-Err.is ∙ c.moment_at.ensures) ∙ ap last_in (sym c.in-Some.is)
