use Rattle.bike_readings.proofs.RulesLaws.{bad_are_of_none, one_verdict}
use Rattle.bike_readings.proofs.rules.verdict_law.Goals as goal

pub returns-clause-none : goal.returns-clause-none
returns-clause-none c = bad_are_of_none

pub returns-clause-one : goal.returns-clause-one
returns-clause-one c = one_verdict
