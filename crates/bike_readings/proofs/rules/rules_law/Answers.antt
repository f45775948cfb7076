use Rattle.bike_readings.proofs.RulesLaws.{good_are_of, of_are_good, of_is_read_off}
use Rattle.bike_readings.proofs.rules.rules_law.Goals as goal

pub returns-clause-sound : goal.returns-clause-sound
returns-clause-sound c = good_are_of

pub returns-clause-complete : goal.returns-clause-complete
returns-clause-complete c = of_are_good

pub returns-clause-read_off : goal.returns-clause-read_off
returns-clause-read_off c = of_is_read_off
