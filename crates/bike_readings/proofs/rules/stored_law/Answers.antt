use Rattle.bike_readings.proofs.RulesLaws.{stored_in_order, stored_good, stored_read_off, stored_bad}
use Rattle.bike_readings.proofs.rules.stored_law.Goals as goal

pub returns-clause-in_order : goal.returns-clause-in_order
returns-clause-in_order c = stored_in_order

pub returns-clause-sound : goal.returns-clause-sound
returns-clause-sound c = stored_good

pub returns-clause-read_off : goal.returns-clause-read_off
returns-clause-read_off c = stored_read_off

pub returns-clause-none : goal.returns-clause-none
returns-clause-none c = stored_bad
