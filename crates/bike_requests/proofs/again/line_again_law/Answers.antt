use Rattle.bike_requests.proofs.LineAgain.{line_again, line_fits}
use Rattle.bike_requests.proofs.again.line_again_law.Goals as goal

pub returns-clause-spelled : goal.returns-clause-spelled
returns-clause-spelled c = line_again

pub returns-clause-unbroken : goal.returns-clause-unbroken
returns-clause-unbroken c moment q past good = (line_fits moment q past good).unbroken
