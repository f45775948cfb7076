use Rattle.std.proofs.Common.{rules}
use Rattle.bike_recognition.proofs.LookLemmas.{unprepared}
use Rattle.bike_recognition.proofs.stands.check_open.Goals as goal

pub returns-in_err-prepare : goal.returns-in_err-prepare
returns-in_err-prepare g c = unprepared _ _ (search rules) c.in_err-prepare.ensures.err c.in_err-prepare.ensures.mode c.in_err-prepare.ensures.survives
