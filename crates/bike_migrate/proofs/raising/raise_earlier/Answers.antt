use Rattle.std.proofs.Common.{refl}
use Rattle.bike_migrate.proofs.InPlaceLemmas.{undone_in_place}
use Rattle.bike_migrate.proofs.raising.raise_earlier.Goals as goal

pub returns-in-Err-clause-in_place : goal.returns-in-Err-clause-in_place
returns-in-Err-clause-in_place g c = undone_in_place g.S.Store c.args.earlier c.args.conn.now c.attempt_whole.new.conn c.undo.new.conn c.in-Err.ensures refl c.undo.ensures.survives
