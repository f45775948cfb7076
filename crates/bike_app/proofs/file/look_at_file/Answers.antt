use Rattle.std.proofs.Common.{rules, inr}
use Rattle.bike_app.proofs.FileLemmas.{looked_over, unseen}
use Rattle.bike_app.proofs.file.look_at_file.Goals as goal

pub returns-in-Ok-clause-done : goal.returns-in-Ok-clause-done
returns-in-Ok-clause-done g c =
    inr (inr (looked_over _ _ _ _ c.args.task.now c.args.clock c.requires.looks c.in-Ok.conn c.in-Ok.kept c.in-Ok.ensures.seen c.run_words-conn.result.0 c.run_words-conn.result.1
    c.run_words-conn.ensures.clean c.run_words-conn.ensures.done))

pub returns-in-Err-clause-done : goal.returns-in-Err-clause-done
returns-in-Err-clause-done g c = unseen _ _ _ _ c.args.task.now c.args.clock c.requires.looks c.in-Err.fault c.in-Err.ensures.fault c.in-Err.ensures.seen (search rules) (search rules)
