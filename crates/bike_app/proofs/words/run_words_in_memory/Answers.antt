use Rattle.bike_app.proofs.ProgramLemmas.{memory_is_clean}
use Rattle.bike_app.proofs.WordLemmas.{task_in_memory}
use Rattle.bike_app.proofs.words.run_words_in_memory.Goals as goal

pub returns : goal.returns
returns g c =
    task_in_memory c.args.task.now c.args.clock c.in_ok-conn.conn c.run_words-end.result.0 c.in_ok-conn.ensures.empty _ _ _ _ c.run_words-end.result.1
    (c.run_words-end.ensures.done (memory_is_clean c.run_words-end.result.0))
