use Rattle.std.proofs.lemmas.Result.{IfOk-weaker}
use Rattle.bike_app.proofs.FileLemmas.{closed_ends, closed_alone}
use Rattle.bike_app.proofs.file.run_on_file.Goals as goal

pub returns-in-Some-clause-done : goal.returns-in-Some-clause-done
returns-in-Some-clause-done g c =
    closed_ends g.F.Start _ _ _ _ c.args.task.now c.args.clock c.in-Some.conn c.run_file-conn.result.1 (rw c.in-Some.is at c.run_file-conn.ensures.done)
    c.settle-remains.result.0 c.settle-remains.result.1 c.settle-remains.ensures

pub returns-in-Some-clause-alone : goal.returns-in-Some-clause-alone
returns-in-Some-clause-alone g c =
    IfOk-weaker c.settle-remains.result.1 _ _ (λ count alone settled. alone)
    (closed_alone c.in-Some.conn c.run_file-conn.result.1 c.settle-remains.result.0 c.settle-remains.result.1 c.settle-remains.ensures)
