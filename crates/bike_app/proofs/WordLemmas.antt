-- What the words do over a database in memory.
use Rattle.std.proofs.Common.{ℕ, List, Option, Result, inl, inr}
use Rattle.sqlite.specs.Steps.{over_memory, IsEmpty}
use Rattle.sqlite.specs.Held.{Held, state}
use Rattle.sqlite_trees.specs.declared.memory.MemStore.{MemStore}
use Rattle.bike_operator.specs.Operator.{no_operator}
use Rattle.bike_desk.proofs.KeepLemmas.{never_both}
use Rattle.bike_command_line.specs.declared.task.FileTask.{FileTask}
use Rattle.bike_command_line.specs.declared.task.FileTask.TheVariants.{Init, Check, Raise, Lines, Feed, Day, History, Import}
use Rattle.bike_console.specs.declared.end.Fault.{Fault}
use Rattle.bike_app.specs.Words.{Does, DoesInMemory}
use Rattle.bike_app.proofs.ProgramLemmas.{in_memory, memory_begins, memory_has_none, memory_refused, raise_refused}

pub task_in_memory : (task : FileTask) (clock : Option ℕ) (first last : Held MemStore) → IsEmpty (state over_memory first) → (input ahead old new : Option (List ℕ)) (end : Result ℕ Fault)
    → Does over_memory input ahead old new task clock first last end → DoesInMemory input ahead old new task clock end
task_in_memory Init clock first last empty input ahead old new end (read, inl r) = (read, inl (memory_refused first last empty old new end r))
task_in_memory Init clock first last empty input ahead old new end (read, inr t) = (read, inr t.1)
task_in_memory Check clock first last empty input ahead old new end (read, inl r) = (read, inl (memory_refused first last empty old new end r))
task_in_memory Check clock first last empty input ahead old new end (read, inr t) = (read, inr t.1)
task_in_memory Raise clock first last empty input ahead old new end (read, inl r) = (read, inl (raise_refused first last empty old new end r))
task_in_memory Raise clock first last empty input ahead old new end (read, inr t) = (read, inr t.1)
task_in_memory Lines clock first last empty input ahead old new end does = in_memory first last empty input ahead old new end does
task_in_memory (Feed f at) clock first last empty input ahead old new end (read, inl r) = (read, inl (memory_refused first last empty old new end r))
task_in_memory (Feed f at) clock first last empty input ahead old new end (read, inr (inl p)) = (read, inr (p.published no_operator (memory_begins first empty)).told)
task_in_memory (Feed f at) clock first last empty input ahead old new end (read, inr (inr n)) = (read, inr n.told)
task_in_memory (Day table date zone) clock first last empty input ahead old new end (read, inl r) = (read, inl (memory_refused first last empty old new end r))
task_in_memory (Day table date zone) clock first last empty input ahead old new end (read, inr (inl p)) = (read, inr (p.reported no_operator (memory_begins first empty)).told)
task_in_memory (Day table date zone) clock first last empty input ahead old new end (read, inr (inr n)) = (read, n.told)
task_in_memory (History after) clock first last empty input ahead old new end (read, inl r) = (read, inl (memory_refused first last empty old new end r))
task_in_memory (History after) clock first last empty input ahead old new end (read, inr (inl p)) = absurd (never_both (state over_memory first).now (memory_has_none first empty) p.was.has)
task_in_memory (History after) clock first last empty input ahead old new end (read, inr (inr n)) = (read, inr n.told)
task_in_memory (Import name at) clock first last empty input ahead old new end (inl (read, r)) = inl (read, memory_refused first last empty old new end r)
task_in_memory (Import name at) clock first last empty input ahead old new end (inr p) = inr (p.desk, p.imported no_operator (memory_begins first empty))
