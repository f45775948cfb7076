use Rattle.std.proofs.Common.{refl}
use Rattle.bike_command_line.specs.declared.task.Task.TheVariants.{OnFile, Serve}
use Rattle.bike_command_line.specs.declared.task.FileTask.TheVariants.{Init, Check, Raise, Lines, Feed, Day, History, Import}
use Rattle.bike_command_line.proofs.help.usage.Goals as goal

pub returns-clause-words : goal.returns-clause-words
returns-clause-words c (OnFile Init) = refl
returns-clause-words c (OnFile Check) = refl
returns-clause-words c (OnFile Raise) = refl
returns-clause-words c (OnFile Lines) = refl
returns-clause-words c (OnFile (Feed feed at)) = refl
returns-clause-words c (OnFile (Day table date zone)) = refl
returns-clause-words c (OnFile (History after)) = refl
returns-clause-words c (OnFile (Import name at)) = refl
returns-clause-words c (Serve port count) = refl

pub returns-clause-at : goal.returns-clause-at
returns-clause-at c = refl

pub returns-clause-port : goal.returns-clause-port
returns-clause-port c = refl

pub returns-clause-count : goal.returns-clause-count
returns-clause-count c = refl
