-- What is answered of what was found.
use Rattle.std.proofs.Common.{◌≡◌, ◌∙◌, sym}
use Rattle.std.proofs.lemmas.Option.{same_Some}
use Rattle.clap.specs.Words.{Text}
use Rattle.bike_command_line.specs.Asked.{Found, IsFound, want_of}
use Rattle.bike_command_line.specs.declared.task.Task.{Task}
use Rattle.bike_command_line.specs.declared.reading.Words.{Words}

-- one task on one file is found
pub told : (task : Task) (file : Text) (words : Words) (found : Found) → IsFound found task file → IsFound found words.task words.file.now
    → (want_of words.task ≡ want_of task) × (words.file.now ≡ file)
told task file words found asked is =
    (same_Some (want_of words.task) (want_of task) (sym is.0 ∙ asked.0), same_Some words.file.now file (sym is.1 ∙ asked.1))
