-- The text that is written for a command spells it, so equal texts are of equal commands.
use Rattle.std.proofs.Common.{◌≡◌, List, ℕ, sym, ap, ◌∙◌}
use Rattle.std.specs.List.{slice_split}
use Rattle.std.proofs.lemmas.Option.{same_Some}
use Rattle.bike_commands.specs.declared.command.Command.{Command}
use Rattle.bike_commands.specs.Commands.{word_of, fields_of, IsCommand, IsSpelling, IsWrittenSpelling, text_of}
use Rattle.bike_requests.specs.Readers.{command_at}
use Rattle.bike_texts.proofs.Splitting.{is_tab}
use Rattle.bike_texts.proofs.OneSpelling.{spelled_text, written_text, only_written}
use Rattle.bike_requests.proofs.CommandLaws.{command_full}

pub text_spells : (c : Command) → IsCommand c → IsSpelling (text_of c) c
text_spells c g = spelled_text (word_of c) (fields_of c) g

pub one_text : (c d : Command) → IsCommand c → IsCommand d → text_of c ≡ text_of d → c ≡ d
one_text c d g h e =
    same_Some c d (sym (command_full (text_of c) c (record { spelled = text_spells c g; good = g }))
    ∙ ap (λ (t : List ℕ). command_at (slice_split is_tab t)) e
    ∙ command_full (text_of d) d (record { spelled = text_spells d h; good = h }))

pub text_written : (c : Command) → IsCommand c → IsWrittenSpelling (text_of c) c
text_written c g = written_text (word_of c) (fields_of c) g

pub only_text : (c : Command) (text : List ℕ) → IsWrittenSpelling text c → text ≡ text_of c
only_text c text w = only_written text (word_of c) (fields_of c) w
