-- What is told of words that ask for nothing.
use Rattle.std.specs.Prelude.{◌≡◌, ◌⊎◌, ◌+◌, ◌-◌, ◌==◌, ◌&&◌, ℕ, List, [], ◌∷◌, Bool, false, not, if◌then◌else◌, Option}
use Rattle.std.specs.Prelude.{Some, None, take, slice_get, option_and_then}
use Rattle.clap.specs.Words.{IsAmong, Text, fault_of, subcommand_of}
use Rattle.clap.specs.declared.error.kind.ErrorKind.{ErrorKind}
use Rattle.clap.specs.declared.error.kind.ErrorKind.TheVariants as kind
use Rattle.bike_command_line.specs.Program.{program}
use Rattle.bike_command_line.specs.Asked.{name_in, value_in}
use Rattle.bike_command_line.specs.Names.{IsBad, IsTaken, IsWanted, id_of, value_behind, word_name, word_named}
use Rattle.bike_command_line.specs.declared.value.Value.{Value}
use Rattle.bike_command_line.specs.declared.word.Word.{Word}
use Rattle.bike_command_line.specs.declared.mistake.Mistake.{Mistake}
use Rattle.bike_command_line.specs.declared.mistake.Mistake.TheVariants as mistake

-- clap has this against the words
abbrev pub Against : List Text → ErrorKind → Type 0
Against texts kind = IsAmong kind (fault_of program texts)

-- clap has nothing against the words, or something else
abbrev pub Otherwise : List Text → ErrorKind → Type 0
Otherwise texts kind = (fault_of program texts ≡ []) ⊎ ((other : ErrorKind) × Against texts other × (other ≡ kind → ⊥))

-- clap has this against the words from the one at this place on: it hasn't where they end before, and has where they
-- end there, and the next word mends nothing
pub record Begins (texts : List Text) (kind : ErrorKind) (place : ℕ) : Type 0 where
  pub before : Otherwise (take place texts) kind
  pub there : Against (take (place + 1) texts) kind
  pub after : Against (take (place + 2) texts) kind

-- clap has this against the words, and this one is the first that it has it against
abbrev pub Offends : List Text → ErrorKind → Text → Type 0
Offends texts kind text =
    Against texts kind × ((place : ℕ) × Begins texts kind place × (slice_get texts place ≡ Some text))

-- .. or the one after this
abbrev pub OffendsBy : List Text → ErrorKind → Text → Type 0
OffendsBy texts kind text =
    Against texts kind × ((place : ℕ) × Begins texts kind place
    × ((slice_get texts place ≡ Some text) ⊎ (slice_get texts (place - 1) ≡ Some text)))

-- the text begins with one hyphen, and not with two
abbrev pub has_one_hyphen : Text → Bool
has_one_hyphen (first ∷ second ∷ rest) = (first == 45) && not (second == 45)
has_one_hyphen text = false

-- the value that a text with one hyphen is meant for, since an option
-- of the word stands before it: clap takes the text for an option
abbrev pub value_meant : Word → Option Text → Text → Option Value
value_meant word before text = if has_one_hyphen text then option_and_then (value_behind word) before else None

-- clap knows no such option, this text is the first that it has that
-- against, and it is meant for that value of the word, or for none
pub record IsUnknown (texts : List Text) (word : Word) (text : Text) (meant : Option Value) : Type 0 where
  pub against : Against texts kind.UnknownArgument
  pub place : ℕ
  pub begins : Begins texts kind.UnknownArgument place
  pub stands : slice_get texts place ≡ Some text
  pub meant_for : value_meant word (slice_get texts (place - 1)) text ≡ meant

-- the first word is this one
abbrev pub Leads : List Text → Word → Type 0
Leads texts word = slice_get texts 0 ≡ Some (word_name word)

-- clap has nothing against the words, and finds this one with this behind it
abbrev pub Finds : List Text → Word → Text → Option Text → Type 0
Finds texts word id text =
    (fault_of program texts ≡ []) × (name_in (subcommand_of program texts) ≡ Some (word_name word))
    × (value_in (subcommand_of program texts) id ≡ text)

-- the text is given as the value: clap finds it, or takes it for an option where it stands behind the value's
abbrev pub IsGiven : List Text → Word → Value → Text → Type 0
IsGiven texts word value text =
    Finds texts word (id_of value) (Some text) ⊎ (Leads texts word × IsUnknown texts word text (Some value))

-- it is none of those of which more is told
abbrev pub IsOther : ErrorKind → Type 0
IsOther kind.DisplayHelp = ⊥
IsOther kind.UnknownArgument = ⊥
IsOther kind.TooManyValues = ⊥
IsOther kind.InvalidValue = ⊥
IsOther kind.ArgumentConflict = ⊥
IsOther _ = Unit

-- what is told of the words is so
abbrev pub IsSo : List Text → Mistake → Type 0
IsSo texts (mistake.Help word) =
    Against texts kind.DisplayHelp × (word ≡ option_and_then word_named (slice_get texts 0))
IsSo texts (mistake.UnknownWord text) =
    Otherwise texts kind.DisplayHelp × (slice_get texts 0 ≡ Some text.now) × (word_named text.now ≡ None)
IsSo texts (mistake.Unexpected word text) =
    Leads texts word × (IsUnknown texts word text.now None ⊎ Offends texts kind.TooManyValues text.now)
IsSo texts (mistake.NoValue word option) = Leads texts word × Offends texts kind.InvalidValue option.now
IsSo texts (mistake.Repeated word option) = Leads texts word × OffendsBy texts kind.ArgumentConflict option.now
IsSo texts (mistake.Misfit word) = Leads texts word × ((other : ErrorKind) × Against texts other × IsOther other)
IsSo texts (mistake.Missing word value) = IsWanted word value × Finds texts word (id_of value) None
IsSo texts (mistake.BadValue word value text) =
    IsTaken word value × IsGiven texts word value text.now × IsBad value text.now
IsSo texts mistake.NoText = ⊥

-- what is told is a value that is missing or bad
abbrev pub IsOfValue : Mistake → Type 0
IsOfValue (mistake.Missing word value) = Unit
IsOfValue (mistake.BadValue word value text) = Unit
IsOfValue _ = ⊥

-- the word whose usage belongs to what is told, where it is one's
abbrev pub word_told : Mistake → Option Word
word_told (mistake.Help word) = word
word_told (mistake.UnknownWord text) = None
word_told (mistake.Unexpected word text) = Some word
word_told (mistake.NoValue word option) = Some word
word_told (mistake.Repeated word option) = Some word
word_told (mistake.Misfit word) = Some word
word_told (mistake.Missing word value) = Some word
word_told (mistake.BadValue word value text) = Some word
word_told mistake.NoText = None
