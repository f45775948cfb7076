-- What clap has against the first of the words, and what follows of what is told.
use Rattle.std.proofs.Common.{◌≡◌, ◌∙◌, ◌<◌, ℕ, zero, suc, ap, sym, subst, arith, min, map, take, length, get_or, slice_get, slice_index_or, Bor, List, [], ◌∷◌, ◌==◌, ◌-◌, Bool, true, false}
use Rattle.std.proofs.Common.{if◌then◌else◌, refl, Option, Some, None, option_and_then, codes, inl, inr}
use Rattle.std.specs.Str.{bytes_eq}
use Rattle.std.proofs.lemmas.Bool.{cases_lt}
use Rattle.std.proofs.lemmas.List.{take-map, take_all}
use Rattle.std.proofs.lemmas.Option.{same_Some}
use Rattle.clap.specs.Words.{Text, fault_of, subcommand_of}
use Rattle.clap.specs.declared.error.kind.ErrorKind.{ErrorKind}
use Rattle.clap.specs.declared.error.kind.ErrorKind.TheVariants as kind
use Rattle.clap.proofs.OnLiterals.{clap_on_literals}
use Rattle.bike_fixed.specs.Whole.{last_moment}
use Rattle.bike_command_line.specs.Program.{program}
use Rattle.bike_command_line.specs.Asked.{Found, name_in, value_in}
use Rattle.bike_command_line.specs.Names.{IsBad, IsTaken, id_of, value_behind, word_name, word_named}
use Rattle.bike_command_line.specs.BadValue.{IsWrong}
use Rattle.bike_command_line.specs.Told.{Against, Begins, IsOfValue, IsOther, IsSo, IsUnknown, Leads, Offends, Otherwise, has_one_hyphen, value_meant}
use Rattle.bike_command_line.specs.declared.task.BadValue.TheVariants.{Bad, Missing}
use Rattle.bike_command_line.specs.declared.value.Value.{Value}
use Rattle.bike_command_line.specs.declared.word.Word.{Word}
use Rattle.bike_command_line.specs.declared.word.Word.TheVariants as word
use Rattle.bike_command_line.specs.declared.mistake.Mistake.{Mistake}
use Rattle.bike_command_line.specs.declared.mistake.Mistake.TheVariants as mistake
use Rattle.bike_command_line.proofs.Named.{name_read}
use Rattle.bike_command_line.proofs.Numbers.{no_signed}
use Rattle.bike_command_line.proofs.Parse.{against_nothing}

-- the first of the words, where there is one
pub first_is : (words : List (Bor Text)) (other : Bor Text) → false ≡ (length words == 0) → slice_get (map (λ (w : Bor Text). w.now) words) 0 ≡ Some (get_or words 0 other).now
first_is [] other some = absurd cc
first_is (word ∷ rest) other some = refl

take_most : (n : ℕ) (words : List (Bor Text)) → take (min n (length words)) words ≡ take n words
take_most n words = elim (cases_lt n (length words)) [
  | inl lt ↦ let same : min n (length words) ≡ n = omega arith in ap (λ k. take k words) same
  | inr ge ↦ let same : min n (length words) ≡ length words = omega arith in
      ap (λ k. take k words) same ∙ (take_all (length words) words (omega arith) ∙ sym (take_all n words ge))
]

-- the texts of the words before a place
pub texts_before : (n cut : ℕ) (words : List (Bor Text)) → cut ≡ min n (length words)
    → map (λ (w : Bor Text). w.now) (take cut words) ≡ take n (map (λ (w : Bor Text). w.now) words)
texts_before n cut words is =
    ap (λ k. map (λ (w : Bor Text). w.now) (take k words)) is
    ∙ (ap (map (λ (w : Bor Text). w.now)) (take_most n words) ∙ sym (take-map (λ (w : Bor Text). w.now) n words))

pub is_there : (cut texts : List Text) (found kind : ErrorKind) → cut ≡ texts → Against cut found → found ≡ kind → Against texts kind
is_there cut texts found kind is against same =
    subst (λ (k : ErrorKind). Against texts k) same (subst (λ (t : List Text). Against t found) is against)

pub is_other : (cut texts : List Text) (found kind : ErrorKind) → cut ≡ texts → Against cut found → (found ≡ kind → ⊥) → Otherwise texts kind
is_other cut texts found kind is against differs = inr (found, subst (λ (t : List Text). Against t found) is against, differs)

pub is_nothing : (cut texts : List Text) (kind : ErrorKind) → cut ≡ texts → fault_of program cut ≡ [] → Otherwise texts kind
is_nothing cut texts kind is none = inl (subst (λ (t : List Text). fault_of program t ≡ []) is none)

text_at : (words : List (Bor Text)) (place : ℕ) (other : Bor Text) → place < length words
    → slice_get (map (λ (w : Bor Text). w.now) words) place ≡ Some (slice_index_or words place other).now
text_at [] place other within = absurd (omega arith)
text_at (word ∷ rest) zero other within = refl
text_at (word ∷ rest) (suc place) other within = text_at rest place other (omega (arith, within))

pub offends : (words : List (Bor Text)) (kind : ErrorKind) (place : ℕ) (other : Bor Text) → Against (map (λ (w : Bor Text). w.now) words) kind → place < length words
    → Begins (map (λ (w : Bor Text). w.now) words) kind place → Offends (map (λ (w : Bor Text). w.now) words) kind (slice_index_or words place other).now
offends words kind place other against within begins = (against, (place, begins, text_at words place other within))

pub is_unknown : (words : List (Bor Text)) (it : Word) (place back : ℕ) (other : Bor Text) (meant : Option Value) → back ≡ place - 1 → place < length words
    → Against (map (λ (w : Bor Text). w.now) words) kind.UnknownArgument → Begins (map (λ (w : Bor Text). w.now) words) kind.UnknownArgument place
    → value_meant it (Some (slice_index_or words back other).now) (slice_index_or words place other).now ≡ meant
    → IsUnknown (map (λ (w : Bor Text). w.now) words) it (slice_index_or words place other).now meant
is_unknown words it place back other meant is within against begins means =
    let texts = map (λ (w : Bor Text). w.now) words in
    let text = (slice_index_or words place other).now in
    let near : slice_get texts (place - 1) ≡ Some (slice_index_or words back other).now =
    ap (slice_get texts) (sym is) ∙ text_at words back other (omega (arith, is, within)) in
    record {
      against = against;
      place = place;
      begins = begins;
      stands = text_at words place other within;
      meant_for = ap (λ (before : Option Text). value_meant it before text) near ∙ means;
    }

pick : (a : Bool) (first : Value) (rest : Option Value) (it : Value) {P : Type 0} → (if a then Some first else rest) ≡ Some it
    → (first ≡ it → P) → (rest ≡ Some it → P) → P
pick true first rest it is here later = here (same_Some first it is)
pick false first rest it is here later = later is

behind_bad : (it : Word) (value : Value) (option text : Text) → has_one_hyphen text ≡ true → value_behind it option ≡ Some value
    → IsTaken it value × IsBad value text
unfolding value_behind
behind_bad word.Init value option text one is = absurd cc
behind_bad word.Check value option text one is = absurd cc
behind_bad word.Raise value option text one is = absurd cc
behind_bad word.Lines value option text one is = absurd cc
behind_bad word.Day value option text one is = absurd cc
behind_bad word.History value option text one is = absurd cc
behind_bad word.Feed value option text one is = pick (bytes_eq option (codes "--at")) _ _ value is
    (λ same. subst (λ (v : Value). IsTaken word.Feed v × IsBad v text) same (tt, no_signed 0 last_moment text (omega arith) one)) (λ e. absurd cc)
behind_bad word.Import value option text one is = pick (bytes_eq option (codes "--at")) _ _ value is
    (λ same. subst (λ (v : Value). IsTaken word.Import v × IsBad v text) same (tt, no_signed 0 last_moment text (omega arith) one)) (λ e. absurd cc)
behind_bad word.Serve value option text one is = pick (bytes_eq option (codes "--port")) _ _ value is
    (λ same. subst (λ (v : Value). IsTaken word.Serve v × IsBad v text) same (tt, no_signed 0 65535 text (omega arith) one)) (λ e.
    pick (bytes_eq option (codes "--count")) _ _ value e
    (λ same. subst (λ (v : Value). IsTaken word.Serve v × IsBad v text) same (tt, no_signed 1 1000000000 text (omega arith) one)) (λ e. absurd cc))

meant_bad : (it : Word) (value : Value) (before : Option Text) (text : Text) → value_meant it before text ≡ Some value → IsTaken it value × IsBad value text
meant_bad it value before text is = by (has_one_hyphen text) refl
  where
    at : (before : Option Text) → has_one_hyphen text ≡ true → option_and_then (value_behind it) before ≡ Some value → IsTaken it value × IsBad value text
    at None one behind = absurd cc
    at (Some option) one behind = behind_bad it value option text one behind

    by : (one : Bool) → has_one_hyphen text ≡ one → IsTaken it value × IsBad value text
    by true one = at before one (rw one at is)
    by false one = let none : None ≡ Some value = rw one at is in absurd cc

-- the value that such a text is meant for is one that the word takes, and the text is none of its kind
pub unknown_bad : (texts : List Text) (it : Word) (text : Text) (value : Value) → IsUnknown texts it text (Some value) → IsTaken it value × IsBad value text
unknown_bad texts it text value unknown = meant_bad it value (slice_get texts (unknown.place - 1)) text unknown.meant_for

-- clap has nothing against no words
pub never : (texts : List Text) (kind : ErrorKind) → Against (take 0 texts) kind → ⊥
unfolding program clap_on_literals
never texts kind against = against

-- a kind that is none of those of which more is told
pub is_other_kind : (k : ErrorKind) → (k ≡ kind.DisplayHelp → ⊥) → (k ≡ kind.UnknownArgument → ⊥) → (k ≡ kind.TooManyValues → ⊥) → (k ≡ kind.InvalidValue → ⊥)
    → (k ≡ kind.ArgumentConflict → ⊥) → IsOther k
is_other_kind kind.DisplayHelp no_help no_word no_more no_value no_twice = no_help refl
is_other_kind kind.UnknownArgument no_help no_word no_more no_value no_twice = no_word refl
is_other_kind kind.TooManyValues no_help no_word no_more no_value no_twice = no_more refl
is_other_kind kind.InvalidValue no_help no_word no_more no_value no_twice = no_value refl
is_other_kind kind.ArgumentConflict no_help no_word no_more no_value no_twice = no_twice refl
is_other_kind kind.InvalidSubcommand no_help no_word no_more no_value no_twice = tt
is_other_kind kind.NoEquals no_help no_word no_more no_value no_twice = tt
is_other_kind kind.ValueValidation no_help no_word no_more no_value no_twice = tt
is_other_kind kind.TooFewValues no_help no_word no_more no_value no_twice = tt
is_other_kind kind.WrongNumberOfValues no_help no_word no_more no_value no_twice = tt
is_other_kind kind.MissingRequiredArgument no_help no_word no_more no_value no_twice = tt
is_other_kind kind.MissingSubcommand no_help no_word no_more no_value no_twice = tt
is_other_kind kind.DisplayHelpOnMissingArgumentOrSubcommand no_help no_word no_more no_value no_twice = tt
is_other_kind kind.DisplayVersion no_help no_word no_more no_value no_twice = tt
is_other_kind kind.Io no_help no_word no_more no_value no_twice = tt
is_other_kind kind.Format no_help no_word no_more no_value no_twice = tt
is_other_kind kind.OutOfMemory no_help no_word no_more no_value no_twice = tt

-- what is wrong with a value is told of the words in which it is found
pub missing_told : (texts : List Text) (found : Found) (it : Word) (value : Value) → fault_of program texts ≡ [] → found ≡ subcommand_of program texts
    → name_in found ≡ Some (word_name it) → IsWrong it found (Missing value) → IsSo texts (mistake.Missing it value)
missing_told texts found it value none is named wrong =
    (wrong.0, (none, ap name_in (sym is) ∙ named, ap (λ (f : Found). value_in f (id_of value)) (sym is) ∙ wrong.1))

pub bad_told : (texts : List Text) (found : Found) (it : Word) (value : Value) (text : Bor Text) → fault_of program texts ≡ [] → found ≡ subcommand_of program texts
    → name_in found ≡ Some (word_name it) → IsWrong it found (Bad value text) → IsSo texts (mistake.BadValue it value text)
bad_told texts found it value text none is named wrong =
    (wrong.0, inl (none, ap name_in (sym is) ∙ named, ap (λ (f : Found). value_in f (id_of value)) (sym is) ∙ wrong.1), wrong.2)

-- where clap has nothing against the words a value is told
pub value_told : (texts : List Text) (told : Mistake) (it : Word) → IsSo texts told → Leads texts it → fault_of program texts ≡ [] → IsOfValue told
value_told texts (mistake.Help word) it so leads none = against_nothing texts _ so.0 none
value_told texts (mistake.UnknownWord text) it so leads none =
    let same : text.now ≡ word_name it = same_Some text.now (word_name it) (sym so.1 ∙ leads) in
    let bad : None ≡ Some it = sym so.2 ∙ (ap word_named same ∙ name_read it) in
    absurd cc
value_told texts (mistake.Unexpected word text) it so leads none = elim so.1 [ inl by ↦ against_nothing texts _ by.against none | inr by ↦ against_nothing texts _ by.0 none ]
value_told texts (mistake.NoValue word option) it so leads none = against_nothing texts _ so.1.0 none
value_told texts (mistake.Repeated word option) it so leads none = against_nothing texts _ so.1.0 none
value_told texts (mistake.Misfit word) it so leads none = against_nothing texts so.1.0 so.1.1 none
value_told texts (mistake.Missing word value) it so leads none = tt
value_told texts (mistake.BadValue word value text) it so leads none = tt
value_told texts mistake.NoText it so leads none = so
