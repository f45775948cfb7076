-- What a walk makes of words that don't begin with a hyphen: they are no flags and no `--`.
use Rattle.std.proofs.Common.{◌≡◌, ◌∙◌, ℕ, ap, ap₂, refl, Bool, List, [], ◌∷◌, ◌++◌, map, fold, Option, Some, None, is_some, true, false, if◌then◌else◌}
use Rattle.std.specs.Str.{bytes_eq}
use Rattle.std.specs.Str.Parse.{starts_with_minus}
use Rattle.clap.specs.Faults.{check_fault, defaults_fault, level_fault, settle_fault, step_fault, turn_fault, walk_fault, word_fault}
use Rattle.clap.specs.Kinds.{Kinds, or_else}
use Rattle.clap.specs.Lexer.{long_of, short_of, strip_byte}
use Rattle.clap.specs.Walk.{Held, Step, Waiting, Walk, after_step, finished, idle, option, positional, nothing_held, plain_word, settled, value as met_value, walk, walk_from, walked, word_met}
use Rattle.clap.specs.Words.{Row, Rule, Shape, Text}

no_flag : (word : Text) → starts_with_minus word ≡ false → strip_byte 45 word ≡ None
no_flag [] plain = refl
no_flag (x ∷ xs) plain = rw plain refl

no_dashes : (word : Text) → starts_with_minus word ≡ false → bytes_eq word (45 ∷ 45 ∷ []) ≡ false
no_dashes [] plain = refl
no_dashes (x ∷ xs) plain = rw plain refl

no_long : (word : Text) → starts_with_minus word ≡ false → long_of word ≡ None
no_long word plain = rw (no_flag word plain) refl

no_short : (word : Text) → starts_with_minus word ≡ false → short_of word ≡ None
no_short word plain = rw (no_flag word plain) refl

abbrev pub plain_met : List Rule → Bool → Waiting → Text → Held → Held × Step
plain_met rules is_trailing waiting word held = if is_trailing then (held, met_value) else plain_word rules waiting word held

met_plain : (rules : List Rule) (is_trailing : Bool) (waiting : Waiting) (position : ℕ) (word : Text) (held : Held) → starts_with_minus word ≡ false
    → word_met rules [] is_trailing waiting position word held ≡ plain_met rules is_trailing waiting word held
met_plain rules true waiting position word held plain = refl
met_plain rules false idle position word held plain = rw (no_dashes word plain, no_long word plain, no_short word plain) refl
met_plain rules false (option id) position word held plain = rw (no_dashes word plain, no_long word plain, no_short word plain) refl
met_plain rules false positional position word held plain = rw (no_dashes word plain, no_long word plain, no_short word plain) refl

meets_no_fault : (s : Shape) (is_trailing : Bool) (waiting : Waiting) (word : Text) (held : Held) → starts_with_minus word ≡ false
    → word_fault s [] is_trailing waiting word held ≡ []
meets_no_fault s true waiting word held plain = refl
meets_no_fault s false idle word held plain = rw (no_dashes word plain, no_long word plain, no_short word plain) refl
meets_no_fault s false (option id) word held plain = rw (no_dashes word plain, no_long word plain, no_short word plain) refl
meets_no_fault s false positional word held plain = rw (no_dashes word plain, no_long word plain, no_short word plain) refl

-- ---- a turn of the walk

abbrev pub after_met : List Rule → Option (Text × List Text) → Walk → Text → Held × Step → Walk
after_met rules (Some stop) w word met = record w { stopped = Some (stop.0, stop.1 ++ word ∷ []) }
after_met rules None w word met = after_step rules word w met.0 met.1

abbrev pub plain_walked : List Rule → Walk → Text → Walk
plain_walked rules w word = after_met rules w.stopped w word (plain_met rules w.is_trailing w.waiting word w.held)

walked_by : (rules : List Rule) (stopped : Option (Text × List Text)) (w : Walk) (word : Text) → w.stopped ≡ stopped
    → walked rules [] w word ≡ after_met rules stopped w word (word_met rules [] w.is_trailing w.waiting w.position word w.held)
unfolding walked
walked_by rules None w word is = rw is refl
walked_by rules (Some stop) w word is = rw is refl

walked_plain : (rules : List Rule) (w : Walk) (word : Text) → starts_with_minus word ≡ false → walked rules [] w word ≡ plain_walked rules w word
walked_plain rules w word plain =
    walked_by rules w.stopped w word refl
    ∙ ap (after_met rules w.stopped w word) (met_plain rules w.is_trailing w.waiting w.position word w.held plain)

abbrev pub turn_by : Shape → Walk → Kinds → Held × Step → Kinds
turn_by s w fault met = if is_some w.stopped then [] else or_else fault (step_fault s w.position met.0 met.1)

abbrev pub plain_turn : Shape → Walk → Text → Kinds
plain_turn s w word = turn_by s w [] (plain_met s.rules w.is_trailing w.waiting word w.held)

turn_plain : (s : Shape) (w : Walk) (word : Text) → starts_with_minus word ≡ false → turn_fault s [] w word ≡ plain_turn s w word
turn_plain s w word plain =
    ap₂ (turn_by s w) (meets_no_fault s w.is_trailing w.waiting word w.held plain)
    (met_plain s.rules w.is_trailing w.waiting w.position word w.held plain)

-- ---- a walk over words of which some are plain

pub data Marked : Type 0 where
  plain : Text → Marked
  other : Text → Marked

abbrev pub text_of : Marked → Text
text_of (plain word) = word
text_of (other word) = word

abbrev pub ArePlain : List Marked → Type 0
ArePlain [] = Unit
ArePlain (plain word ∷ rest) = (starts_with_minus word ≡ false) × ArePlain rest
ArePlain (other word ∷ rest) = ArePlain rest

abbrev pub marked_step : List Rule → Walk → Marked → Walk
marked_step rules w (plain word) = plain_walked rules w word
marked_step rules w (other word) = walked rules [] w word

abbrev pub marked_turn : Shape → Walk → Marked → Kinds
marked_turn s w (plain word) = plain_turn s w word
marked_turn s w (other word) = turn_fault s [] w word

abbrev pub marked_fault : Shape → Walk → List Marked → Kinds
marked_fault s w [] = []
marked_fault s w (word ∷ rest) = or_else (marked_turn s w word) (marked_fault s (marked_step s.rules w word) rest)

marked_walk : (rules : List Rule) (w : Walk) (words : List Marked) → ArePlain words
    → fold (walked rules []) w (map text_of words) ≡ fold (marked_step rules) w words
marked_walk rules w [] are = refl
marked_walk rules w (plain word ∷ rest) are =
    ap (λ (next : Walk). fold (walked rules []) next (map text_of rest)) (walked_plain rules w word are.0)
    ∙ marked_walk rules (plain_walked rules w word) rest are.1
marked_walk rules w (other word ∷ rest) are = marked_walk rules (walked rules [] w word) rest are

marked_faults : (s : Shape) (w : Walk) (words : List Marked) → ArePlain words
    → walk_fault s [] w (map text_of words) ≡ marked_fault s w words
unfolding walk_fault
marked_faults s w [] are = refl
marked_faults s w (plain word ∷ rest) are =
    ap₂ (λ (turn : Kinds) (next : Walk). or_else turn (walk_fault s [] next (map text_of rest))) (turn_plain s w word are.0) (walked_plain s.rules w word are.0)
    ∙ ap (or_else (plain_turn s w word)) (marked_faults s (plain_walked s.rules w word) rest are.1)
marked_faults s w (other word ∷ rest) are = ap (or_else (turn_fault s [] w word)) (marked_faults s (walked s.rules [] w word) rest are)

-- ---- what comes of the words behind a word

abbrev pub held_after : Shape → List Marked → Held
held_after s words = (fold (marked_step s.rules) (walk_from nothing_held) words).held

abbrev pub rows_behind : Shape → List Marked → List Row
rows_behind s words = finished s.rules (held_after s words)

abbrev pub level_by : Shape → Kinds → Held → Kinds
level_by s fault end = or_else fault (or_else [] (or_else (settle_fault s.rules s.args_override_self end)
    (or_else (defaults_fault (settled s.rules end).rows s.rules) (check_fault s (finished s.rules end) false))))

abbrev pub fault_behind : Shape → List Marked → Kinds
fault_behind s words = level_by s (marked_fault s (walk_from nothing_held) words) (held_after s words)

pub level_marked : (s : Shape) (words : List Marked) → ArePlain words
    → level_fault s [] nothing_held (map text_of words) false [] ≡ fault_behind s words
level_marked s words are =
    ap₂ (level_by s) (marked_faults s (walk_from nothing_held) words are)
    (ap (λ (w : Walk). w.held) (marked_walk s.rules (walk_from nothing_held) words are))

pub rows_marked : (s : Shape) (words : List Marked) → ArePlain words
    → finished s.rules (walk s.rules [] nothing_held (map text_of words)).held ≡ rows_behind s words
rows_marked s words are =
    ap (λ (w : Walk). finished s.rules w.held) (marked_walk s.rules (walk_from nothing_held) words are)
