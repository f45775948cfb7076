-- What a parse gives that enters a word at its first.
use Rattle.std.proofs.Common.{◌≡◌, ◌∙◌, ap, ap₂, refl, sym, Bool, List, [], ◌∷◌, ◌++◌}
use Rattle.std.proofs.Common.{append_assoc, append-nil, drop, fold, find, if◌then◌else◌, is_some, Option, Some, option_map, true, false}
use Rattle.std.specs.Option.{option_map_or}
use Rattle.clap.specs.Faults.{built_fault, check_fault, defaults_fault, entered_fault, fault_of, level_fault, settle_fault, turn_fault, walk_fault}
use Rattle.clap.specs.Kinds.{Kinds, or_else}
use Rattle.clap.specs.Simple.{built, entered, label_of, names_of, rows_at}
use Rattle.clap.specs.Walk.{Held, Names, Walk, answers_to, finished, nothing_held, settled, walk, walk_from, walked}
use Rattle.clap.specs.Words.{App, Rule, Shape, Text, subcommand_of}

-- a walk that has stopped gathers the words that are left
abbrev stopped_at : Walk → Text → List Text → Walk
stopped_at w name words = record w { stopped = Some (name, words) }

gathers : (rules : List Rule) (names : Names) (w : Walk) (name : Text) (words rest : List Text)
    → fold (walked rules names) (stopped_at w name words) rest ≡ stopped_at w name (words ++ rest)
unfolding walked
gathers rules names w name words [] = ap (stopped_at w name) (sym (append-nil words))
gathers rules names w name words (word ∷ rest) =
    gathers rules names w name (words ++ word ∷ []) rest ∙ ap (stopped_at w name) (append_assoc words (word ∷ []) rest)

gathers_no_fault : (s : Shape) (names : Names) (w : Walk) (name : Text) (words rest : List Text)
    → walk_fault s names (stopped_at w name words) rest ≡ []
unfolding walked walk_fault
gathers_no_fault s names w name words [] = refl
gathers_no_fault s names w name words (word ∷ rest) = gathers_no_fault s names w name (words ++ word ∷ []) rest

-- the first word is the name of this word of the program
pub record Enters (app : App) (name : Text) (s : Shape) : Type 0 where
  pub bare : app.top.no_binary_name ≡ true
  pub stops : walked (built app).top.rules (names_of (built app)) (walk_from nothing_held) name ≡ stopped_at (walk_from nothing_held) name []
  pub finds : find (λ s. answers_to name (label_of s)) (built app).subs ≡ Some s
  pub named : s.name ≡ name
  pub turns : turn_fault (built app).top (names_of (built app)) (walk_from nothing_held) name ≡ []
  pub ends : or_else (settle_fault (built app).top.rules (built app).top.args_override_self nothing_held)
      (or_else (defaults_fault (settled (built app).top.rules nothing_held).rows (built app).top.rules)
      (check_fault (built app).top (finished (built app).top.rules nothing_held) true)) ≡ []

walk_entered : (app : App) (name : Text) (s : Shape) (rest : List Text) → Enters app name s
    → fold (walked (built app).top.rules (names_of (built app))) (walk_from nothing_held) (name ∷ rest) ≡ stopped_at (walk_from nothing_held) name rest
walk_entered app name s rest is =
    let rules = (built app).top.rules in
    let names = names_of (built app) in
    ap (λ (w : Walk). fold (walked rules names) w rest) is.stops ∙ gathers rules names (walk_from nothing_held) name [] rest

pub subcommand_entered : (app : App) (name : Text) (s : Shape) (rest : List Text) → Enters app name s
    → subcommand_of app (name ∷ rest) ≡ Some (rows_at s rest)
subcommand_entered app name s rest is =
    ap (λ (bare : Bool). entered (built app) (walk (built app).top.rules (names_of (built app)) nothing_held (if bare then name ∷ rest else drop 1 (name ∷ rest))).stopped) is.bare
    ∙ (ap (λ (w : Walk). entered (built app) w.stopped) (walk_entered app name s rest is)
    ∙ ap (option_map (λ (s : Shape). rows_at s rest)) is.finds)

-- ---- the faults

abbrev ends_by : Shape → Held → Bool → Kinds
ends_by s end has_subcommand = or_else (settle_fault s.rules s.args_override_self end)
    (or_else (defaults_fault (settled s.rules end).rows s.rules) (check_fault s (finished s.rules end) has_subcommand))

abbrev parse_by : App → Kinds → Walk → Kinds
parse_by app fault w = or_else fault (or_else (entered_fault app w.stopped) (ends_by app.top w.held (is_some (entered app w.stopped))))

abbrev found_by : App → List Text → Option Shape → Kinds
found_by app rest found = or_else (option_map_or (λ (s : Shape). level_fault s [] nothing_held rest false []) found [])
    (ends_by app.top nothing_held (is_some (option_map (λ (s : Shape). rows_at s rest) found)))

first_no_fault : (app : App) (name : Text) (s : Shape) (rest : List Text) → Enters app name s
    → walk_fault (built app).top (names_of (built app)) (walk_from nothing_held) (name ∷ rest) ≡ []
unfolding walk_fault
first_no_fault app name s rest is =
    let top = (built app).top in
    let names = names_of (built app) in
    ap₂ or_else is.turns
    (ap (λ (w : Walk). walk_fault top names w rest) is.stops ∙ gathers_no_fault top names (walk_from nothing_held) name [] rest)

pub fault_entered : (app : App) (name : Text) (s : Shape) (rest : List Text) → Enters app name s
    → fault_of app (name ∷ rest) ≡ or_else (level_fault s [] nothing_held rest false []) []
fault_entered app name s rest is =
    let below = level_fault s [] nothing_held rest false [] in
    ap (λ (bare : Bool). built_fault (built app) nothing_held (if bare then name ∷ rest else drop 1 (name ∷ rest))) is.bare
    ∙ (ap₂ (parse_by (built app)) (first_no_fault app name s rest is) (walk_entered app name s rest is)
    ∙ (ap (found_by (built app) rest) is.finds ∙ ap (or_else below) is.ends))
