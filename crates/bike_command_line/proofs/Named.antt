-- Words by their names, and what clap finds behind them.
use Rattle.std.proofs.Common.{◌≡◌, ◌∙◌, ap, sym, refl, Bool, true, false, if◌then◌else◌, List, [], ◌∷◌, Option, Some, None, option_and_then, slice_get, codes, ◌⊎◌, inl, inr}
use Rattle.std.specs.Str.{bytes_eq}
use Rattle.std.proofs.lemmas.Option.{same_Some}
use Rattle.std.proofs.lemmas.Slice.Eq.{bytes_eq-Decides}
use Rattle.clap.specs.Words.{Text, subcommand_of}
use Rattle.bike_command_line.specs.Program.{program}
use Rattle.bike_command_line.specs.Asked.{Found, IsNothing, Wanted, day_task, feed_task, history_task, import_task, name_in, serve_task, task_in, task_of, value_in, want_of}
use Rattle.bike_command_line.specs.Asked as want
use Rattle.bike_command_line.specs.Names.{word_name, word_named}
use Rattle.bike_command_line.specs.declared.word.Word.{Word}
use Rattle.bike_command_line.specs.declared.word.Word.TheVariants as word
use Rattle.bike_command_line.proofs.Asks.{enters, shape_of}
use Rattle.bike_command_line.proofs.Entered.{subcommand_entered}

-- ---- names

pick : (a : Bool) (first : Word) (rest : Option Word) (it : Word) {P : Type 0} → (if a then Some first else rest) ≡ Some it
    → (a ≡ true → first ≡ it → P) → (rest ≡ Some it → P) → P
pick true first rest it is here later = here refl (same_Some first it is)
pick false first rest it is here later = later is

-- a name is that of its word
pub named_back : (name : Text) (it : Word) → word_named name ≡ Some it → name ≡ word_name it
unfolding word_named
named_back name it e =
    let at = λ (text : Text) (w : Word) (is : bytes_eq name text ≡ true) (same : w ≡ it) (spelled : text ≡ word_name w). (bytes_eq-Decides name text).0 is ∙ (spelled ∙ ap word_name same) in
    pick (bytes_eq name (codes "init")) _ _ it e (λ is same. at (codes "init") word.Init is same refl) (λ e.
    pick (bytes_eq name (codes "check")) _ _ it e (λ is same. at (codes "check") word.Check is same refl) (λ e.
    pick (bytes_eq name (codes "raise")) _ _ it e (λ is same. at (codes "raise") word.Raise is same refl) (λ e.
    pick (bytes_eq name (codes "lines")) _ _ it e (λ is same. at (codes "lines") word.Lines is same refl) (λ e.
    pick (bytes_eq name (codes "feed")) _ _ it e (λ is same. at (codes "feed") word.Feed is same refl) (λ e.
    pick (bytes_eq name (codes "day")) _ _ it e (λ is same. at (codes "day") word.Day is same refl) (λ e.
    pick (bytes_eq name (codes "history")) _ _ it e (λ is same. at (codes "history") word.History is same refl) (λ e.
    pick (bytes_eq name (codes "import")) _ _ it e (λ is same. at (codes "import") word.Import is same refl) (λ e.
    pick (bytes_eq name (codes "serve")) _ _ it e (λ is same. at (codes "serve") word.Serve is same refl) (λ e. absurd cc)))))))))

pub name_read : (it : Word) → word_named (word_name it) ≡ Some it
unfolding word_named
name_read word.Init = refl
name_read word.Check = refl
name_read word.Raise = refl
name_read word.Lines = refl
name_read word.Feed = refl
name_read word.Day = refl
name_read word.History = refl
name_read word.Import = refl
name_read word.Serve = refl

-- ---- what is found

pub name_found : (found : Found) (it : Word) → option_and_then word_named (name_in found) ≡ Some it → name_in found ≡ Some (word_name it)
name_found None it is = absurd cc
name_found (Some rows) it is = ap (λ (name : Text). Some name) (named_back rows.0 it is)

pass : (a : Bool) (first : Word) (rest : Option Word) (task next : Option Wanted) → (if a then Some first else rest) ≡ None → (rest ≡ None → next ≡ None)
    → (if a then task else next) ≡ None
pass true first rest task next is more = absurd cc
pass false first rest task next is more = more is

no_task : (name : Text) (found : Found) → word_named name ≡ None → task_of name found ≡ None
unfolding word_named task_of
no_task name found e =
    pass (bytes_eq name (codes "init")) word.Init _ (Some want.Init) _ e (λ e.
    pass (bytes_eq name (codes "check")) word.Check _ (Some want.Check) _ e (λ e.
    pass (bytes_eq name (codes "raise")) word.Raise _ (Some want.Raise) _ e (λ e.
    pass (bytes_eq name (codes "lines")) word.Lines _ (Some want.Lines) _ e (λ e.
    pass (bytes_eq name (codes "feed")) word.Feed _ (feed_task found) _ e (λ e.
    pass (bytes_eq name (codes "day")) word.Day _ (day_task found) _ e (λ e.
    pass (bytes_eq name (codes "history")) word.History _ (history_task found) _ e (λ e.
    pass (bytes_eq name (codes "import")) word.Import _ (import_task found) _ e (λ e.
    pass (bytes_eq name (codes "serve")) word.Serve None (serve_task found) None e (λ e. refl)))))))))

-- where no word is found there is no task
pub no_word : (found : Found) → option_and_then word_named (name_in found) ≡ None → IsNothing found
no_word None is task file asked = let bad : None ≡ Some (want_of task) = asked.0 in absurd cc
no_word (Some rows) is task file asked =
    let bad : None ≡ Some (want_of task) = sym (no_task rows.0 (Some rows) is) ∙ asked.0 in
    absurd cc

-- the task of the word that is found
pub task_at : (found : Found) (it : Word) → name_in found ≡ Some (word_name it) → task_in found ≡ task_of (word_name it) found
task_at found it is = ap (option_and_then (λ (name : Text). task_of name found)) is

-- where its FILE or its task isn't found nothing is asked
pub nothing_asked : (found : Found) (it : Word) → name_in found ≡ Some (word_name it) → (value_in found (codes "file") ≡ None) ⊎ (task_of (word_name it) found ≡ None)
    → IsNothing found
nothing_asked found it named (inl none) task file asked =
    let bad : None ≡ Some file = sym none ∙ asked.1 in
    absurd cc
nothing_asked found it named (inr none) task file asked =
    let bad : None ≡ Some (want_of task) = sym none ∙ (sym (task_at found it named) ∙ asked.0) in
    absurd cc

-- ---- the first of the words

pub first_found : (texts : List Text) (first : Text) (it : Word) → slice_get texts 0 ≡ Some first → word_named first ≡ Some it
    → name_in (subcommand_of program texts) ≡ Some (word_name it)
first_found [] first it is named = absurd cc
first_found (x ∷ rest) first it is named =
    let spelled : x ≡ word_name it = same_Some x first is ∙ named_back first it named in
    let names = ap (λ (x : Text). name_in (subcommand_of program (x ∷ rest))) spelled in
    let entered = subcommand_entered program (word_name it) (shape_of (word_name it)) rest (enters it) in
    names ∙ (ap name_in entered ∙ ap (λ (name : Text). Some name) (enters it).named)

-- clap finds no word only where the first is none
pub none_first : (texts : List Text) (first : Text) → slice_get texts 0 ≡ Some first → option_and_then word_named (name_in (subcommand_of program texts)) ≡ None
    → word_named first ≡ None
none_first texts first is none = go (word_named first) refl
  where
    go : (o : Option Word) → word_named first ≡ o → word_named first ≡ None
    go None e = e
    go (Some it) e =
        let found : option_and_then word_named (name_in (subcommand_of program texts)) ≡ word_named (word_name it) = ap (option_and_then word_named) (first_found texts first it is e) in
        let bad : None ≡ Some it = sym none ∙ (found ∙ name_read it) in
        absurd cc
