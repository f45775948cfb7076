-- What the texts that begin and end a transaction do.
use Rattle.std.proofs.Common.{◌≡◌, inl, inr, ℕ, List, [], true, false, Option, Some, None, Ok, Err, Result, OnOk, OnErr, length, codes, refl, sym, ap, subst, ◌∙◌, arith}
use Rattle.std.proofs.lemmas.Bool.{cases_Bool}
use Rattle.sqlite_value.specs.Order.{Row}
use Rattle.sqlite_tied.specs.Compute.{everything}
use Rattle.sqlite_trees.specs.Tree.{Trees}
use Rattle.sqlite_schema.specs.declared.schema.Schema.{Schema}
use Rattle.sqlite_schema.specs.declared.command.Command.{Command}
use Rattle.sqlite_schema.specs.declared.command.Command.TheVariants as command
use Rattle.sqlite_schema.specs.declared.command.Returning.{Returning}
use Rattle.sqlite_resolve.specs.declared.compiled.Compiled.{Compiled}
use Rattle.sqlite_resolve.specs.declared.error.CompileError.{CompileError}
use Rattle.sqlite.specs.declared.error.Error.{Error}
use Rattle.sqlite.specs.declared.run.Mode.{Mode}
use Rattle.sqlite.specs.Calls.{IsWrite}
use Rattle.sqlite.specs.Clock.{timed}
use Rattle.sqlite.specs.Does.{Does, Tally}
use Rattle.sqlite.specs.Effect.{Database}
use Rattle.sqlite.specs.Given.{IsPlain}
use Rattle.sqlite.specs.Listing.{understood}
use Rattle.sqlite.specs.State.{State, mode_of, Shows, Survives, RunsCommand, ExecutesIn, Executes, IsNoStatement, IsNotRun, CommitsBy, MayCommit, shows_rows, text_of, IsRolledBack}
use Rattle.sqlite.proofs.Callers.{command_of, runs_as}
use Rattle.sqlite.proofs.StateLemmas.{survives_weaker}
use Rattle.bike_sql.specs.Outcome.{IsLeft}
use Rattle.bike_sql.specs.Inside.{IsEnded}

-- ---- the texts

begins : (s : Schema) → command_of (understood s (codes "BEGIN")) ≡ command.Begin
unfolding understood everything
begins s = refl

begins_plain : (s : Schema) → IsPlain (understood s (codes "BEGIN"))
unfolding understood everything
begins_plain s = (refl, refl)

commits : (s : Schema) → command_of (understood s (codes "COMMIT")) ≡ command.Commit
unfolding understood everything
commits s = refl

commits_plain : (s : Schema) → IsPlain (understood s (codes "COMMIT"))
unfolding understood everything
commits_plain s = (refl, refl)

rolls_back : (s : Schema) → command_of (understood s (codes "ROLLBACK")) ≡ command.Rollback
unfolding understood everything
rolls_back s = refl

rolls_back_plain : (s : Schema) → IsPlain (understood s (codes "ROLLBACK"))
unfolding understood everything
rolls_back_plain s = (refl, refl)

-- ---- an error

pub on_err : {A E T : Type 0} (r : Result A E) → T → OnErr r T
on_err (Ok x) h = tt
on_err (Err e) h = h

pub on_ok : {A E T : Type 0} (r : Result A E) → T → OnOk r T
on_ok (Ok x) h = h
on_ok (Err e) h = tt

command_left : (old new : State) (sql : List ℕ) (c : Compiled) (params : Row) (e : Error) → RunsCommand old new sql c params (Err e) → IsLeft old new
command_left old new sql c params e (inl h) = inl h.1
command_left old new sql c params e (inr fails) = inr fails.3

-- a statement that is refused or fails leaves all as it was, or as the last commit left it
pub left : (sql : List ℕ) (params : Row) (old new : State) (e : Error) → Executes sql params old new (Err e) → IsLeft old new
unfolding ExecutesIn IsNotRun
left sql params old new e (inl (inl none)) = inl none.1
left sql params old new e (inl (inr fails)) = inr fails.3
left sql params old new e (inr ran) = elim (cases_Bool (shows_rows false ran.0)) [
  | inl shows ↦ inl (rw shows at ran.2).1
  | inr runs ↦ command_left old new sql ran.0 _ e (rw runs at ran.2)
]

-- ---- what is done

pub begin_done : (old new : State) (count : ℕ) → Executes (codes "BEGIN") [] old new (Ok count) → Shows old new old.now old.committed true
begin_done old new count h = (runs_as (codes "BEGIN") [] old new old.now.schema refl command.Begin (begins old.now.schema) (begins_plain old.now.schema) count h).1

pub commit_done : (old new : State) (count : ℕ) → Executes (codes "COMMIT") [] old new (Ok count) → Shows old new old.now old.now false
commit_done old new count h = (runs_as (codes "COMMIT") [] old new old.now.schema refl command.Commit (commits old.now.schema) (commits_plain old.now.schema) count h).1

ended : (old new : State) → IsRolledBack old new → IsEnded old new
ended old new h = record {
  autocommit = h.autocommit;
  undone = λ is_open. (h.undone is_open).0;
  committed = λ is_open. (h.undone is_open).1;
  was_open = h.was_open;
}

pub undo_done : (old new : State) (count : ℕ) → Executes (codes "ROLLBACK") [] old new (Ok count) → IsEnded old new
undo_done old new count h = ended old new (runs_as (codes "ROLLBACK") [] old new old.now.schema refl command.Rollback (rolls_back old.now.schema) (rolls_back_plain old.now.schema) count h).1

-- ---- a ROLLBACK that fails

-- the text is one whole statement without parameters, and ends the transaction
abbrev IsRollback : Result Compiled CompileError → Type 0
IsRollback (Ok c) = (c.command ≡ command.Rollback) × (c.returning ≡ None) × (length c.names ≡ 0) × (c.formats ≡ []) × (c.tail ≡ 8)
IsRollback (Err fault) = ⊥

is_rollback : (s : Schema) → IsRollback (understood s (codes "ROLLBACK"))
unfolding understood everything
is_rollback s = (refl, refl, refl, refl, refl)

-- what is understood of it
rollback_as : (s : Schema) (c : Compiled) → understood s (codes "ROLLBACK") ≡ Ok c → IsRollback (Ok c)
rollback_as s c is = subst IsRollback is (is_rollback s)

always_understood : (s : State) (e : Error) → IsNoStatement s (codes "ROLLBACK") [] e → ⊥
always_understood s e (inl none) = subst IsRollback none.1 (is_rollback s.now.schema)
always_understood s e (inr (c, is, inl longer)) = longer.0 (let tail = (rollback_as s.now.schema c is).4 in omega (arith, tail))
always_understood s e (inr (c, is, inr (inl params))) = params.0 (sym (rollback_as s.now.schema c is).2)
always_understood s e (inr (c, is, inr (inr asks))) = asks.0 (rollback_as s.now.schema c is).3

-- what fails of it: there was no transaction, or that is undone
command_ended : (old new : State) (c : Compiled) (sql : List ℕ) (params : Row) (e : Error) → IsRollback (Ok c) → RunsCommand old new sql c params (Err e) → new.in_transaction ≡ false
command_ended old new c sql params e is (inr fails) = fails.3.autocommit
command_ended old new c sql params e is (inl (inl (inl (told, inl begin)), same)) = absurd (let never = sym is.0 ∙ begin.0 in cc)
command_ended old new c sql params e is (inl (inl (inl (told, inr ends)), same)) = same.0.mode ∙ ends.1
command_ended old new c sql params e is (inl (inl (inr (told, name, inl release, unnamed)), same)) = absurd (let never = sym is.0 ∙ release in cc)
command_ended old new c sql params e is (inl (inl (inr (told, name, inr back, unnamed)), same)) = absurd (let never = sym is.0 ∙ back in cc)
command_ended old new c sql params e is (inl (inr (inl write, does), same)) = absurd (subst IsWrite is.0 write)
command_ended old new c sql params e is (inl (inr (inr shows, does), same)) = absurd (let never = rw is.1 at shows in cc)

-- no transaction is open after it, whatever it answers
pub rollback_ended : (old new : State) (e : Error) → Executes (codes "ROLLBACK") [] old new (Err e) → new.in_transaction ≡ false
unfolding ExecutesIn IsNotRun
rollback_ended old new e (inl (inl none)) = absurd (always_understood old e none.0)
rollback_ended old new e (inl (inr fails)) = fails.3.autocommit
rollback_ended old new e (inr (c, it, ran)) =
    let is = rollback_as old.now.schema c it.is in
    elim (cases_Bool (shows_rows false c)) [
      | inl shows ↦ absurd (let never = rw (is.0, is.1) at shows in cc)
      | inr runs ↦ command_ended old new c (codes "ROLLBACK") _ e is (rw runs at ran)
    ]

-- ---- what a crash may leave

-- a command that begins or ends a transaction changes no table
abbrev IsOnTransaction : Command → Type 0
IsOnTransaction command.Begin = Unit {0}
IsOnTransaction command.Commit = Unit {0}
IsOnTransaction command.Rollback = Unit {0}
IsOnTransaction _ = ⊥

writes_none : (limit : Option ℕ) (mode : Mode) (params : Row) (db : Database) (text : List ℕ) (returning : Option Returning) (c : Command) (it : Tally × Database) → IsOnTransaction c
    → Does limit mode params db text returning c (Ok it) → ⊥
writes_none limit mode params db text None command.Begin it is h = absurd cc
writes_none limit mode params db text (Some r) command.Begin it is h = absurd cc
writes_none limit mode params db text None command.Commit it is h = absurd cc
writes_none limit mode params db text (Some r) command.Commit it is h = absurd cc
writes_none limit mode params db text None command.Rollback it is h = absurd cc
writes_none limit mode params db text (Some r) command.Rollback it is h = absurd cc
writes_none limit mode params db text returning _ it is h = elim is [ ]

begin_may : (s : State) (returning : Option Returning) (text : List ℕ) (params : Row) (db : Trees) → MayCommit s returning command.Begin text params db → ⊥
begin_may s returning text params db (inl (inl is, same)) = absurd cc
begin_may s returning text params db (inl (inr release, same)) = absurd (let is = release.2 in cc)
begin_may s returning text params db (inr wrote) = writes_none s.step_limit (mode_of s) params s.now text returning command.Begin (wrote.1, wrote.2) tt wrote.3

commit_may : (s : State) (returning : Option Returning) (text : List ℕ) (params : Row) (db : Trees) → MayCommit s returning command.Commit text params db → db ≡ s.now.trees
commit_may s returning text params db (inl ends) = ends.1
commit_may s returning text params db (inr wrote) = absurd (writes_none s.step_limit (mode_of s) params s.now text returning command.Commit (wrote.1, wrote.2) tt wrote.3)

rollback_may : (s : State) (returning : Option Returning) (text : List ℕ) (params : Row) (db : Trees) → MayCommit s returning command.Rollback text params db → ⊥
rollback_may s returning text params db (inl (inl is, same)) = absurd cc
rollback_may s returning text params db (inl (inr release, same)) = absurd (let is = release.2 in cc)
rollback_may s returning text params db (inr wrote) = writes_none s.step_limit (mode_of s) params s.now text returning command.Rollback (wrote.1, wrote.2) tt wrote.3

-- what the text commits is what its command commits
by_command : (sql : List ℕ) (s : State) (k : Command) (db : Trees) (Q : Type 0) → command_of (understood s.now.schema sql) ≡ k
    → ((returning : Option Returning) (text : List ℕ) (params : Row) → MayCommit s returning k text params db → Q) → CommitsBy sql [] s db → Q
unfolding CommitsBy
by_command sql s k db Q is may h =
    let known : h.0.command ≡ k = sym (ap command_of h.1.is) ∙ is in
    may h.0.returning (text_of sql h.0) (timed [] h.0.formats h.1.now) (subst (λ c. MayCommit s h.0.returning c (text_of sql h.0) (timed [] h.0.formats h.1.now) db) known h.2)

pub begin_survives : (old new : State) → Survives old new (CommitsBy (codes "BEGIN") [] old) → Survives old new (λ _. ⊥)
begin_survives old new s = survives_weaker old new _ (λ _. ⊥) (λ clean db h. by_command (codes "BEGIN") old command.Begin db ⊥ (begins old.now.schema) (λ r t p m. begin_may old r t p db m) h) s

pub commit_survives : (old new : State) → Survives old new (CommitsBy (codes "COMMIT") [] old) → Survives old new (λ db. db ≡ old.now.trees)
commit_survives old new s =
    survives_weaker old new _ (λ db. db ≡ old.now.trees) (λ clean db h. by_command (codes "COMMIT") old command.Commit db (db ≡ old.now.trees) (commits old.now.schema)
    (λ r t p m. commit_may old r t p db m) h) s

pub undo_survives : (old new : State) → Survives old new (CommitsBy (codes "ROLLBACK") [] old) → Survives old new (λ _. ⊥)
undo_survives old new s =
    survives_weaker old new _ (λ _. ⊥) (λ clean db h. by_command (codes "ROLLBACK") old command.Rollback db ⊥ (rolls_back old.now.schema) (λ r t p m. rollback_may old r t p db m) h) s
