-- A list of sessions with one more.
use Rattle.std.proofs.Common.{◌≡◌, ℕ, List, [], ◌∷◌, ◌++◌, map, take, length, get_or, ◌+◌, ◌<◌, Result, Ok, Err, ◌≤◌, add-one, refl, sym, ap, ◌∙◌, subst, arith}
use Rattle.std.specs.Prelude.{IfOk}
use Rattle.std.proofs.lemmas.List.{map-append, take_all}
use Rattle.std.proofs.Math.Seq.{take-suc}
use Rattle.sqlite_trees.specs.declared.store.Store.{Ghosts}
use Rattle.sqlite_trees.specs.declared.memory.MemStore.{MemStore}
use Rattle.sqlite_trees.specs.View.{doubt}
use Rattle.sqlite.specs.State.{HasCleanDisk}
use Rattle.sqlite.specs.Steps.{over_memory}
use Rattle.sqlite.proofs.Callers.{memory_is_clean}
use Rattle.bike_commands.specs.declared.reply.Reply.{Reply}
use Rattle.bike_operator.specs.Operator.{Operator}
use Rattle.bike_operator.specs.Runs.{Call}
use Rattle.bike_schema.specs.Stands.{AllLeft}
use Rattle.bike_desk.specs.Desk.{DeskValue, desk_state, IsAt}
use Rattle.bike_desk.specs.Runs.{IsAfterFront, IsAtFront}
use Rattle.bike_laws.specs.Sessions.{Session, AreSessions, after_sessions, answers_given}
use Rattle.bike_laws.proofs.SessionLemmas.{accepts_once, answers_again, refuses_others, leaves_retries_out, sessions-next, after_sessions-next, answers-next, replies-take}
use Rattle.bike_recovery.specs.Recovery.{AreReplies}
use Rattle.bike_recovery.specs.SessionsServed.{ServesSessions}

module _ {S : Type 0} (g : Ghosts S) (s : Operator) where
  serves : (d : DeskValue S) (lists : List (List Call)) (told : List (List Reply)) (xs : List Session) → AreSessions xs
      → map (λ (x : Session). x.calls) xs ≡ lists → told ≡ answers_given s xs → IsAt g d (after_sessions s xs) → ServesSessions g d s lists told
  serves d lists told xs are calls answers at = record {
    served = xs;
    are = are;
    calls = calls;
    answers = answers;
    at = at;
    once = accepts_once s xs;
    again = answers_again s xs;
    reused = refuses_others s xs;
    without = leaves_retries_out s xs;
  }

  -- no session was served
  pub serves-none : {Y : Type 0} (h : Y → List Reply) (d : DeskValue S) (told : List Y) → told ≡ [] → IsAt g d s → ServesSessions g d s [] (map h told)
  serves-none h d told none at = subst (λ l. ServesSessions g d s [] (map h l)) (sym none) (serves d [] [] [] tt refl refl at)

  -- what was answered in it, and the desk after its stop, make one session more
  serves-next : (mid d : DeskValue S) (lists : List (List Call)) (told : List (List Reply)) (calls : List Call) (rs : List Reply)
      (so_far : ServesSessions g mid s lists told)
      → AreReplies (after_sessions s so_far.served) calls rs → IsAtFront g d (after_sessions s so_far.served) calls (length rs)
      → ServesSessions g d s (lists ++ calls ∷ []) (told ++ rs ∷ [])
  serves-next mid d lists told calls rs so_far are front =
      let xs = so_far.served in
      let x : Session = record { calls = calls; answered = length rs; acting = front.0 } in
      let then = after_sessions s xs in
      serves d (lists ++ calls ∷ []) (told ++ rs ∷ []) (xs ++ x ∷ []) (sessions-next xs x so_far.are (record { answers = front.1; one_more = front.2; few = front.3 }))
      (map-append (λ (y : Session). y.calls) xs (x ∷ []) ∙ ap (λ (l : List (List Call)). l ++ calls ∷ []) so_far.calls)
      (
      ap (λ (l : List (List Reply)). l ++ rs ∷ []) so_far.answers
      ∙ ap (λ (l : List Reply). answers_given s xs ++ l ∷ []) (are.front ∙ replies-take (length rs) then calls)
      ∙ sym (answers-next s xs x))
      (subst (IsAt g d) (sym (after_sessions-next s xs x)) front.4)

  -- the same of the lists in their vectors, of which one more is served
  pub serves-turn : {X Y : Type 0} (f : X → List Call) (h : Y → List Reply) (mid d : DeskValue S) (xs : List X) (i : ℕ) (x : X) (calls : List Call)
      (old new : List Y) (y : Y) → i < length xs → x ≡ get_or xs i x → calls ≡ f x → new ≡ old ++ y ∷ []
      → (so_far : ServesSessions g mid s (map f (take i xs)) (map h old))
      → AreReplies (after_sessions s so_far.served) calls (h y) → IsAtFront g d (after_sessions s so_far.served) calls (length (h y))
      → ServesSessions g d s (map f (take (i + 1) xs)) (map h new)
  serves-turn f h mid d xs i x calls old new y low is same noted so_far are front =
      let lists : map f (take (i + 1) xs) ≡ map f (take i xs) ++ calls ∷ [] =
      ap (map f) (ap (λ n. take n xs) (add-one i) ∙ take-suc xs i x low ∙ ap (λ z. take i xs ++ z ∷ []) (sym is))
      ∙ map-append f (take i xs) (x ∷ [])
      ∙ ap (λ l. map f (take i xs) ++ l ∷ []) (sym same) in
      let tells : map h new ≡ map h old ++ h y ∷ [] = ap (map h) noted ∙ map-append h old (y ∷ []) in
      subst (λ l. ServesSessions g d s l (map h new)) (sym lists) (
      subst (ServesSessions g d s (map f (take i xs) ++ calls ∷ [])) (sym tells) (
      serves-next mid d (map f (take i xs)) (map h old) calls (h y) so_far are front))

  -- all lists are served
  pub serves-all : {X : Type 0} (f : X → List Call) (d : DeskValue S) (xs : List X) (i : ℕ) (told : List (List Reply)) → length xs ≤ i
      → ServesSessions g d s (map f (take i xs)) told → ServesSessions g d s (map f xs) told
  serves-all f d xs i told all so_far = subst (λ l. ServesSessions g d s (map f l) told) (take_all i xs all) so_far

-- what a stop left of a run is taken into service again at a front
pub resumes : {S E : Type 0} (g : Ghosts S) (run : DeskValue S) (s : Operator) (calls : List Call) (k : ℕ) (o : Result (DeskValue S) E)
    → (HasCleanDisk (desk_state g run) → AllLeft (desk_state g run) (IsAfterFront s calls k))
    → IfOk o (λ again. doubt (desk_state g run).is_clean ≤ doubt (desk_state g again).is_clean)
    → IfOk o (λ again. HasCleanDisk (desk_state g again) → (s : Operator) (calls : List Call) (k : ℕ)
    → AllLeft (desk_state g run) (IsAfterFront s calls k) → IsAtFront g again s calls k)
    → IfOk o (λ again. HasCleanDisk (desk_state g again) → IsAtFront g again s calls k)
resumes g run s calls k (Err e) left clean front = tt
resumes g run s calls k (Ok again) left clean front = λ fine. front fine s calls k (left (omega (arith, fine, clean)))

-- over memory nothing has to be supposed of a disk
pub served_in_memory : {E : Type 0} (P : DeskValue MemStore → Type 0) (o : Result (DeskValue MemStore) E)
    → IfOk o (λ d. HasCleanDisk (desk_state over_memory d) → P d) → IfOk o P
served_in_memory P (Err e) h = tt
served_in_memory P (Ok d) h = h (memory_is_clean d.conn)
