-- Statements with no parameters that run one after another within a transaction.
use Rattle.std.proofs.Common.{◌≡◌, ◌+◌, ◌<◌, ℕ, List, [], ◌∷◌, ◌++◌, length, map, take, get_or, IsTrue, Result, Ok, Err, OnErr, refl, sym, ap, subst, ◌∙◌, inl, inr}
use Rattle.std.proofs.lemmas.List.{take_more, map-append}
use Rattle.sqlite_trees.specs.declared.store.Store.{Ghosts}
use Rattle.sqlite.specs.Held.{Held, state}
use Rattle.sqlite.specs.State.{State, KeepsCommit}
use Rattle.bike_sql.specs.Outcome.{IsLeft}
use Rattle.bike_schema.specs.Makes.{Continues}
use Rattle.bike_schema.specs.Creates.{Ran, RanAll}

pub texts_more : {X : Type 0} (text : X → List ℕ) (xs : List X) (i : ℕ) (d : X) → i < length xs → map text (take (i + 1) xs) ≡ map text (take i xs) ++ text (get_or xs i d) ∷ []
texts_more text xs i d within = ap (map text) (take_more xs i d within) ∙ map-append text (take i xs) (get_or xs i d ∷ [])

pub on_err : {X E P : Type 0} (r : Result X E) → P → OnErr r P
on_err (Ok x) h = tt
on_err (Err e) h = h

-- ---- what is committed stays

pub keeps_then : (a b c : State) → KeepsCommit a b → KeepsCommit b c → KeepsCommit a c
keeps_then a b c first second = record { was_open = λ h. first.was_open (second.was_open h); committed = λ h. second.committed h ∙ first.committed (second.was_open h) }

pub continues_keeps : (a b : State) → Continues a b → KeepsCommit a b
continues_keeps a b it = record { was_open = λ _. it.was_open; committed = λ _. it.committed_is }

pub left_keeps : (a b : State) → IsLeft a b → KeepsCommit a b
left_keeps a b (inl same) = record { was_open = λ _. same.0.was_open; committed = λ _. same.0.committed_is }
left_keeps a b (inr undone) = record { was_open = undone.was_open; committed = λ h. (undone.undone h).1 }

module _ {S : Type 0} (g : Ghosts S) where
  pub all_keep : (texts : List (List ℕ)) (a c : Held S) → RanAll g texts a c → KeepsCommit (state g a) (state g c)
  all_keep [] a c same = subst (λ h. KeepsCommit (state g a) (state g h)) same (record { was_open = λ h. h; committed = λ _. refl })
  all_keep (text ∷ texts) a c (mid, ran, rest) = keeps_then (state g a) (state g mid) (state g c) (continues_keeps (state g a) (state g mid) ran.1.1) (all_keep texts mid c rest)

  -- the transaction is open after them as it was before
  pub all_inside : (texts : List (List ℕ)) (a c : Held S) → RanAll g texts a c → IsTrue a.in_transaction → IsTrue c.in_transaction
  all_inside [] a c same inside = subst (λ h. IsTrue h.in_transaction) same inside
  all_inside (text ∷ texts) a c (mid, ran, rest) inside = all_inside texts mid c rest ran.1.1.mode

  -- one more
  pub ran_more : (texts : List (List ℕ)) (text : List ℕ) (a b c : Held S) → RanAll g texts a b → Ran text (state g b) (state g c) → RanAll g (texts ++ text ∷ []) a c
  ran_more [] text a b c same ran = (c, subst (λ h. Ran text (state g h) (state g c)) (sym same) ran, refl)
  ran_more (t ∷ texts) text a b c (mid, ran, rest) next = (mid, ran, ran_more texts text mid b c rest next)
