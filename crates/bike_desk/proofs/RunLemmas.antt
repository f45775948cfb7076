-- A run with one more request.
use Rattle.std.proofs.Common.{IsTrue, ◌≡◌, inl, inr, ℕ, ◌+◌, ◌<◌, ◌++◌, [], ◌∷◌, List, take, length, get_or, refl, sym, ap, ◌∙◌, subst, arith, Option, Some, None}
use Rattle.std.proofs.lemmas.List.{take_all}
use Rattle.std.proofs.lemmas.Bool.{both_ways}
use Rattle.sqlite_trees.specs.declared.store.Store.{Ghosts}
use Rattle.bike_commands.specs.declared.reply.Reply.{Reply}
use Rattle.bike_operator.specs.Operator.{Operator}
use Rattle.bike_operator.specs.Runs.{Call, step, after, replies}
use Rattle.bike_laws.proofs.RunLemmas.{after-append, replies-append}
use Rattle.bike_schema.specs.Stands.{AllLeft, TreesStandFor}
use Rattle.bike_desk.specs.declared.fault.DeskFault.{DeskFault}
use Rattle.bike_desk.specs.declared.fault.DeskFault.TheVariants.{NoMemory, StoreFailed, Stopped}
use Rattle.bike_desk.specs.Desk.{DeskValue, desk_state, IsAt, TreesStandForEither}
use Rattle.bike_desk.specs.Runs.{Ran, EndsAt, IsAfterFront}
use Rattle.bike_desk.proofs.ChangeLemmas.{take-item}

abbrev pub stepped : Operator → Call → Operator
stepped s c = (step s c.0 c.1).1

abbrev pub replied : Operator → Call → Reply
replied s c = (step s c.0 c.1).0

pub after-next : (s : Operator) (xs : List Call) (i : ℕ) (c : Call) → i < length xs → c ≡ get_or xs i c → after s (take (i + 1) xs) ≡ stepped (after s (take i xs)) c
after-next s xs i c low is = ap (after s) (take-item xs i c low is) ∙ after-append s (take i xs) (c ∷ [])

pub replies-next : (s : Operator) (xs : List Call) (i : ℕ) (c : Call) → i < length xs → c ≡ get_or xs i c → replies s (take (i + 1) xs) ≡ replies s (take i xs) ++ replied (after s (take i xs)) c ∷ []
replies-next s xs i c low is = ap (replies s) (take-item xs i c low is) ∙ replies-append s (take i xs) (c ∷ [])

module _ {S : Type 0} (g : Ghosts S) (now : DeskValue S) (s : Operator) (calls : List Call) where
  -- whatever ended the run, a crash leaves a front
  pub front_of : (told : List Reply) (end : Option DeskFault) → Ran g now s calls told end → AllLeft (desk_state g now) (IsAfterFront s calls (length told))
  front_of told None r db h =
      (length told, omega arith, omega arith, r.within, subst (λ xs. TreesStandFor (after s xs) db) (sym (take_all (length told) calls (omega (arith, r.ends.0)))) (r.ends.1.keeps.left db h))
  front_of told (Some NoMemory) r db h = (length told, omega arith, omega arith, r.within, r.ends.1.keeps.left db h)
  front_of told (Some StoreFailed) r db h = elim (r.ends.2 db h) [
    | inl before ↦ (length told, omega arith, omega arith, r.within, before)
    | inr after ↦ (length told + 1, omega arith, omega arith, omega (arith, r.ends.0), after)
  ]
  front_of told (Some Stopped) r db h = absurd r.ends

  -- the fault of the request after the first k
  pub fault_ends : (k : ℕ) (c : Call) (before : DeskValue S) (fault : DeskFault) → k < length calls → c ≡ get_or calls k c → IsAt g before (after s (take k calls))
      → (fault ≡ NoMemory → now ≡ before) → (fault ≡ StoreFailed → IsTrue now.is_stopped)
      → (fault ≡ StoreFailed → AllLeft (desk_state g now) (TreesStandForEither (after s (take k calls)) (stepped (after s (take k calls)) c)))
      → (fault ≡ Stopped → IsTrue before.is_stopped) → EndsAt g now s calls k (Some fault)
  fault_ends k c before NoMemory low is at same stops failed stopped = (inr low, subst (λ (d : DeskValue S). IsAt g d (after s (take k calls))) (sym (same refl)) at)
  fault_ends k c before StoreFailed low is at same stops failed stopped =
      (low, stops refl, λ db h. subst (λ o. TreesStandForEither (after s (take k calls)) o db) (sym (after-next s calls k c low is)) (failed refl db h))
  fault_ends k c before Stopped low is at same stops failed stopped = both_ways before.is_stopped at.goes_on (stopped refl)
