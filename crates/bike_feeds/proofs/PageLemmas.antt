-- The stations of a page between the questions: what is left of it, and what the next one is.
use Rattle.std.proofs.Common.{◌≡◌, ◌<◌, ℕ, zero, suc, List, [], ◌∷◌, ◌++◌, length, take, drop, Option, Some, None, Result, Ok, option_map, option_to_list, refl, sym, ap, ◌∙◌, subst, arith}
use Rattle.std.specs.Prelude.{slice_get, IfSome}
use Rattle.std.specs.List.{AllZip}
use Rattle.sqlite_trees.specs.declared.store.Store.{Ghosts}
use Rattle.sqlite.specs.State.{HasCleanDisk}
use Rattle.bike_operator.specs.Operator.{Operator, Station}
use Rattle.bike_queries.specs.After.{IsNext, first_after}
use Rattle.bike_queries.specs.Pages.{entries_after, page_after}
use Rattle.bike_queries.specs.declared.pages.TheConstants.{STATIONS_A_PAGE}
use Rattle.bike_queries.proofs.PageLaw.{first_is, next_after}
use Rattle.bike_desk.specs.declared.fault.DeskFault.{DeskFault}
use Rattle.bike_desk.specs.Desk.{DeskValue, desk_state, IsAt}
use Rattle.bike_desk.specs.Queries.{Queries}
use Rattle.bike_feeds.specs.Pages.{AreAhead, TakesNext}
use Rattle.bike_feeds.specs.Walking.{StaysAt}
use Rattle.bike_feeds.proofs.DeskLemmas.{earlier}

-- ---- what is taken off a page

-- a page that is what is left behind its first is empty
no_items : {X : Type 0} (xs : List X) → xs ≡ drop 1 xs → xs ≡ []
no_items [] is = refl
no_items (x ∷ xs) is = absurd (omega (arith, ap length is))

module _ {X : Type 0} (IsOf : List ℕ × Station → X → Type 0) where
  -- the first ones are as many as they are
  as_many : (n : ℕ) (es : List (List ℕ × Station)) (xs : List X) → AllZip IsOf (take n es) xs → AllZip IsOf (take (length xs) es) xs
  as_many zero es [] all = tt
  as_many zero es (x ∷ xs) all = absurd all
  as_many (suc n) [] [] all = tt
  as_many (suc n) [] (x ∷ xs) all = absurd all
  as_many (suc n) (e ∷ es) [] all = absurd all
  as_many (suc n) (e ∷ es) (x ∷ xs) all = (all.0, as_many n es xs all.1)

  -- where the first ones are none, there are none
  none_zipped : (n : ℕ) (es : List (List ℕ × Station)) → 0 < n → AllZip IsOf (take n es) [] → slice_get es 0 ≡ None
  none_zipped zero es some all = absurd (omega (arith, some))
  none_zipped (suc n) [] some all = refl
  none_zipped (suc n) (e ∷ es) some all = absurd all

  -- nothing is left of a page
  pub none_ahead : (s : Operator) (after : Option (List ℕ)) (xs : List X) → xs ≡ [] → AreAhead IsOf s after xs
  none_ahead s after [] empty = tt
  none_ahead s after (x ∷ xs) empty = absurd (cc empty)

  -- a page was answered
  pub page_ahead : (s : Operator) (after : Option (List ℕ)) (xs : List X) → AllZip IsOf (page_after after s.stations) xs → AreAhead IsOf s after xs
  page_ahead s after xs all = as_many STATIONS_A_PAGE (entries_after after s.stations) xs all

  -- the first of those that are ahead
  taken : (s : Operator) (after : Option (List ℕ)) (es : List (List ℕ × Station)) (x : X) (left : List X) → entries_after after s.stations ≡ es
      → AllZip IsOf (take (suc (length left)) es) (x ∷ left) → TakesNext IsOf s after (Some x) left
  taken s after [] x left is all = absurd all
  taken s after (e ∷ es) x left is all = (
    e,
    first_is after s.stations ∙ ap (λ (xs : List (List ℕ × Station)). slice_get xs 0) is,
    all.0,
    subst (λ (xs : List (List ℕ × Station)). AllZip IsOf (take (length left) xs) left) (sym (next_after after s.stations e es is)) all.1,
  )

  pub takes_next : (s : Operator) (after : Option (List ℕ)) (xs : List X) (x : X) (left : List X) → xs ≡ x ∷ left → AreAhead IsOf s after xs → TakesNext IsOf s after (Some x) left
  takes_next s after xs x left is ahead = taken s after (entries_after after s.stations) x left refl (subst (AreAhead IsOf s after) is ahead)

  -- what a page that was answered begins with, or nothing
  pub takes_first : (s : Operator) (after : Option (List ℕ)) (xs : List X) (o : Option X) (left : List X) → xs ≡ option_to_list o ++ left → left ≡ drop 1 xs
      → AllZip IsOf (page_after after s.stations) xs → TakesNext IsOf s after o left
  takes_first s after xs (Some x) left is rest all = takes_next s after xs x left is (page_ahead s after xs all)
  takes_first s after xs None left is rest all =
      first_is after s.stations ∙ none_zipped STATIONS_A_PAGE (entries_after after s.stations) (omega arith) (subst (AllZip IsOf (page_after after s.stations)) (no_items xs (is ∙ rest)) all)

-- the next one, as its station
pub next_is : {X : Type 0} (IsOf : List ℕ × Station → X → Type 0) (station : X → Station) → ((e : List ℕ × Station) (x : X) → IsOf e x → (station x ≡ e.1) × ((station x).row.station_id ≡ e.0))
    → (s : Operator) (after : Option (List ℕ)) (next : Option X) (left : List X) → TakesNext IsOf s after next left
    → IsNext (λ (y : Station). y.row.station_id) (first_after after s.stations) (option_map station next)
next_is IsOf station its s after None left takes = subst (λ (o : Option (List ℕ × Station)). IsNext (λ (y : Station). y.row.station_id) o None) (sym takes) tt
next_is IsOf station its s after (Some x) left takes =
    subst (λ (o : Option (List ℕ × Station)). IsNext (λ (y : Station). y.row.station_id) o (Some (station x))) (sym takes.1) (its takes.0 x takes.2)

-- ---- what is left, between the questions

module _ {S X : Type 0} (g : Ghosts S) (IsOf : Operator → List ℕ × Station → X → Type 0) where
  -- the next one is an entry's, and what is left of the page are those after it
  pub record Ahead (next : Option X) (left : List X) (old new : DeskValue S) : Type 0 where
    pub are : HasCleanDisk (desk_state g new) → (s : Operator) → IsAt g old s → IfSome next (λ x. (e : List ℕ × Station) × IsOf s e x × AreAhead (IsOf s) s (Some e.0) left)

  its_entry : (s : Operator) (after : Option (List ℕ)) (next : Option X) (left : List X) → TakesNext (IsOf s) s after next left
      → IfSome next (λ x. (e : List ℕ × Station) × IsOf s e x × AreAhead (IsOf s) s (Some e.0) left)
  its_entry s after None left takes = tt
  its_entry s after (Some x) left takes = (takes.0, takes.2, takes.3)

  -- after a question
  pub ahead_asked : {A : Type 0} {says : Operator → A → Type 0} {d e f : DeskValue S} (answer : A) (after : Option (List ℕ)) (next : Option X) (left : List X)
      → StaysAt g d e → Queries g e f (Ok answer) says → (HasCleanDisk (desk_state g f) → (s : Operator) → IsAt g d s → says s answer → TakesNext (IsOf s) s after next left)
      → Ahead next left d f
  ahead_asked {e = e} {f = f} answer after next left stays query takes = record {
    are = λ clean s at. its_entry s after next left (takes clean s at (query.ok clean s (stays.same (earlier g e f query.clean clean) s at)).0);
  }

  -- at the next question
  pub still_ahead : {A : Type 0} {says : Operator → A → Type 0} {d e f : DeskValue S} {r : Result A DeskFault} (x : X) (left : List X) (id : List ℕ)
      → ((s : Operator) (e : List ℕ × Station) → IsOf s e x → id ≡ e.0) → Ahead (Some x) left d e → Queries g e f r says
      → HasCleanDisk (desk_state g f) → (s : Operator) → IsAt g d s → AreAhead (IsOf s) s (Some id) left
  still_ahead {e = e} {f = f} x left id named ahead query clean s at =
      let it = ahead.are (earlier g e f query.clean clean) s at in
      subst (λ (k : List ℕ). AreAhead (IsOf s) s (Some k) left) (sym (named s it.0 it.1)) it.2
