-- What the tests of a command that isn't refused say.
use Rattle.std.specs.Str.{bytes_eq}
use Rattle.std.proofs.lemmas.Slice.Eq.{bytes_eq-Decides}
use Rattle.std.proofs.Common.{◌==◌, ◌&&◌, ◌||◌, not, is_some, subst, ◌≡◌, ℕ, ◌≤◌, List, [], ◌∷◌, Bool, true, false, Option, Some, None, is_none, refl, arith, if◌then◌else◌}
use Rattle.std.specs.FinMap as map
use Rattle.std.proofs.lemmas.Bool.Decides.{nat_tests}
use Rattle.bike_commands.specs.declared.refusal.Refusal.{Refusal}
use Rattle.bike_operator.specs.Operator.{Operator, Station, Truck}
use Rattle.bike_operator.specs.View.{station_view, truck_view}
use Rattle.bike_operator.specs.Steps.{on, first, has_no_dock}
use Rattle.bike_operator.specs.Sound.{HasDock}

-- no test of a row holds
abbrev pub NoneHolds : List (Bool × Refusal) → Type 0
NoneHolds [] = Unit {0}
NoneHolds (t ∷ ts) = (t.0 ≡ false) × NoneHolds ts

first_fails : (b : Bool) (r : Refusal) (rest : Option Refusal) → (if b then Some r else rest) ≡ None → (b ≡ false) × (rest ≡ None)
first_fails true r rest e = absurd cc
first_fails false r rest e = (refl, e)

pub none_holds : (ts : List (Bool × Refusal)) → first ts ≡ None → NoneHolds ts
none_holds [] e = tt
none_holds (t ∷ ts) e = let f = first_fails t.0 t.1 (first ts) e in (f.0, none_holds ts f.1)

-- ---- what a test says that doesn't hold

pub some_of : {A : Type 0} (o : Option A) → is_none o ≡ false → (x : A) × (o ≡ Some x)
some_of None e = absurd cc
some_of (Some x) e = (x, refl)

pub none_of : {A : Type 0} (o : Option A) → is_some o ≡ false → o ≡ None
none_of None e = refl
none_of (Some x) e = absurd cc

pub same_some : {A : Type 0} (x y : A) → Some x ≡ Some y → x ≡ y
same_some x y e = cc

pub truck_of : (o : Option Truck) → is_none (truck_view o) ≡ false → (t : Truck) × (o ≡ Some t)
truck_of None e = absurd cc
truck_of (Some t) e = (t, refl)

pub no_truck : (o : Option Truck) → is_some (truck_view o) ≡ false → o ≡ None
no_truck None e = refl
no_truck (Some t) e = absurd cc

-- a test of a row that is there
pub on_row : {A : Type 0} (test : A → Bool) (o : Option A) (x : A) → o ≡ Some x → on o test ≡ false → test x ≡ false
on_row {A} test o x e h = subst (λ (z : Option A). on z test ≡ false) e h

pub on_view : {A B : Type 0} (view : Option A → Option B) (test : B → Bool) (o : Option A) (x : A) → o ≡ Some x → on (view o) test ≡ false → on (view (Some x)) test ≡ false
on_view {A} view test o x e h = subst (λ (z : Option A). on (view z) test ≡ false) e h

pub both_hold : (a b : Bool) → not (a && b) ≡ false → (a ≡ true) × (b ≡ true)
both_hold true true e = (refl, refl)
both_hold true false e = absurd cc
both_hold false b e = absurd cc

pub holds : (b : Bool) → not b ≡ false → b ≡ true
holds true e = refl
holds false e = absurd cc

pub neither : (a b : Bool) → (a || b) ≡ false → (a ≡ false) × (b ≡ false)
neither true b e = absurd cc
neither false b e = (refl, e)

pub same_bytes : (xs ys : List ℕ) → bytes_eq xs ys ≡ true → xs ≡ ys
same_bytes xs ys e = (bytes_eq-Decides xs ys).0 e

pub same_number : (a b : ℕ) → (a == b) ≡ true → a ≡ b
same_number a b e = grind (arith, nat_tests, e)

pub no_station : (o : Option Station) → is_some (station_view o) ≡ false → o ≡ None
no_station None e = refl
no_station (Some x) e = absurd cc

-- the station that is there has the dock
pub dock_of : (s : Operator) (station : List ℕ) (dock : ℕ) (o : Option Station) → map.get s.stations station ≡ o → is_none (station_view o) ≡ false → has_no_dock dock (station_view o) ≡ false
    → 1 ≤ dock → HasDock s station dock
dock_of s station dock None e there has low = absurd cc
dock_of s station dock (Some x) e there has low = record { row = x; found = e; low = low; high = grind (arith, nat_tests, has) }
