-- Bicycles in docks, in the order of stations, docks and numbers: a crowded one stands behind another in its dock.
use Rattle.std.proofs.Common.{◌≡◌, ◌⊎◌, inl, inr, ℕ, ◌<◌, ◌≤◌, ◌==◌, List, [], ◌∷◌, Bool, true, false, cond, pos, Option, Some, None, refl, sym, ap, ◌∙◌, subst, arith}
use Rattle.std.specs.Prelude.{nat_lt, IfSome}
use Rattle.std.specs.List.{AllByRecursion}
use Rattle.std.specs.Str.{bytes_eq}
use Rattle.std.specs.Ordering.{nat_cmp, ordering_then, ordering_reverse}
use Rattle.std.specs.Cmp.{ranked}
use Rattle.std.specs.declared.cmp.Ordering.{Ordering}
use Rattle.std.specs.declared.cmp.Ordering.TheVariants.{Less, Equal, Greater}
use Rattle.std.proofs.lemmas.Bool.{eqb-true}
use Rattle.std.proofs.lemmas.Bool.Decides.{nat_tests}
use Rattle.std.proofs.lemmas.Cmp.{tied_itself}
use Rattle.std.proofs.lemmas.Slice.Eq.{bytes_eq-Decides}
use Rattle.sqlite_value.specs.declared.value.Value.TheVariants.{Int, Text}
use Rattle.sqlite_value.specs.Order.{Row, row_cmp, value_cmp}
use Rattle.sqlite_value.proofs.OrderLemmas.{value_cmp-Text, then-Equal}
use Rattle.sqlite_rules.specs.Lists.{Has}
use Rattle.sqlite_trees.specs.Tree.{IsAscending}
use Rattle.bike_sql.proofs.OrderLemmas.{all_has}
use Rattle.bike_operator.specs.Operator.{text_cmp}
use Rattle.bike_laws.proofs.SingleSteps.MapLemmas.{text_order, number_order}
use Rattle.bike_book.specs.Rows.{number_value}
use Rattle.bike_book.proofs.Keys.{value_cmp-number_value}
use Rattle.bike_fleet_rules.specs.Docks.{Docked, is_shared, lesser_number, found_with, shared_pass}
use Rattle.bike_fleet_rules.proofs.OfRows.{first_true, second_true, both_true}

-- ---- the order

-- the first columns of a line
abbrev pub dock_key : Docked → Row
dock_key d = Text d.station ∷ number_value d.dock ∷ Int (pos 1) ∷ number_value d.bike ∷ []

abbrev pub dock_cmp : Docked → Docked → Ordering
dock_cmp d e = ordering_then (text_cmp d.station e.station) (ordering_then (nat_cmp d.dock e.dock) (nat_cmp d.bike e.bike))

pub keys_cmp : (d e : Docked) → row_cmp (dock_key d) (dock_key e) ≡ dock_cmp d e
keys_cmp d e =
    let station = value_cmp-Text d.station e.station in
    let dock = value_cmp-number_value d.dock e.dock in
    let same : value_cmp (Int (pos 1)) (Int (pos 1)) ≡ Equal = value_cmp-number_value 1 1 in
    let bike = then-Equal (value_cmp (number_value d.bike) (number_value e.bike)) ∙ value_cmp-number_value d.bike e.bike in
    λ i. ordering_then (station i) (ordering_then (dock i) (ordering_then (same i) (bike i)))

pub record IsSameDock (d e : Docked) : Type 0 where
  pub station_is : d.station ≡ e.station
  pub dock_is : d.dock ≡ e.dock

text_itself : (a b : List ℕ) → a ≡ b → text_cmp a b ≡ Equal
text_itself a b is = ap (text_cmp a) (sym is) ∙ tied_itself text_order.total a

number_itself : (a b : ℕ) → a ≡ b → nat_cmp a b ≡ Equal
number_itself a b is = ap (nat_cmp a) (sym is) ∙ tied_itself number_order.total a

-- of two in a dock the first has the lesser number
pub lesser_bike : (d e : Docked) → IsSameDock d e → dock_cmp d e ≡ Less → d.bike < e.bike
lesser_bike d e same low =
    let station = text_itself d.station e.station same.station_is in
    let dock = number_itself d.dock e.dock same.dock_is in
    let numbers : nat_cmp d.bike e.bike ≡ Less =
    sym (λ i. ordering_then (station i) (ordering_then (dock i) (nat_cmp d.bike e.bike))) ∙ low in
    ranked d.bike e.bike Less (sym numbers)

-- what stands between two in a dock is in it
pub between : (x y d : Docked) → IsSameDock x d → dock_cmp x y ≡ Less → dock_cmp y d ≡ Less → IsSameDock x y
between x y d same low high = go (text_cmp x.station y.station) refl where
  docks : x.station ≡ y.station → (o : Ordering) → nat_cmp x.dock y.dock ≡ o → IsSameDock x y
  docks at Less e =
      let back : nat_cmp y.dock d.dock ≡ Greater = ap (nat_cmp y.dock) (sym same.dock_is) ∙ number_order.total.antisymm y.dock x.dock ∙ ap ordering_reverse e in
      let station = text_itself y.station d.station (sym at ∙ same.station_is) in
      absurd (let up : Greater ≡ Less = sym (λ i. ordering_then (station i) (ordering_then (back i) (nat_cmp y.bike d.bike))) ∙ high in cc)
  docks at Equal e = record { station_is = at; dock_is = ranked x.dock y.dock Equal (sym e) }
  docks at Greater e =
      let station = text_itself x.station y.station at in
      absurd (let up : Greater ≡ Less = sym (λ i. ordering_then (station i) (ordering_then (e i) (nat_cmp x.bike y.bike))) ∙ low in cc)

  go : (o : Ordering) → text_cmp x.station y.station ≡ o → IsSameDock x y
  go Less e =
      let back : text_cmp y.station d.station ≡ Greater = ap (text_cmp y.station) (sym same.station_is) ∙ text_order.total.antisymm y.station x.station ∙ ap ordering_reverse e in
      absurd (let up : Greater ≡ Less = sym (λ i. ordering_then (back i) (ordering_then (nat_cmp y.dock d.dock) (nat_cmp y.bike d.bike))) ∙ high in cc)
  go Equal e = docks (text_order.same x.station y.station e) (nat_cmp x.dock y.dock) refl
  go Greater e = absurd (let up : Greater ≡ Less = sym (λ i. ordering_then (e i) (ordering_then (nat_cmp x.dock y.dock) (nat_cmp x.bike y.bike))) ∙ low in cc)

-- ---- crowded bicycles

-- one of these, with this number, is in the dock of the one before it
abbrev pub Crowds : Option Docked → List Docked → ℕ → Type 0
Crowds last [] n = ⊥
Crowds last (d ∷ ds) n = ((d.bike ≡ n) × (is_shared last d ≡ true)) ⊎ Crowds (Some d) ds n

abbrev pub AreInOrder : List Docked → Type 0
AreInOrder = IsAscending (λ a b. dock_cmp a b ≡ Less)

abbrev IsBelow : Docked → List Docked → Type 0
IsBelow x ds = AllByRecursion (λ y. dock_cmp x y ≡ Less) ds

shared_dock : (x d : Docked) → is_shared (Some x) d ≡ true → IsSameDock x d
shared_dock x d e = record {
  station_is = (bytes_eq-Decides x.station d.station).0 (first_true (bytes_eq x.station d.station) (x.dock == d.dock) e);
  dock_is = eqb-true x.dock d.dock (second_true (bytes_eq x.station d.station) (x.dock == d.dock) e);
}

dock_shared : (x d : Docked) → IsSameDock x d → is_shared (Some x) d ≡ true
dock_shared x d same =
    let dock = same.dock_is in
    both_true (bytes_eq x.station d.station) (x.dock == d.dock) ((bytes_eq-Decides x.station d.station).1 same.station_is) (grind (arith, nat_tests, dock))

-- a bicycle with the number, and another of a lesser number in its dock
pub record IsCrowd (last : Option Docked) (ds : List Docked) (n : ℕ) : Type 0 where
  pub own : Docked
  pub has : Has ds own
  pub bike_is : own.bike ≡ n
  pub other : Docked
  pub there : (last ≡ Some other) ⊎ Has ds other
  pub same : IsSameDock other own
  pub lower : other.bike < own.bike

abbrev LastBelow : Option Docked → List Docked → Type 0
LastBelow last ds = IfSome last (λ x. IsBelow x ds)

pub crowd_of : (last : Option Docked) (ds : List Docked) → AreInOrder ds → LastBelow last ds → (n : ℕ) → Crowds last ds n → IsCrowd last ds n
crowd_of last [] up below n it = elim it [ ]
crowd_of None (d ∷ ds) up below n (inl it) = absurd (let e = it.1 in cc)
crowd_of (Some x) (d ∷ ds) up below n (inl it) =
    let same = shared_dock x d it.1 in
    record { own = d; has = inl refl; bike_is = it.0; other = x; there = inl refl; same = same; lower = lesser_bike x d same below.0 }
crowd_of last (d ∷ ds) up below n (inr later) =
    let it = crowd_of (Some d) ds up.1 up.0 n later in
    record { own = it.own; has = inr it.has; bike_is = it.bike_is; other = it.other; there = inr (here it.other it.there); same = it.same; lower = it.lower }
  where
    here : (x : Docked) → (Some d ≡ Some x) ⊎ Has ds x → Has (d ∷ ds) x
    here x (inl is) = inl (let e : d ≡ x = cc in sym e)
    here x (inr has) = inr has

crowds_next : (x : Docked) (ds : List Docked) → AreInOrder ds → IsBelow x ds → (d : Docked) → Has ds d → IsSameDock x d → Crowds (Some x) ds d.bike
crowds_next x [] up below d has same = elim has [ ]
crowds_next x (y ∷ ds) up below d (inl is) same = inl (ap (λ (z : Docked). z.bike) (sym is), ap (is_shared (Some x)) (sym is) ∙ dock_shared x d same)
crowds_next x (y ∷ ds) up below d (inr later) same =
    let high : dock_cmp y d ≡ Less = all_has (λ z. dock_cmp y z ≡ Less) ds d up.0 later in
    let mid = between x y d same below.0 high in
    inr (crowds_next y ds up.1 up.0 d later (record { station_is = sym mid.station_is ∙ same.station_is; dock_is = sym mid.dock_is ∙ same.dock_is }))

pub crowds_of : (last : Option Docked) (ds : List Docked) → AreInOrder ds → (d x : Docked) → Has ds d → Has ds x → IsSameDock x d → x.bike < d.bike → Crowds last ds d.bike
crowds_of last [] up d x has other same lower = elim has [ ]
crowds_of last (y ∷ ds) up d x (inl p) (inl q) same lower =
    let own : d.bike ≡ y.bike = ap (λ (z : Docked). z.bike) p in
    let its : x.bike ≡ y.bike = ap (λ (z : Docked). z.bike) q in
    absurd (omega (arith, own, its, lower))
crowds_of last (y ∷ ds) up d x (inl p) (inr later) same lower =
    let low : dock_cmp d x ≡ Less = ap (λ (z : Docked). dock_cmp z x) p ∙ all_has (λ z. dock_cmp y z ≡ Less) ds x up.0 later in
    let less = lesser_bike d x (record { station_is = sym same.station_is; dock_is = sym same.dock_is }) low in
    absurd (omega (arith, less, lower))
crowds_of last (y ∷ ds) up d x (inr later) (inl q) same lower = inr (crowds_next y ds up.1 up.0 d later (subst (λ (z : Docked). IsSameDock z d) q same))
crowds_of last (y ∷ ds) up d x (inr later) (inr also) same lower = inr (crowds_of (Some y) ds up.1 d x later also same lower)

-- ---- the least number

abbrev pub IsLeastOf : (ℕ → Type 0) → Option ℕ → Type 0
IsLeastOf P None = (n : ℕ) → P n → ⊥
IsLeastOf P (Some n) = P n × ((m : ℕ) → m < n → P m → ⊥)

-- of one set, and of one in which each has one of these at or below it
least_same : (P Q : ℕ → Type 0) → ((n : ℕ) → P n → Q n) → ((n : ℕ) → Q n → (m : ℕ) × P m × (m ≤ n)) → (v : Option ℕ) → IsLeastOf P v → IsLeastOf Q v
least_same P Q to from None none = λ n q. none (from n q).0 (from n q).1
least_same P Q to from (Some n) it = (to n it.0, λ m low q. let found = from m q in let most = found.2 in it.1 found.0 (omega (arith, low, most)) found.1)

record HasLesser (found : Option ℕ) (k n : ℕ) : Type 0 where
  number : ℕ
  is : lesser_number found k ≡ Some number
  low : number ≤ n

lesser_is : (found : Option ℕ) (k n : ℕ) → lesser_number found k ≡ Some n → (found ≡ Some n) ⊎ (k ≡ n)
lesser_is None k n e = inr cc
lesser_is (Some m) k n e = go (nat_lt k m) e where
  go : (b : Bool) → cond b (Some k) (Some m) ≡ Some n → (Some m ≡ Some n) ⊎ (k ≡ n)
  go true f = inr cc
  go false f = inl f

lesser_below : (m k : ℕ) → (n : ℕ) → (m ≡ n) ⊎ (k ≡ n) → HasLesser (Some m) k n
lesser_below m k n which = go (nat_lt k m) refl which where
  go : (b : Bool) → nat_lt k m ≡ b → (m ≡ n) ⊎ (k ≡ n) → HasLesser (Some m) k n
  go true e (inl is) = record { number = k; is = ap (λ (b : Bool). cond b (Some k) (Some m)) e; low = let less : k < m = grind (arith, nat_tests, e) in omega (arith, less, is) }
  go true e (inr is) = record { number = k; is = ap (λ (b : Bool). cond b (Some k) (Some m)) e; low = omega (arith, is) }
  go false e (inl is) = record { number = m; is = ap (λ (b : Bool). cond b (Some k) (Some m)) e; low = omega (arith, is) }
  go false e (inr is) = record { number = m; is = ap (λ (b : Bool). cond b (Some k) (Some m)) e; low = let most : m ≤ k = grind (arith, nat_tests, e) in omega (arith, most, is) }

lesser_there : (found : Option ℕ) (k n : ℕ) → (found ≡ Some n) ⊎ (k ≡ n) → HasLesser found k n
lesser_there None k n (inl is) = absurd cc
lesser_there None k n (inr is) = record { number = k; is = refl; low = omega (arith, is) }
lesser_there (Some m) k n (inl is) = lesser_below m k n (inl cc)
lesser_there (Some m) k n (inr is) = lesser_below m k n (inr is)

abbrev Found : Option Docked → Option ℕ → List Docked → ℕ → Type 0
Found last found ds n = (found ≡ Some n) ⊎ Crowds last ds n

step_least : (last : Option Docked) (found : Option ℕ) (d : Docked) (ds : List Docked) (v : Option ℕ) (b : Bool) → is_shared last d ≡ b
    → IsLeastOf (Found (Some d) (cond b (lesser_number found d.bike) found) ds) v → IsLeastOf (Found last found (d ∷ ds)) v
step_least last found d ds v false e least = least_same (Found (Some d) found ds) (Found last found (d ∷ ds)) to from v least where
  to : (n : ℕ) → Found (Some d) found ds n → Found last found (d ∷ ds) n
  to n (inl is) = inl is
  to n (inr later) = inr (inr later)

  from : (n : ℕ) → Found last found (d ∷ ds) n → (m : ℕ) × Found (Some d) found ds m × (m ≤ n)
  from n (inl is) = (n, inl is, omega arith)
  from n (inr (inl it)) = absurd (let f = it.1 in cc)
  from n (inr (inr later)) = (n, inr later, omega arith)
step_least last found d ds v true e least = least_same (Found (Some d) (lesser_number found d.bike) ds) (Found last found (d ∷ ds)) to from v least where
  to : (n : ℕ) → Found (Some d) (lesser_number found d.bike) ds n → Found last found (d ∷ ds) n
  to n (inl is) = elim (lesser_is found d.bike n is) [ inl was ↦ inl was | inr own ↦ inr (inl (own, e)) ]
  to n (inr later) = inr (inr later)

  from : (n : ℕ) → Found last found (d ∷ ds) n → (m : ℕ) × Found (Some d) (lesser_number found d.bike) ds m × (m ≤ n)
  from n (inl is) = let it = lesser_there found d.bike n (inl is) in (it.number, inl it.is, it.low)
  from n (inr (inl own)) = let it = lesser_there found d.bike n (inr own.0) in (it.number, inl it.is, it.low)
  from n (inr (inr later)) = (n, inr later, omega arith)

pub pass_least : (last : Option Docked) (found : Option ℕ) (ds : List Docked) → IsLeastOf (Found last found ds) (shared_pass last found ds)
unfolding shared_pass
pass_least last None [] = λ n it. elim it [ inl is ↦ absurd cc | inr none ↦ none ]
pass_least last (Some k) [] = (inl refl, λ m low it. elim it [ inl is ↦ absurd (let e : k ≡ m = cc in omega (arith, e, low)) | inr none ↦ none ])
pass_least last found (d ∷ ds) = step_least last found d ds (shared_pass (Some d) (found_with last found d) ds) (is_shared last d) refl (pass_least (Some d) (found_with last found d) ds)
