-- A station's counts are the sums of those of its types, since each bicycle is of one type.
use Rattle.std.proofs.Common.{◌≡◌, ◌+◌, ◌++◌, inl, inr, ℕ, List, [], ◌∷◌, map, Bool, true, false, cond, T, ◌&&◌, not, Some, refl, sym, ap, subst, ◌∙◌, arith}
use Rattle.std.specs.List.{sum_by}
use Rattle.std.specs.Ordering.{eq_by_cmp, is_eq}
use Rattle.std.specs.Cmp.{eq_by_cmp_equiv}
use Rattle.std.specs.Str.{bytes_eq}
use Rattle.std.specs.FinMap as fin
use Rattle.std.specs.FinMap.Entries as entries
use Rattle.std.proofs.lemmas.List.Sums.{sum_by-append}
use Rattle.std.proofs.lemmas.Slice.Eq.{bytes_eq-Decides}
use Rattle.bike_catalogue.specs.Rows.{TypeRow}
use Rattle.bike_operator.specs.declared.records.Bike.{Bike}
use Rattle.bike_operator.specs.Operator.{Operator, text_cmp}
use Rattle.bike_operator.specs.Counts.{count, is_at, is_available, available, available_of, disabled_bikes}
use Rattle.bike_operator.specs.Sound.{IsSound}
use Rattle.bike_laws.proofs.SingleSteps.MapLemmas.{number_order, text_order, tied, there_of}
use Rattle.bike_laws.proofs.SingleSteps.CountLemmas.{count-cons}
use Rattle.bike_laws.specs.SingleSteps.Laws.{one}
use Rattle.bike_laws.specs.SingleSteps.Numbers.{disabled_of}
use Rattle.bike_laws.proofs.SingleSteps.Members.{Has, both, below_has, has_get}

-- ---- sums

module _ {X : Type 0} where
  pub sum_cons : (f : X → ℕ) (x : X) (xs : List X) → sum_by f (x ∷ xs) ≡ f x + sum_by f xs
  sum_cons f x xs = let a = sum_by-append f (x ∷ []) xs in omega (arith, a)

  pub sum_last : (f : X → ℕ) (xs : List X) (x : X) → sum_by f (xs ++ x ∷ []) ≡ sum_by f xs + f x
  sum_last f xs x = let a = sum_by-append f xs (x ∷ []) in omega (arith, a)

  sum_plus : (f g : X → ℕ) (xs : List X) → sum_by (λ x. f x + g x) xs ≡ sum_by f xs + sum_by g xs
  sum_plus f g [] = refl
  sum_plus f g (x ∷ xs) =
      let a = sum_cons (λ (y : X). f y + g y) x xs in
      let b = sum_cons f x xs in
      let c = sum_cons g x xs in
      let rest = sum_plus f g xs in
      omega (arith, a, b, c, rest)

  sum_zero : (f : X → ℕ) (xs : List X) → ((x : X) → Has xs x → f x ≡ 0) → sum_by f xs ≡ 0
  sum_zero f [] zero = refl
  sum_zero f (x ∷ xs) zero =
      let a = sum_cons f x xs in
      let here = zero x (inl refl) in
      let rest = sum_zero f xs (λ y has. zero y (inr has)) in
      omega (arith, a, here, rest)

  sum_same : (f g : X → ℕ) (xs : List X) → ((x : X) → f x ≡ g x) → sum_by f xs ≡ sum_by g xs
  sum_same f g [] same = refl
  sum_same f g (x ∷ xs) same =
      let a = sum_cons f x xs in
      let b = sum_cons g x xs in
      let here = same x in
      let rest = sum_same f g xs same in
      omega (arith, a, b, here, rest)

sum_map : {X Y : Type 0} (g : X → Y) (f : Y → ℕ) (xs : List X) → sum_by f (map g xs) ≡ sum_by (λ x. f (g x)) xs
sum_map g f [] = refl
sum_map g f (x ∷ xs) =
    let a = sum_cons f (g x) (map g xs) in
    let b = sum_cons (λ y. f (g y)) x xs in
    let rest = sum_map g f xs in
    omega (arith, a, b, rest)

-- ---- how often a type stands among others

abbrev Types : Type 0
Types = List (List ℕ × TypeRow)

abbrev times : List ℕ → Types → ℕ
times id = sum_by (λ e. one (bytes_eq id e.0))

differs : (a b : List ℕ) → eq_by_cmp text_cmp a b ≡ false → bytes_eq a b ≡ false
differs a b apart = go (bytes_eq a b) refl
  where
    go : (c : Bool) → bytes_eq a b ≡ c → bytes_eq a b ≡ false
    go true same =
        absurd (let e : eq_by_cmp text_cmp a b ≡ true = subst (λ (k : List ℕ). eq_by_cmp text_cmp a k ≡ true) ((bytes_eq-Decides a b).0 same) ((eq_by_cmp_equiv text_order.total).refl a) in let f : true ≡ false = sym e ∙ apart in cc)
    go false is = is

times_none : (id : List ℕ) (types : Types) → T (entries.below_all text_cmp id types) → times id types ≡ 0
times_none id types below =
    sum_zero (λ (e : List ℕ × TypeRow). one (bytes_eq id e.0)) types (λ e has. ap one (differs id e.0 (ap is_eq (below_has text_order.total id types e below has))))

times_once : (id : List ℕ) (types : Types) (t : TypeRow) → T (entries.is_sorted text_cmp types) → entries.find text_cmp id types ≡ Some t → times id types ≡ 1
times_once id [] t sorted found = absurd cc
times_once id (e ∷ types) t sorted found = go (eq_by_cmp text_cmp id e.0) refl found (times_once id types t parts.1)
  where
    parts : T (entries.below_all text_cmp e.0 types) × T (entries.is_sorted text_cmp types)
    parts = both (entries.below_all text_cmp e.0 types) (entries.is_sorted text_cmp types) sorted

    first : times id (e ∷ types) ≡ one (bytes_eq id e.0) + times id types
    first = sum_cons (λ (e : List ℕ × TypeRow). one (bytes_eq id e.0)) e types

    go : (c : Bool) → eq_by_cmp text_cmp id e.0 ≡ c → cond c (Some e.1) (entries.find text_cmp id types) ≡ Some t → (entries.find text_cmp id types ≡ Some t → times id types ≡ 1)
        → times id (e ∷ types) ≡ 1
    go true tie is later =
        let same : id ≡ e.0 = tied text_order id e.0 tie in
        let here : one (bytes_eq id e.0) ≡ 1 = ap one ((bytes_eq-Decides id e.0).1 same) in
        let rest : times id types ≡ 0 = times_none id types (subst (λ (k : List ℕ). T (entries.below_all text_cmp k types)) (sym same) parts.0) in
        omega (arith, first, here, rest)
    go false apart is later =
        let here : one (bytes_eq id e.0) ≡ 0 = ap one (differs id e.0 apart) in
        let rest = later is in
        omega (arith, first, here, rest)

-- ---- bicycles by their types

and_true : (a : Bool) → (a && true) ≡ a
and_true true = refl
and_true false = refl

and_false : (a : Bool) → (a && false) ≡ false
and_false true = refl
and_false false = refl

-- a test is passed under the one type of a bicycle
once_or_never : (id : List ℕ) (types : Types) (passes : Bool) → times id types ≡ 1 → sum_by (λ e. one (bytes_eq id e.0 && passes)) types ≡ one passes
once_or_never id types true once = sum_same (λ (e : List ℕ × TypeRow). one (bytes_eq id e.0 && true)) (λ e. one (bytes_eq id e.0)) types (λ e. ap one (and_true (bytes_eq id e.0))) ∙ once
once_or_never id types false once = sum_zero (λ (e : List ℕ × TypeRow). one (bytes_eq id e.0 && false)) types (λ e has. ap one (and_false (bytes_eq id e.0)))

abbrev AreTyped : Types → List (ℕ × Bike) → Type 0
AreTyped types bikes = (b : ℕ × Bike) → Has bikes b → times b.1.type_id types ≡ 1

by_types : (test : Bike → Bool) (types : Types) (bikes : List (ℕ × Bike)) → AreTyped types bikes
    → sum_by (λ e. count (λ b. bytes_eq b.1.type_id e.0 && test b.1) bikes) types ≡ count (λ b. test b.1) bikes
by_types test types [] typed = sum_zero (λ (e : List ℕ × TypeRow). 0) types (λ e has. refl)
by_types test types (b ∷ bikes) typed =
    let split = sum_same (λ (e : List ℕ × TypeRow). count (λ x. bytes_eq x.1.type_id e.0 && test x.1) (b ∷ bikes)) (λ e. one (bytes_eq b.1.type_id e.0 && test b.1) + count (λ x. bytes_eq x.1.type_id e.0 && test x.1) bikes) types
    (λ e. count-cons (λ (x : ℕ × Bike). bytes_eq x.1.type_id e.0 && test x.1) b bikes) in
    let parts = sum_plus (λ (e : List ℕ × TypeRow). one (bytes_eq b.1.type_id e.0 && test b.1)) (λ e. count (λ x. bytes_eq x.1.type_id e.0 && test x.1) bikes) types in
    let here = once_or_never b.1.type_id types (test b.1) (typed b (inl refl)) in
    let rest = by_types test types bikes (λ x has. typed x (inr has)) in
    let whole = count-cons (λ (x : ℕ × Bike). test x.1) b bikes in
    omega (arith, split, parts, here, rest, whole)

module _ (s : Operator) (sound : IsSound s) where
  typed : AreTyped (fin.entries s.types) (fin.entries s.bikes)
  typed b has =
      let at = sound.bikes.bikes b.0 b.1 (has_get number_order.total s.bikes b has) in
      let there = there_of (fin.get s.types b.1.type_id) at.type_is in
      times_once b.1.type_id (fin.entries s.types) there.0 (fin.entries_sorted s.types) (sym (fin.get-entries s.types b.1.type_id) ∙ there.1)

  -- AVAILABLE: the sum over the types
  pub available_sum : (station : List ℕ) → sum_by (available_of s station) (fin.keys s.types) ≡ available s station
  available_sum station =
      sum_map (λ (e : List ℕ × TypeRow). e.0) (available_of s station) (fin.entries s.types)
      ∙ by_types (is_available s station) (fin.entries s.types) (fin.entries s.bikes) typed

  -- DISABLED: the sum over the types
  pub disabled_sum : (station : List ℕ) → sum_by (disabled_of s station) (fin.keys s.types) ≡ disabled_bikes s station
  disabled_sum station =
      sum_map (λ (e : List ℕ × TypeRow). e.0) (disabled_of s station) (fin.entries s.types)
      ∙ by_types (λ b. is_at station b.place && not (is_available s station b)) (fin.entries s.types) (fin.entries s.bikes) typed
