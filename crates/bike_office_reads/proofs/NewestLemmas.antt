-- What the newest rental of a rider tells, and how all open ones are tested.
use Rattle.std.proofs.Common.{◌≡◌, ◌≤◌, ◌<◌, ◌+◌, ◌-◌, ◌⊎◌, inl, inr, ℕ, zero, suc, List, [], ◌∷◌, Bool, true, false, cond, ◌&&◌, ◌==◌, Option, Some, None, refl, sym, ap, subst, ◌∙◌, arith}
use Rattle.std.specs.Prelude.{◌↔◌, IsTrue, fold, find, nat_lt, option_map}
use Rattle.std.proofs.lemmas.Bool.{and_parts, ltb-true, ltb-false, lt-ltb, eqb-true, eq-eqb, true≢false}
use Rattle.std.proofs.lemmas.Option.{same_Some}
use Rattle.sqlite_rules.specs.Lists.{Has}
use Rattle.bike_operator.specs.declared.records.Rental.{Rental}
use Rattle.bike_operator.specs.Operator.{Operator, Numbered, item_at, item_in, item_numbered}
use Rattle.bike_operator.specs.Counts.{is_open}
use Rattle.bike_laws.proofs.SingleSteps.ItemLemmas.{number_behind}
use Rattle.bike_book.specs.Stored.{numbers_from, with_numbers}
use Rattle.bike_office_reads.specs.declared.newest.Ride.{Ride}
use Rattle.bike_office_reads.specs.Newest.{NewestTells, later_of, newest_rental, open_number_in, newest_open, open_number, number_in, newest_number, open_after, ride_of}

-- ---- rentals with their numbers

has_own : (l : Numbered Rental) (n : ℕ) (x : Rental) → item_numbered n l ≡ Some x → Has (with_numbers l) (n, x)
has_own l n x is = from (n - l.archived) refl is where
  at : (n : ℕ) (ys : List Rental) (i : ℕ) → item_at i ys ≡ Some x → Has (numbers_from n ys) (n + i, x)
  at n [] i is = absurd cc
  at n (y ∷ ys) zero is = inl (let same = same_Some y x is in let first : n + 0 ≡ n = omega arith in λ j. (first j, sym same j))
  at n (y ∷ ys) (suc i) is = inr (subst (λ m. Has (numbers_from (suc n) ys) (m, x)) (omega arith) (at (suc n) ys i is))

  from : (k : ℕ) → n - l.archived ≡ k → item_in k l.items ≡ Some x → Has (with_numbers l) (n, x)
  from zero place is = absurd cc
  from (suc k) place is = subst (λ m. Has (with_numbers l) (m, x)) (omega (arith, place)) (at (suc l.archived) l.items k is)

own_number : (l : Numbered Rental) (e : ℕ × Rental) → Has (with_numbers l) e → item_numbered e.0 l ≡ Some e.1
own_number l e has = let it = at (suc l.archived) l.items has in let is : e.0 - l.archived ≡ suc it.0 = let own = it.1 in omega (arith, own) in ap (λ n. item_in n l.items) is ∙ it.2
  where
    at : (n : ℕ) (ys : List Rental) → Has (numbers_from n ys) e → (i : ℕ) × (e.0 ≡ n + i) × (item_at i ys ≡ Some e.1)
    at n [] has = elim has [ ]
    at n (y ∷ ys) (inl is) = (0, ap (λ (x : ℕ × Rental). x.0) is ∙ omega arith, ap (λ (x : ℕ × Rental). Some x.1) (sym is))
    at n (y ∷ ys) (inr later) = let it = at (suc n) ys later in (suc it.0, omega (arith, it.1), it.2)

at_least : (n : ℕ) (xs : List Rental) (e : ℕ × Rental) → Has (numbers_from n xs) e → n ≤ e.0
at_least n [] e has = elim has [ ]
at_least n (x ∷ xs) e (inl is) = let same = ap (λ (y : ℕ × Rental). y.0) is in omega (arith, same)
at_least n (x ∷ xs) e (inr later) = let rest = at_least (suc n) xs e later in omega (arith, rest)

-- ---- the newest of a rider

module _ (rider : ℕ) where
  -- none of these is his
  abbrev NoneHis : List (ℕ × Rental) → Type 0
  NoneHis es = (x : ℕ × Rental) → Has es x → x.1.rider ≡ rider → ⊥

  -- of these rentals it is his newest
  pub record IsNewest (es : List (ℕ × Rental)) (e : ℕ × Rental) : Type 0 where
    pub has : Has es e
    pub his : e.1.rider ≡ rider
    pub most : (x : ℕ × Rental) → Has es x → x.1.rider ≡ rider → x.0 ≤ e.0

  module _ (n : ℕ) (x : Rental) (xs : List Rental) where
    still_newest : (e : ℕ × Rental) → IsNewest (numbers_from (suc n) xs) e → IsNewest (numbers_from n (x ∷ xs)) e
    still_newest e it = record { has = inr it.has; his = it.his; most = most } where
      most : (y : ℕ × Rental) → Has (numbers_from n (x ∷ xs)) y → y.1.rider ≡ rider → y.0 ≤ e.0
      most y (inl is) same = let first = ap (λ (z : ℕ × Rental). z.0) is in let later = at_least (suc n) xs e it.has in omega (arith, first, later)
      most y (inr later) same = it.most y later same

    none_more : (x.rider == rider) ≡ false → NoneHis (numbers_from (suc n) xs) → NoneHis (numbers_from n (x ∷ xs))
    none_more other none y (inl is) his = let same : x.rider ≡ rider = ap (λ (z : ℕ × Rental). z.1.rider) (sym is) ∙ his in true≢false (sym (eq-eqb x.rider rider same) ∙ other)
    none_more other none y (inr later) his = none y later his

    first_newest : (x.rider == rider) ≡ true → NoneHis (numbers_from (suc n) xs) → IsNewest (numbers_from n (x ∷ xs)) (n, x)
    first_newest his none = record { has = inl refl; his = eqb-true x.rider rider his; most = most } where
      most : (y : ℕ × Rental) → Has (numbers_from n (x ∷ xs)) y → y.1.rider ≡ rider → y.0 ≤ n
      most y (inl is) same = let first = ap (λ (z : ℕ × Rental). z.0) is in omega (arith, first)
      most y (inr later) same = absurd (none y later same)

  -- what is found is the newest of these, or what was there before them
  found_newest : (n : ℕ) (xs : List Rental) (so_far : Option (ℕ × Rental)) (e : ℕ × Rental) → fold (later_of rider) so_far (numbers_from n xs) ≡ Some e
      → IsNewest (numbers_from n xs) e ⊎ ((so_far ≡ Some e) × NoneHis (numbers_from n xs))
  found_newest n [] so_far e is = inr (is, λ x has. elim has [ ])
  found_newest n (x ∷ xs) so_far e is = by (x.rider == rider) refl (found_newest (suc n) xs (later_of rider so_far (n, x)) e is)
    where
      by : (b : Bool) → (x.rider == rider) ≡ b → IsNewest (numbers_from (suc n) xs) e ⊎ ((cond b (Some (n, x)) so_far ≡ Some e) × NoneHis (numbers_from (suc n) xs))
          → IsNewest (numbers_from n (x ∷ xs)) e ⊎ ((so_far ≡ Some e) × NoneHis (numbers_from n (x ∷ xs)))
      by b whose (inl it) = inl (still_newest n x xs e it)
      by true whose (inr it) = inl (subst (IsNewest (numbers_from n (x ∷ xs))) (same_Some (n, x) e it.0) (first_newest n x xs whose it.1))
      by false whose (inr it) = inr (it.0, none_more n x xs whose it.1)

  none_found : (n : ℕ) (xs : List Rental) (so_far : Option (ℕ × Rental)) → fold (later_of rider) so_far (numbers_from n xs) ≡ None → (so_far ≡ None) × NoneHis (numbers_from n xs)
  none_found n [] so_far is = (is, λ x has. elim has [ ])
  none_found n (x ∷ xs) so_far is = by (x.rider == rider) refl (none_found (suc n) xs (later_of rider so_far (n, x)) is)
    where
      by : (b : Bool) → (x.rider == rider) ≡ b → (cond b (Some (n, x)) so_far ≡ None) × NoneHis (numbers_from (suc n) xs) → (so_far ≡ None) × NoneHis (numbers_from n (x ∷ xs))
      by true whose it = absurd (let e = it.0 in cc)
      by false whose it = (it.0, none_more n x xs whose it.1)

  newest_is : (s : Operator) (e : ℕ × Rental) → newest_rental s rider ≡ Some e → IsNewest (with_numbers s.rentals) e
  newest_is s e is = elim (found_newest (suc s.rentals.archived) s.rentals.items None e is) [ inl it ↦ it | inr none ↦ absurd (let e = none.0 in cc) ]

  no_newest : (s : Operator) → newest_rental s rider ≡ None → NoneHis (with_numbers s.rentals)
  no_newest s is = (none_found (suc s.rentals.archived) s.rentals.items None is).1

-- ---- open rentals one after another

-- each open rental up to the number is its rider's newest
abbrev pub AreNewestTo : Operator → ℕ → Type 0
AreNewestTo s n =
    (a b : ℕ) (q r : Rental) → a ≤ n → item_numbered a s.rentals ≡ Some q → item_numbered b s.rentals ≡ Some r → is_open q ≡ true → r.rider ≡ q.rider → b ≤ a

pub none_to_zero : (s : Operator) → AreNewestTo s 0
none_to_zero s a b q r low i = let first = number_behind a s.rentals q i in absurd (omega (arith, low, first))

module _ (test : ℕ × Rental → Bool) where
  -- what is found passes, and each other one that does has a greater number
  record IsFirst (es : List (ℕ × Rental)) (e : ℕ × Rental) : Type 0 where
    has : Has es e
    passes : test e ≡ true
    least : (x : ℕ × Rental) → Has es x → test x ≡ true → e.0 ≤ x.0

  first_found : (n : ℕ) (xs : List Rental) (e : ℕ × Rental) → find test (numbers_from n xs) ≡ Some e → IsFirst (numbers_from n xs) e
  first_found n [] e is = absurd cc
  first_found n (x ∷ xs) e is = by (test (n, x)) refl is (λ later. first_found (suc n) xs e later)
    where
      here : test (n, x) ≡ true → IsFirst (numbers_from n (x ∷ xs)) (n, x)
      here passes = record { has = inl refl; passes = passes; least = λ y has also. at_least n (x ∷ xs) y has }

      after : test (n, x) ≡ false → IsFirst (numbers_from (suc n) xs) e → IsFirst (numbers_from n (x ∷ xs)) e
      after other it = record { has = inr it.has; passes = it.passes; least = least } where
        least : (y : ℕ × Rental) → Has (numbers_from n (x ∷ xs)) y → test y ≡ true → e.0 ≤ y.0
        least y (inl same) also = absurd (true≢false (sym also ∙ ap test same ∙ other))
        least y (inr later) also = it.least y later also

      by : (b : Bool) → test (n, x) ≡ b → cond b (Some (n, x)) (find test (numbers_from (suc n) xs)) ≡ Some e → (find test (numbers_from (suc n) xs) ≡ Some e → IsFirst (numbers_from (suc n) xs) e)
          → IsFirst (numbers_from n (x ∷ xs)) e
      by true passes same rest = subst (IsFirst (numbers_from n (x ∷ xs))) (same_Some (n, x) e same) (here passes)
      by false other later rest = after other (rest later)

  none_passes : (n : ℕ) (xs : List Rental) (x : ℕ × Rental) → find test (numbers_from n xs) ≡ None → Has (numbers_from n xs) x → test x ≡ false
  none_passes n [] x is has = elim has [ ]
  none_passes n (y ∷ ys) x is has = by (test (n, y)) refl is has (λ later more. none_passes (suc n) ys x later more)
    where
      by : (b : Bool) → test (n, y) ≡ b → cond b (Some (n, y)) (find test (numbers_from (suc n) ys)) ≡ None → Has (numbers_from n (y ∷ ys)) x
          → (find test (numbers_from (suc n) ys) ≡ None → Has (numbers_from (suc n) ys) x → test x ≡ false) → test x ≡ false
      by true passes found has rest = absurd cc
      by false other later (inl same) rest = ap test same ∙ other
      by false other later (inr more) rest = rest later more

-- ---- the open rental of a rider

module _ (s : Operator) (rider : ℕ) where
  abbrev rides : ℕ × Rental → Bool
  rides e = (e.1.rider == rider) && is_open e.1

  goes_on : (e : ℕ × Rental) → e.1.rider ≡ rider → is_open e.1 ≡ true → rides e ≡ true
  goes_on e his ongoing = ap (λ (b : Bool). b && is_open e.1) (eq-eqb e.1.rider rider his) ∙ ongoing

  module _ (newest : NewestTells s) where
    -- where each open rental is its rider's newest, one of his that is open has the newest's number, and the newest is open
    last_of_his : (e f : ℕ × Rental) → IsNewest rider (with_numbers s.rentals) e → Has (with_numbers s.rentals) f → rides f ≡ true → (f.0 ≡ e.0) × (is_open e.1 ≡ true)
    last_of_his e f it has passes =
        let both = and_parts (f.1.rider == rider) (is_open f.1) passes in
        let his : f.1.rider ≡ rider = eqb-true f.1.rider rider both.0 in
        let own = own_number s.rentals e it.has in
        let below = newest f.0 e.0 f.1 e.1 (own_number s.rentals f has) own both.1 (it.his ∙ sym his) in
        let above = it.most f has his in
        let number : f.0 ≡ e.0 = omega (arith, below, above) in
        let same : f.1 ≡ e.1 = same_Some f.1 e.1 (sym (own_number s.rentals f has) ∙ ap (λ k. item_numbered k s.rentals) number ∙ own) in
        (number, sym (ap (λ (x : Rental). is_open x) same) ∙ both.1)

    -- the newest rental decides whether he rides, and in which
    pub newest_decides : newest_open s rider ≡ open_number s rider
    newest_decides = by (newest_rental s rider) (find rides (with_numbers s.rentals)) refl refl
      where
        shut : (e : ℕ × Rental) → IsNewest rider (with_numbers s.rentals) e → find rides (with_numbers s.rentals) ≡ None → (b : Bool) → is_open e.1 ≡ b → cond b (Some e.0) None ≡ None
        shut e it none true ongoing = absurd (true≢false (sym (goes_on e it.his ongoing) ∙ none_passes rides (suc s.rentals.archived) s.rentals.items e none it.has))
        shut e it none false ended = refl

        by : (o p : Option (ℕ × Rental)) → newest_rental s rider ≡ o → find rides (with_numbers s.rentals) ≡ p → open_number_in o ≡ option_map (λ e. e.0) p
        by None None last found = refl
        by None (Some f) last found =
            let it = first_found rides (suc s.rentals.archived) s.rentals.items f found in
            let both = and_parts (f.1.rider == rider) (is_open f.1) it.passes in
            absurd (no_newest rider s last f it.has (eqb-true f.1.rider rider both.0))
        by (Some e) None last found = shut e (newest_is rider s e last) found (is_open e.1) refl
        by (Some e) (Some f) last found =
            let it = first_found rides (suc s.rentals.archived) s.rentals.items f found in
            let same = last_of_his e f (newest_is rider s e last) it.has it.passes in
            ap (λ (b : Bool). cond b (Some e.0) None) same.1 ∙ ap Some (sym same.0)

module _ (s : Operator) (n : ℕ) where
  abbrev is_behind : ℕ × Rental → Bool
  is_behind e = nat_lt n e.0 && is_open e.1

  behind : (a : ℕ) (q : Rental) → n < a → is_open q ≡ true → is_behind (a, q) ≡ true
  behind a q above ongoing = ap (λ (b : Bool). b && is_open q) (lt-ltb n a above) ∙ ongoing

  -- no open rental is left
  pub all_newest : open_after s n ≡ None → AreNewestTo s n → NewestTells s
  all_newest none so_far a b q r i j ongoing same = by (nat_lt n a) refl
    where
      by : (t : Bool) → nat_lt n a ≡ t → b ≤ a
      by true above = absurd (true≢false (sym (behind a q (ltb-true n a above) ongoing) ∙ none_passes is_behind (suc s.rentals.archived) s.rentals.items (a, q) none (has_own s.rentals a q i)))
      by false up_to = so_far a b q r (let low = ltb-false n a up_to in omega (arith, low)) i j ongoing same

  module _ (e : ℕ × Rental) (next : open_after s n ≡ Some e) where
    first : IsFirst is_behind (with_numbers s.rentals) e
    first = first_found is_behind (suc s.rentals.archived) s.rentals.items e next

    -- the next one is the newest of its rider too
    pub next_newest : newest_number s e.1.rider ≡ e.0 → AreNewestTo s n → AreNewestTo s e.0
    next_newest newest so_far a b q r low i j ongoing same = by (nat_lt n a) refl
      where
        number : e.0 ≤ a → a ≡ e.0
        number least = omega (arith, least, low)

        most : a ≡ e.0 → b ≤ a
        most is =
            let own = own_number s.rentals e first.has in
            let it : q ≡ e.1 = same_Some q e.1 (sym i ∙ ap (λ k. item_numbered k s.rentals) is ∙ own) in
            up_to (newest_rental s e.1.rider) refl (same ∙ ap (λ (x : Rental). x.rider) it)
          where
            up_to : (o : Option (ℕ × Rental)) → newest_rental s e.1.rider ≡ o → r.rider ≡ e.1.rider → b ≤ a
            up_to None none his = absurd (no_newest e.1.rider s none (b, r) (has_own s.rentals b r j) his)
            up_to (Some f) found his =
                let above = (newest_is e.1.rider s f found).most (b, r) (has_own s.rentals b r j) his in
                let last : f.0 ≡ e.0 = sym (ap number_in found) ∙ newest in
                omega (arith, above, last, is)

        by : (t : Bool) → nat_lt n a ≡ t → b ≤ a
        by true above = most (number (first.least (a, q) (has_own s.rentals a q i) (behind a q (ltb-true n a above) ongoing)))
        by false up_to = so_far a b q r (let low = ltb-false n a up_to in omega (arith, low)) i j ongoing same

    -- where each open rental is its rider's newest, this one is
    pub must_be_newest : NewestTells s → newest_number s e.1.rider ≡ e.0
    must_be_newest tells = by (newest_rental s e.1.rider) refl
      where
        ongoing : is_open e.1 ≡ true
        ongoing = (and_parts (nat_lt n e.0) (is_open e.1) first.passes).1

        by : (o : Option (ℕ × Rental)) → newest_rental s e.1.rider ≡ o → number_in o ≡ e.0
        by None none = absurd (no_newest e.1.rider s none e first.has refl)
        by (Some f) found =
            let it = newest_is e.1.rider s f found in
            let above = it.most e first.has refl in
            let below = tells e.0 f.0 e.1 f.1 (own_number s.rentals e first.has) (own_number s.rentals f it.has) ongoing it.his in
            omega (arith, above, below)

-- ---- where the test goes on

-- this is the first open rental behind some number, and each one up to that is its rider's newest
abbrev pub GoesOn : Operator → Option Ride → Type 0
GoesOn s next = (n : ℕ) × (next ≡ option_map ride_of (open_after s n)) × AreNewestTo s n

pub goes_on_from : (s : Operator) (n : ℕ) (next : Option Ride) → next ≡ option_map ride_of (open_after s n) → AreNewestTo s n → GoesOn s next
goes_on_from s n next is so_far = (n, is, so_far)

pub comes_to_end : (s : Operator) → GoesOn s None → IsTrue true ↔ NewestTells s
comes_to_end s it = by (open_after s it.0) refl it.1 where
  by : (o : Option (ℕ × Rental)) → open_after s it.0 ≡ o → None ≡ option_map ride_of o → IsTrue true ↔ NewestTells s
  by None is same = (λ _. all_newest s it.0 is it.2, λ _. refl)
  by (Some e) is same = absurd cc

module _ (s : Operator) (ride : Ride) (newest : ℕ) (it : GoesOn s (Some ride)) (newest_is : newest ≡ newest_number s ride.rider) where
  one : (o : Option (ℕ × Rental)) → open_after s it.0 ≡ o → Some ride ≡ option_map ride_of o → (e : ℕ × Rental) × (open_after s it.0 ≡ Some e) × (ride ≡ ride_of e)
  one None is same = absurd cc
  one (Some e) is same = (e, is, same_Some ride (ride_of e) same)

  pub is_newest : newest ≡ ride.number → AreNewestTo s ride.number
  is_newest same =
      let e = one (open_after s it.0) refl it.1 in
      let number : ride.number ≡ e.0.0 = ap (λ (r : Ride). r.number) e.2 in
      let rider : ride.rider ≡ e.0.1.rider = ap (λ (r : Ride). r.rider) e.2 in
      subst (AreNewestTo s) (sym number) (next_newest s it.0 e.0 e.1 (ap (newest_number s) (sym rider) ∙ sym newest_is ∙ same ∙ number) it.2)

  pub is_older : (newest ≡ ride.number → ⊥) → IsTrue false ↔ NewestTells s
  is_older other =
      let e = one (open_after s it.0) refl it.1 in
      let number : ride.number ≡ e.0.0 = ap (λ (r : Ride). r.number) e.2 in
      let rider : ride.rider ≡ e.0.1.rider = ap (λ (r : Ride). r.rider) e.2 in
      (λ wrong. absurd (true≢false (sym wrong)), λ tells. absurd (other (newest_is ∙ ap (newest_number s) rider ∙ must_be_newest s it.0 e.0 e.1 tells ∙ sym number)))
