-- The Fare entries of rentals: each closed rental has one of its fare, so there are no more closed rentals than entries.
use Rattle.std.proofs.Common.{◌≡◌, inl, inr, ℕ, ℤ, zero, suc, ◌+◌, ◌-◌, ◌<◌, ◌≤◌, List, [], ◌∷◌, length, map, filter, Bool, true, false, cond, not, ◌&&◌, ◌==◌, Option, Some, None}
use Rattle.std.proofs.Common.{refl, sym, ap, ap₂, ◌∙◌, subst, arith}
use Rattle.std.proofs.lemmas.Bool.{eq-eqb}
use Rattle.sqlite_rules.specs.Lists.{Has}
use Rattle.bike_ledger.specs.Entries.{Entry}
use Rattle.bike_ledger.specs.declared.entry.EntryKind.{EntryKind}
use Rattle.bike_ledger.specs.declared.entry.EntryKind.TheVariants.{TopUp, Fare, Refund, Withdrawal, Charge, Credit}
use Rattle.bike_operator.specs.declared.records.Rental.{Rental}
use Rattle.bike_operator.specs.declared.records.Closing.{Closing}
use Rattle.bike_operator.specs.Operator.{Numbered, item_at, item_in, item_numbered}
use Rattle.bike_operator.specs.Counts.{count, is_open}
use Rattle.bike_operator.specs.Sound.{is_fare, fares_of, fares_in}
use Rattle.bike_laws.proofs.SingleSteps.ItemLemmas.{number_behind, number_of_place}
use Rattle.bike_laws.proofs.SingleSteps.TestLemmas.{same_number}
use Rattle.bike_laws.proofs.SingleSteps.CountLemmas.{count-cons, one}

abbrev pub is_fare_of : ℕ → Entry → Bool
is_fare_of rental e = is_fare e.kind && (e.rental == rental)

-- ---- how many pass a test

pub counted : {A : Type 0} (test : A → Bool) (xs : List A) → count test xs ≤ length xs
counted test [] = omega arith
counted test (x ∷ xs) = go (test x) (count-cons test x xs) (counted test xs) where
  go : (b : Bool) → count test (x ∷ xs) ≡ one b + count test xs → count test xs ≤ length xs → count test (x ∷ xs) ≤ suc (length xs)
  go true c rest = omega (arith, c, rest)
  go false c rest = omega (arith, c, rest)

-- ---- what the test says

pub fare_kind : (k : EntryKind) (b : Bool) → (is_fare k && b) ≡ true → (k ≡ Fare) × (b ≡ true)
fare_kind TopUp b h = absurd cc
fare_kind Fare b h = (refl, h)
fare_kind Refund b h = absurd cc
fare_kind Withdrawal b h = absurd cc
fare_kind Charge b h = absurd cc
fare_kind Credit b h = absurd cc

pub fare_parts : (rental : ℕ) (e : Entry) → is_fare_of rental e ≡ true → (e.kind ≡ Fare) × (e.rental ≡ rental)
fare_parts rental e h = let parts = fare_kind e.kind (e.rental == rental) h in (parts.0, same_number e.rental rental parts.1)

pub fare_passes : (rental : ℕ) (e : Entry) → e.kind ≡ Fare → e.rental ≡ rental → is_fare_of rental e ≡ true
fare_passes rental e kind same = ap₂ (λ (k : EntryKind) (b : Bool). is_fare k && b) kind (eq-eqb e.rental rental same)

-- the amounts, one entry further
further : (rental : ℕ) (e : Entry) (es : List Entry) (b : Bool) → is_fare_of rental e ≡ b → fares_of rental (e ∷ es) ≡ cond b (e.amount ∷ fares_of rental es) (fares_of rental es)
further rental e es b is = ap (λ (c : Bool). map (λ (x : Entry). x.amount) (cond c (e ∷ filter (is_fare_of rental) es) (filter (is_fare_of rental) es))) is ∙ go b where
  go : (c : Bool) → map (λ (x : Entry). x.amount) (cond c (e ∷ filter (is_fare_of rental) es) (filter (is_fare_of rental) es)) ≡ cond c (e.amount ∷ fares_of rental es) (fares_of rental es)
  go true = refl
  go false = refl

-- ---- members

fare_has : (rental i : ℕ) (es : List Entry) (e : Entry) → item_at i es ≡ Some e → is_fare_of rental e ≡ true → Has (fares_of rental es) e.amount
fare_has rental i [] e found passes = absurd cc
fare_has rental zero (x ∷ es) e found passes =
    let same : x ≡ e = cc in
    subst (λ (zs : List ℤ). Has zs e.amount) (sym (further rental x es true (ap (is_fare_of rental) same ∙ passes))) (inl (ap (λ (z : Entry). z.amount) (sym same)))
fare_has rental (suc i) (x ∷ es) e found passes = go (is_fare_of rental x) refl (fare_has rental i es e found passes) where
  go : (b : Bool) → is_fare_of rental x ≡ b → Has (fares_of rental es) e.amount → Has (fares_of rental (x ∷ es)) e.amount
  go true is rest = subst (λ (zs : List ℤ). Has zs e.amount) (sym (further rental x es true is)) (inr rest)
  go false is rest = subst (λ (zs : List ℤ). Has zs e.amount) (sym (further rental x es false is)) rest

among : (rental n : ℕ) (es : List Entry) (e : Entry) → item_in n es ≡ Some e → is_fare_of rental e ≡ true → Has (fares_of rental es) e.amount
among rental zero es e found passes = absurd cc
among rental (suc i) es e found passes = fare_has rental i es e found passes

pub fare_among : (rental n : ℕ) (l : Numbered Entry) (e : Entry) → item_numbered n l ≡ Some e → is_fare_of rental e ≡ true → Has (fares_of rental l.items) e.amount
fare_among rental n l e found passes = among rental (n - l.archived) l.items e found passes

some_length : (xs : List ℤ) (x : ℤ) → Has xs x → 1 ≤ length xs
some_length [] x has = elim has [ ]
some_length (y ∷ xs) x has = omega arith

two_items : (rental i j : ℕ) (es : List Entry) (x y : Entry) → i < j → item_at i es ≡ Some x → item_at j es ≡ Some y → is_fare_of rental x ≡ true → is_fare_of rental y ≡ true
    → 2 ≤ length (fares_of rental es)
two_items rental i j [] x y less fx fy px py = absurd cc
two_items rental i zero (e ∷ es) x y less fx fy px py = absurd (omega (arith, less))
two_items rental zero (suc j) (e ∷ es) x y less fx fy px py =
    let same : e ≡ x = cc in
    let rest = some_length (fares_of rental es) y.amount (fare_has rental j es y fy py) in
    let all : length (fares_of rental (e ∷ es)) ≡ suc (length (fares_of rental es)) = ap (λ (zs : List ℤ). length zs) (further rental e es true (ap (is_fare_of rental) same ∙ px)) in
    omega (arith, rest, all)
two_items rental (suc i) (suc j) (e ∷ es) x y less fx fy px py = go (is_fare_of rental e) refl (two_items rental i j es x y (omega (arith, less)) fx fy px py) where
  go : (b : Bool) → is_fare_of rental e ≡ b → 2 ≤ length (fares_of rental es) → 2 ≤ length (fares_of rental (e ∷ es))
  go true is rest = let all = ap (λ (zs : List ℤ). length zs) (further rental e es true is) in omega (arith, rest, all)
  go false is rest = let all = ap (λ (zs : List ℤ). length zs) (further rental e es false is) in omega (arith, rest, all)

two_places : (rental a b : ℕ) (es : List Entry) (x y : Entry) → a < b → item_in a es ≡ Some x → item_in b es ≡ Some y → is_fare_of rental x ≡ true → is_fare_of rental y ≡ true
    → 2 ≤ length (fares_of rental es)
two_places rental zero b es x y less fx fy px py = absurd cc
two_places rental (suc i) zero es x y less fx fy px py = absurd cc
two_places rental (suc i) (suc j) es x y less fx fy px py = two_items rental i j es x y (omega (arith, less)) fx fy px py

pub two_fares : (rental a b : ℕ) (l : Numbered Entry) (x y : Entry) → a < b → item_numbered a l ≡ Some x → item_numbered b l ≡ Some y → is_fare_of rental x ≡ true → is_fare_of rental y ≡ true
    → 2 ≤ length (fares_of rental l.items)
two_fares rental a b l x y less fx fy px py =
    let behind = number_behind b l y fy in
    two_places rental (a - l.archived) (b - l.archived) l.items x y (omega (arith, less, behind)) fx fy px py

-- ---- none, and one

no_item : (rental : ℕ) (es : List Entry) → ((i : ℕ) (e : Entry) → item_at i es ≡ Some e → is_fare_of rental e ≡ false) → fares_of rental es ≡ []
no_item rental [] each = refl
no_item rental (e ∷ es) each = further rental e es false (each zero e refl) ∙ no_item rental es (λ i x is. each (suc i) x is)

pub no_fares : (rental : ℕ) (l : Numbered Entry) → ((n : ℕ) (e : Entry) → item_numbered n l ≡ Some e → is_fare_of rental e ≡ false) → fares_of rental l.items ≡ []
no_fares rental l each = no_item rental l.items (λ i e is. each (l.archived + suc i) e (number_of_place i l e is))

one_item : (rental : ℕ) (amount : ℤ) (es : List Entry) → 1 ≤ length (fares_of rental es) → ((i : ℕ) (e : Entry) → item_at i es ≡ Some e → is_fare_of rental e ≡ true → e.amount ≡ amount)
    → ((i j : ℕ) (x y : Entry) → i < j → item_at i es ≡ Some x → item_at j es ≡ Some y → is_fare_of rental x ≡ true → is_fare_of rental y ≡ true → ⊥) → fares_of rental es ≡ amount ∷ []
one_item rental amount [] some each once = absurd (omega (arith, some))
one_item rental amount (e ∷ es) some each once = go (is_fare_of rental e) refl (one_item rental amount es) where
  Rest : Type 0
  Rest = 1 ≤ length (fares_of rental es) → ((i : ℕ) (x : Entry) → item_at i es ≡ Some x → is_fare_of rental x ≡ true → x.amount ≡ amount)
      → ((i j : ℕ) (x y : Entry) → i < j → item_at i es ≡ Some x → item_at j es ≡ Some y → is_fare_of rental x ≡ true → is_fare_of rental y ≡ true → ⊥) → fares_of rental es ≡ amount ∷ []

  other : is_fare_of rental e ≡ true → (i : ℕ) (x : Entry) → item_at i es ≡ Some x → (b : Bool) → is_fare_of rental x ≡ b → is_fare_of rental x ≡ false
  other here i x found true is = absurd (once zero (suc i) e x (omega arith) refl found here is)
  other here i x found false is = is

  go : (b : Bool) → is_fare_of rental e ≡ b
      → (1 ≤ length (fares_of rental es) → ((i : ℕ) (x : Entry) → item_at i es ≡ Some x → is_fare_of rental x ≡ true → x.amount ≡ amount)
      → ((i j : ℕ) (x y : Entry) → i < j → item_at i es ≡ Some x → item_at j es ≡ Some y → is_fare_of rental x ≡ true → is_fare_of rental y ≡ true → ⊥) → fares_of rental es ≡ amount ∷ [])
      → fares_of rental (e ∷ es) ≡ amount ∷ []
  go true is rest =
      further rental e es true is ∙ ap₂ (λ (z : ℤ) (zs : List ℤ). z ∷ zs) (each zero e refl is) (no_item rental es (λ i x found. other is i x found (is_fare_of rental x) refl))
  go false is rest =
      let all = ap (λ (zs : List ℤ). length zs) (further rental e es false is) in
      further rental e es false is ∙ rest (omega (arith, some, all)) (λ i x found. each (suc i) x found) (λ i j x y less fx fy. once (suc i) (suc j) x y (omega (arith, less)) fx fy)

-- one Fare entry at least, each of this amount, and no two
pub one_fare : (rental : ℕ) (amount : ℤ) (l : Numbered Entry) → 1 ≤ length (fares_of rental l.items)
    → ((n : ℕ) (e : Entry) → item_numbered n l ≡ Some e → is_fare_of rental e ≡ true → e.amount ≡ amount)
    → ((a b : ℕ) (x y : Entry) → a < b → item_numbered a l ≡ Some x → item_numbered b l ≡ Some y → is_fare_of rental x ≡ true → is_fare_of rental y ≡ true → ⊥)
    → fares_of rental l.items ≡ amount ∷ []
one_fare rental amount l some each once =
    one_item rental amount l.items some (λ i e is. each (l.archived + suc i) e (number_of_place i l e is))
    (λ i j x y less fx fy. once (l.archived + suc i) (l.archived + suc j) x y (omega (arith, less)) (number_of_place i l x fx) (number_of_place j l y fy))

-- ---- no more closed rentals than entries

-- the entries that are no fares of a rental
abbrev without : ℕ → List Entry → List Entry
without rental es = filter (λ e. not (is_fare_of rental e)) es

parted : (rental : ℕ) (es : List Entry) → length (without rental es) + length (fares_of rental es) ≡ length es
parted rental [] = refl
parted rental (e ∷ es) = go (is_fare_of rental e) refl (parted rental es) where
  go : (b : Bool) → is_fare_of rental e ≡ b → length (without rental es) + length (fares_of rental es) ≡ length es
      → length (without rental (e ∷ es)) + length (fares_of rental (e ∷ es)) ≡ suc (length es)
  go true is rest =
      let a : length (without rental (e ∷ es)) ≡ length (without rental es) = ap (λ (c : Bool). length (cond (not c) (e ∷ without rental es) (without rental es))) is in
      let b = ap (λ (zs : List ℤ). length zs) (further rental e es true is) in
      omega (arith, rest, a, b)
  go false is rest =
      let a : length (without rental (e ∷ es)) ≡ suc (length (without rental es)) = ap (λ (c : Bool). length (cond (not c) (e ∷ without rental es) (without rental es))) is in
      let b = ap (λ (zs : List ℤ). length zs) (further rental e es false is) in
      omega (arith, rest, a, b)

others_stay : (rental other : ℕ) → (other ≡ rental → ⊥) → (es : List Entry) → fares_of other (without rental es) ≡ fares_of other es
others_stay rental other apart [] = refl
others_stay rental other apart (e ∷ es) = go (is_fare_of rental e) refl (others_stay rental other apart es) where
  fails : is_fare_of rental e ≡ true → (b : Bool) → is_fare_of other e ≡ b → is_fare_of other e ≡ false
  fails here true is = let a = fare_parts rental e here in let b = fare_parts other e is in absurd (apart (sym b.1 ∙ a.1))
  fails here false is = is

  same : (b : Bool) → is_fare_of other e ≡ b → fares_of other (without rental es) ≡ fares_of other es → fares_of other (e ∷ without rental es) ≡ fares_of other (e ∷ es)
  same b is rest = further other e (without rental es) b is ∙ ap (λ (zs : List ℤ). cond b (e.amount ∷ zs) zs) rest ∙ sym (further other e es b is)

  go : (b : Bool) → is_fare_of rental e ≡ b → fares_of other (without rental es) ≡ fares_of other es → fares_of other (without rental (e ∷ es)) ≡ fares_of other (e ∷ es)
  go true is rest =
      ap (λ (c : Bool). fares_of other (cond (not c) (e ∷ without rental es) (without rental es))) is ∙ rest
      ∙ sym (further other e es false (fails is (is_fare_of other e) refl))
  go false is rest = ap (λ (c : Bool). fares_of other (cond (not c) (e ∷ without rental es) (without rental es))) is ∙ same (is_fare_of other e) refl rest

-- each rental from number n on has as many Fare entries as its closing says
abbrev AreBooked : List Rental → ℕ → List Entry → Type 0
AreBooked rs n es = (i : ℕ) (r : Rental) → item_at i rs ≡ Some r → fares_of (n + i) es ≡ fares_in r.closing

booked_fit : (rs : List Rental) (n : ℕ) (es : List Entry) → AreBooked rs n es → length rs ≤ length es + count is_open rs
booked_fit [] n es each = omega arith
booked_fit (r ∷ rs) n es each = go r.closing refl (booked_fit rs (suc n)) where
  later : (i : ℕ) (x : Rental) → item_at i rs ≡ Some x → fares_of (suc n + i) es ≡ fares_in x.closing
  later i x found = let number : suc n + i ≡ n + suc i = omega arith in ap (λ (k : ℕ). fares_of k es) number ∙ each (suc i) x found

  go : (c : Option Closing) → r.closing ≡ c → ((left : List Entry) → AreBooked rs (suc n) left → length rs ≤ length left + count is_open rs) → suc (length rs) ≤ length es + count is_open (r ∷ rs)
  go None is fit =
      let open_one : one (is_open r) ≡ 1 = ap (λ (o : Option Closing). one (is_open (record r { closing = o }))) is in
      let c = count-cons is_open r rs in
      let rest = fit es later in
      omega (arith, open_one, c, rest)
  go (Some closing) is fit =
      let closed_one : one (is_open r) ≡ 0 = ap (λ (o : Option Closing). one (is_open (record r { closing = o }))) is in
      let c = count-cons is_open r rs in
      let number : n ≡ n + 0 = omega arith in
      let own : fares_of n es ≡ closing.fare ∷ [] = ap (λ (k : ℕ). fares_of k es) number ∙ each zero r refl ∙ ap fares_in is in
      let length_one : length (fares_of n es) ≡ 1 = ap (λ (zs : List ℤ). length zs) own in
      let parts = parted n es in
      let rest = fit (without n es) (λ i x found. others_stay n (suc n + i) (λ e. omega (arith, e)) es ∙ later i x found) in
      omega (arith, closed_one, c, length_one, parts, rest)

pub rentals_few : (l : Numbered Rental) (es : List Entry) → ((n : ℕ) (r : Rental) → item_numbered n l ≡ Some r → fares_of n es ≡ fares_in r.closing)
    → length l.items ≤ length es + count is_open l.items
rentals_few l es each =
    booked_fit l.items (suc l.archived) es (λ i r found.
    let number : suc l.archived + i ≡ l.archived + suc i = omega arith in
    ap (λ (k : ℕ). fares_of k es) number ∙ each (l.archived + suc i) r (number_of_place i l r found))
