-- A history is sound where each request stands behind the one before it, with a caller and key of its own; and the other way.
use Rattle.std.proofs.Common.{◌≡◌, ℕ, zero, suc, ◌+◌, ◌-◌, ◌<◌, ◌≤◌, List, [], ◌∷◌, Bool, true, false, cond, Option, Some, None, IfSome, refl, sym, ap, ◌∙◌, subst, arith}
use Rattle.std.specs.Prelude.{take}
use Rattle.std.specs.Ordering.{nat_cmp, eq_by_cmp}
use Rattle.std.specs.declared.cmp.Ordering.{Ordering}
use Rattle.std.specs.declared.cmp.Ordering.TheVariants.{Less, Equal, Greater}
use Rattle.std.specs.Cmp.{ranked}
use Rattle.std.proofs.lemmas.Option.{same_Some}
use Rattle.bike_operator.specs.Operator.{AcceptedRequest, Key, Numbered, key_in, kept_under, texts_cmp, item_at, item_in, item_numbered}
use Rattle.bike_operator.specs.Sound.{IsAccepted, IsHistory}
use Rattle.bike_laws.proofs.RetryLemmas.{key_itself, same_key}
use Rattle.bike_laws.proofs.SingleSteps.ItemLemmas.{number_behind}

-- ---- none before a request has its caller and key

kept_there : (key : Key) (h : List AcceptedRequest) (below i : ℕ) (a : AcceptedRequest) → item_at i h ≡ Some a → i < below → key ≡ key_in a.request → kept_under key (take below h) ≡ None → ⊥
kept_there key [] below i a found low own none = absurd cc
kept_there key (x ∷ h) zero i a found low own none = omega (arith, low)
kept_there key (x ∷ h) (suc b) zero a found low own none =
    let same : key ≡ key_in x.request = own ∙ ap (λ (y : AcceptedRequest). key_in y.request) (sym (same_Some x a found)) in
    let here : eq_by_cmp texts_cmp key (key_in x.request) ≡ true = ap (λ (k : Key). eq_by_cmp texts_cmp key k) (sym same) ∙ key_itself key in
    let some : ◌≡◌ {A = Option AcceptedRequest} (Some x) None = sym (ap (λ (t : Bool). cond t (Some x) (kept_under key (take b h))) here) ∙ none in
    absurd cc
kept_there key (x ∷ h) (suc b) (suc i) a found low own none = go (eq_by_cmp texts_cmp key (key_in x.request)) none (kept_there key h b i a found (omega (arith, low)) own) where
  go : (t : Bool) → cond t (Some x) (kept_under key (take b h)) ≡ None → (kept_under key (take b h) ≡ None → ⊥) → ⊥
  go true e rest = absurd cc
  go false e rest = rest e

pub none_before : (key : Key) (h : List AcceptedRequest) (below : ℕ) → ((i : ℕ) (a : AcceptedRequest) → i < below → item_at i h ≡ Some a → key ≡ key_in a.request → ⊥)
    → kept_under key (take below h) ≡ None
none_before key h zero never = refl
none_before key [] (suc b) never = refl
none_before key (x ∷ h) (suc b) never =
    go (eq_by_cmp texts_cmp key (key_in x.request)) refl (none_before key h b (λ i a low found own. never (suc i) a (omega (arith, low)) found own))
  where
    go : (t : Bool) → eq_by_cmp texts_cmp key (key_in x.request) ≡ t → kept_under key (take b h) ≡ None → cond t (Some x) (kept_under key (take b h)) ≡ None
    go true e rest = absurd (never 0 x (omega arith) refl (same_key key (key_in x.request) e))
    go false e rest = rest

-- ---- moments

earlier : {A : Type 0} (xs : List A) (k n : ℕ) (x : A) → item_at n xs ≡ Some x → k ≤ n → (y : A) × (item_at k xs ≡ Some y)
earlier [] k n x found low = absurd cc
earlier (y ∷ xs) zero n x found low = (y, refl)
earlier (y ∷ xs) (suc k) zero x found low = absurd (omega (arith, low))
earlier (y ∷ xs) (suc k) (suc n) x found low = earlier xs k n x found (omega (arith, low))

-- an item has an item before it
before_in : {A : Type 0} (xs : List A) (k n : ℕ) (x : A) → item_in n xs ≡ Some x → 1 ≤ k → k ≤ n → (y : A) × (item_in k xs ≡ Some y)
before_in xs zero n x found some low = absurd (omega (arith, some))
before_in xs (suc k) zero x found some low = absurd cc
before_in xs (suc k) (suc n) x found some low = earlier xs k n x found (omega (arith, low))

numbered_before : {A : Type 0} (l : Numbered A) (k n : ℕ) (x : A) → item_numbered n l ≡ Some x → l.archived + 1 ≤ k → k ≤ n → (y : A) × (item_numbered k l ≡ Some y)
numbered_before l k n x found some low = before_in l.items (k - l.archived) (n - l.archived) x found (omega (arith, some)) (omega (arith, low))

-- what holds of that which is there
pub if_some : {A : Type 0} (Holds : A → Type 0) (o : Option A) → ((x : A) → o ≡ Some x → Holds x) → IfSome o Holds
if_some Holds None each = tt
if_some Holds (Some x) each = each x refl

holds_of : {A : Type 0} (Holds : A → Type 0) (o : Option A) (x : A) → IfSome o Holds → o ≡ Some x → Holds x
holds_of Holds None x holds is = absurd cc
holds_of Holds (Some y) x holds is = subst Holds (same_Some y x is) holds

-- ---- the history

-- The request stands behind the one before it, and none before it has its caller and key.
pub record IsNext (h : Numbered AcceptedRequest) (n : ℕ) (a : AcceptedRequest) : Type 0 where
  pub below : ℕ
  pub number_is : n ≡ h.archived + below + 1
  pub in_order : IfSome (item_in below h.items) (λ b. b.moment ≤ a.moment)
  pub anew : kept_under (key_in a.request) (take below h.items) ≡ None

module _ (h : Numbered AcceptedRequest) (next : (n : ℕ) (a : AcceptedRequest) → item_numbered n h ≡ Some a → IsNext h n a) where
  rises : (d m n : ℕ) (a b : AcceptedRequest) → n ≡ m + d → item_numbered m h ≡ Some a → item_numbered n h ≡ Some b → a.moment ≤ b.moment
  rises zero m n a b far at found =
      let here : m ≡ n = omega (arith, far) in
      let same = same_Some a b (sym at ∙ ap (λ (k : ℕ). item_numbered k h) here ∙ found) in
      let moment = ap (λ (x : AcceptedRequest). x.moment) same in
      omega (arith, moment)
  rises (suc d) m n a b far at found =
      let it = next n b found in
      let number = it.number_is in
      let low = number_behind m h a at in
      let there = numbered_before h (h.archived + it.below) n b found (omega (arith, far, number, low)) (omega (arith, number)) in
      let before = rises d m (h.archived + it.below) a there.0 (omega (arith, far, number)) at there.1 in
      let place : it.below ≡ (h.archived + it.below) - h.archived = omega arith in
      let last = holds_of (λ (x : AcceptedRequest). x.moment ≤ b.moment) (item_in it.below h.items) there.0 it.in_order (ap (λ (k : ℕ). item_in k h.items) place ∙ there.1) in
      omega (arith, before, last)

  apart : (m n : ℕ) (a b : AcceptedRequest) → item_numbered m h ≡ Some a → item_numbered n h ≡ Some b → key_in a.request ≡ key_in b.request → m < n → ⊥
  apart m n a b at found same low = go (m - h.archived) refl at where
    go : (k : ℕ) → m - h.archived ≡ k → item_in k h.items ≡ Some a → ⊥
    go zero place there = absurd cc
    go (suc i) place there =
        let it = next n b found in
        let number = it.number_is in
        kept_there (key_in b.request) h.items it.below i a there (omega (arith, number, low, place)) (sym same) it.anew

  one : (m n : ℕ) (a b : AcceptedRequest) → item_numbered m h ≡ Some a → item_numbered n h ≡ Some b → key_in a.request ≡ key_in b.request → m ≡ n
  one m n a b at found same = go (nat_cmp m n) refl where
    go : (o : Ordering) → o ≡ nat_cmp m n → m ≡ n
    go Less e = absurd (apart m n a b at found same (ranked m n Less e))
    go Equal e = ranked m n Equal e
    go Greater e = absurd (apart n m b a found at (sym same) (ranked m n Greater e))

  pub history_of : (now : ℕ) → ((n : ℕ) (a : AcceptedRequest) → item_numbered n h ≡ Some a → IsAccepted now a) → IsHistory now h
  history_of now each = record {
    requests = each;
    once = one;
    in_order = λ m n a b at found within. rises (n - m) m n a b (omega (arith, within)) at found;
  }
