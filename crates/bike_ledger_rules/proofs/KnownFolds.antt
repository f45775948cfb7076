-- What is known of a key after rows were read, one after another, is what the row spells that has the key.
use Rattle.std.proofs.Common.{◌≡◌, inl, inr, List, [], ◌∷◌, map, Bool, true, false, take, Option, Some, None, refl, sym, ap, subst, ◌∙◌}
use Rattle.std.specs.Prelude.{option_and_then}
use Rattle.std.specs.Bool.{Decides}
use Rattle.std.specs.List.{fold}
use Rattle.std.specs.declared.cmp.Ordering.{Ordering}
use Rattle.std.specs.declared.cmp.Ordering.TheVariants.{Equal}
use Rattle.std.proofs.lemmas.Bool.Decides.{not_from_Decides}
use Rattle.std.proofs.lemmas.Option.{same_Some}
use Rattle.sqlite_value.specs.Order.{Row, row_cmp}
use Rattle.sqlite_rules.specs.Lists.{Has}
use Rattle.bike_sql.specs.View.{row_with}
use Rattle.bike_sql.proofs.OrderLemmas.{Rises}
use Rattle.bike_sql.proofs.TreeLemmas.{by_key_total}
use Rattle.bike_book.proofs.MapRows.{StoresKeys}
use Rattle.bike_readings.proofs.Places.{under_has, has_under}
use Rattle.bike_ledger_rules.specs.Sums.{with_read}

-- A keeps values by key: after one more record its key has its value, and other keys have what they had.
pub record Keeps {A E K V : Type 0} (get : A → K → V) (put : A → E → A) (key : E → K) (value : E → V) : Type 0 where
  pub same : (a : A) (e : E) → get (put a e) (key e) ≡ value e
  pub other : (a : A) (e : E) (k : K) → (key e ≡ k → ⊥) → get (put a e) k ≡ get a k

-- a fold over what rows are shown as is one over the rows
pub fold_shown : {A R L : Type 0} (line : R → L) (f : A → L → A) (g : A → R → A) (rows : List R)
    → ((a : A) (r : R) → Has rows r → f a (line r) ≡ g a r) → (a : A) → fold f a (map line rows) ≡ fold g a rows
fold_shown line f g [] same a = refl
fold_shown line f g (r ∷ rows) same a =
    fold_shown line f g rows (λ b z has. same b z (inr has)) (f a (line r)) ∙ ap (λ b. fold g b rows) (same a r (inl refl))

-- with what one more row spells
abbrev pub step : {A E : Type 0} → (A → E → A) → (Row → Option E) → A → Row → A
step put read a r = with_read put a (read r)

-- what a row says, or what was known
abbrev pub said : {E V : Type 0} → (E → V) → V → Option E → V
said value v None = v
said value v (Some e) = value e

module _ {A E K V : Type 0} (get : A → K → V) (put : A → E → A) (key : E → K) (value : E → V) (keeps : Keeps get put key value)
    (eq : K → K → Bool) (decides : (a b : K) → Decides (eq a b) (a ≡ b)) (read : Row → Option E) where
  abbrev more : A → Row → A
  more = step put read

  -- the rows that spell the key have this value
  abbrev Agree : K → V → List Row → Type 0
  Agree k v rows = (r : Row) → Has rows r → (e : E) → read r ≡ Some e → key e ≡ k → value e ≡ v

  put_here : (k : K) (a : A) (e : E) → key e ≡ k → get (put a e) k ≡ value e
  put_here k a e here = ap (get (put a e)) (sym here) ∙ keeps.same a e

  stays : (k : K) (v : V) (rows : List Row) (a : A) → Agree k v rows → get a k ≡ v → get (fold more a rows) k ≡ v
  stays k v [] a agree is = is
  stays k v (r ∷ rows) a agree is = stays k v rows (more a r) (λ z has. agree z (inr has)) (go (read r) refl) where
    go : (o : Option E) → read r ≡ o → get (with_read put a o) k ≡ v
    go None reads = is
    go (Some e) reads = pick (eq (key e) k) refl where
      pick : (b : Bool) → eq (key e) k ≡ b → get (put a e) k ≡ v
      pick true it = let here = (decides (key e) k).0 it in put_here k a e here ∙ agree r (inl refl) e reads here
      pick false it = keeps.other a e k (not_from_Decides (eq (key e) k) (decides (key e) k) it) ∙ is

  comes : (k : K) (v : V) (rows : List Row) (a : A) (r : Row) (e : E)
      → Has rows r → read r ≡ Some e → key e ≡ k → Agree k v rows → get (fold more a rows) k ≡ v
  comes k v [] a r e has is here agree = elim has [ ]
  comes k v (z ∷ rows) a r e (inl at) is here agree =
      let reads : read z ≡ Some e = ap read (sym at) ∙ is in
      stays k v rows (more a z) (λ y has. agree y (inr has))
      (ap (λ (o : Option E). get (with_read put a o) k) reads ∙ put_here k a e here ∙ agree z (inl refl) e reads here)
  comes k v (z ∷ rows) a r e (inr later) is here agree = comes k v rows (more a z) r e later is here (λ y has. agree y (inr has))

  module _ {R : K → K → Ordering} {key_row : K → Row} (h : StoresKeys R 1 key_row (λ k. Unit {0}))
      (begins : (r : Row) (e : E) → read r ≡ Some e → take 1 r ≡ key_row (key e))
      (rows : List Row) (up : Rises (by_key_total 1) rows) where
    abbrev under : K → Option Row
    under k = row_with 1 (key_row k) rows

    spelled : (k : K) (r : Row) (e : E) → Has rows r → read r ≡ Some e → key e ≡ k → under k ≡ Some r
    spelled k r e has is here =
        subst (λ (at : Row). row_with 1 at rows ≡ Some r) (begins r e is ∙ ap key_row here) (has_under 1 rows r up has)

    -- WHAT IS KNOWN of a key
    pub known : (a : A) (k : K) → get (fold more a rows) k ≡ said value (get a k) (option_and_then read (under k))
    known a k = go (under k) refl where
      nothing : (o : Option Row) → under k ≡ o → option_and_then read o ≡ None → get (fold more a rows) k ≡ get a k
      nothing o is none =
          stays k (get a k) rows a
          (λ r has e reads here.
          absurd (let found = ap (option_and_then read) (sym is ∙ spelled k r e has reads here) in let both = sym none ∙ found ∙ reads in cc)) refl

      there : (r : Row) → under k ≡ Some r → (o : Option E) → read r ≡ o → get (fold more a rows) k ≡ said value (get a k) o
      there r is None reads = nothing (Some r) is reads
      there r is (Some e) reads =
          let at = under_has 1 (key_row k) rows r is in
          let tie : row_cmp (key_row (key e)) (key_row k) ≡ Equal = ap (λ (own : Row). row_cmp own (key_row k)) (sym (begins r e reads)) ∙ at.1 in
          let here : key e ≡ k = h.same (key e) k (sym (h.compares (key e) k tt tt) ∙ tie) in
          comes k (value e) rows a r e at.0 reads here
          (λ z has x other same.
          let row = same_Some z r (sym (spelled k z x has other same) ∙ is) in ap value (same_Some x e (sym other ∙ ap read row ∙ reads)))

      go : (o : Option Row) → under k ≡ o → get (fold more a rows) k ≡ said value (get a k) (option_and_then read o)
      go None is = nothing None is refl
      go (Some r) is = there r is (read r) refl
