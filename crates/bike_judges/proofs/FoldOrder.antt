-- Lists of lines: a fold over those of one owner, tests that agree, and filters.
use Rattle.std.proofs.Common.{◌≡◌, inl, inr, ℕ, suc, List, [], ◌∷◌, filter, fold, Bool, true, false, cond, Option, Some, refl, sym, ap, ◌∙◌}
use Rattle.std.specs.List.{AllByRecursion}
use Rattle.std.specs.Ordering.{is_eq}
use Rattle.std.specs.declared.cmp.Ordering.TheVariants.{Equal}
use Rattle.std.proofs.lemmas.Bool.{true≢false}
use Rattle.sqlite_value.specs.declared.value.Value.{Value}
use Rattle.sqlite_value.specs.Order.{Row, column, value_cmp}
use Rattle.sqlite_rules.specs.Lists.{Has}
use Rattle.sqlite_trees.specs.Tree.{IsAscending}
use Rattle.bike_judges.specs.Passes.{first_failing}

-- a line of this owner
abbrev pub is_owned : Value → Row → Bool
is_owned owner x = is_eq (value_cmp (column x 0) owner)

-- accounts that lines of other owners leave as they are take their own lines alone
module _ {A : Type 0} (more : A → Row → A) (owner : A → Value) (keeps : (a : A) (x : Row) → owner (more a x) ≡ owner a)
    (others : (a : A) (x : Row) → (value_cmp (column x 0) (owner a) ≡ Equal → ⊥) → more a x ≡ a) where
  pub fold_owned : (xs : List Row) (a : A) → fold more a xs ≡ fold more a (filter (is_owned (owner a)) xs)
  fold_owned [] a = refl
  fold_owned (x ∷ xs) a = go (is_owned (owner a) x) refl (fold_owned xs) where
    go : (b : Bool) → is_owned (owner a) x ≡ b → ((c : A) → fold more c xs ≡ fold more c (filter (is_owned (owner c)) xs))
        → fold more (more a x) xs ≡ fold more a (cond b (x ∷ filter (is_owned (owner a)) xs) (filter (is_owned (owner a)) xs))
    go true e rest = rest (more a x) ∙ ap (λ (v : Value). fold more (more a x) (filter (is_owned v) xs)) (keeps a x)
    go false e rest = ap (λ (c : A). fold more c xs) (others a x (λ tie. true≢false (sym (ap is_eq tie) ∙ e))) ∙ rest a

-- tests that agree on lines
pub first_failing_same : (p q : ℕ → Row → Bool) (key : Row → Row) (n : ℕ) (xs : List Row) → ((m : ℕ) (x : Row) → Has xs x → p m x ≡ q m x) → first_failing p key n xs ≡ first_failing q key n xs
unfolding first_failing
first_failing_same p q key n [] same = refl
first_failing_same p q key n (x ∷ xs) same =
    ap (λ (b : Bool). cond b (first_failing p key (suc n) xs) (Some (key x))) (same n x (inl refl))
    ∙ ap (λ (v : Option Row). cond (q n x) v (Some (key x))) (first_failing_same p q key (suc n) xs (λ m y h. same m y (inr h)))

pub rises_filter : {X : Type 0} (R : X → X → Type 0) (p : X → Bool) (xs : List X) → IsAscending R xs → IsAscending R (filter p xs)
rises_filter R p [] h = tt
rises_filter {X} R p (x ∷ xs) h = elim (p x) as (λ b. IsAscending R (cond b (x ∷ filter p xs) (filter p xs))) [ true ↦ (each xs h.0, rises_filter R p xs h.1) | false ↦ rises_filter R p xs h.1 ]
  where
    each : (ys : List X) → AllByRecursion (R x) ys → AllByRecursion (R x) (filter p ys)
    each [] all = tt
    each (y ∷ ys) all = elim (p y) as (λ b. AllByRecursion (R x) (cond b (y ∷ filter p ys) (filter p ys))) [ true ↦ (all.0, each ys all.1) | false ↦ each ys all.1 ]
