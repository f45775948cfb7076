-- Stations that are read one after another, each with its own rows: what was taken of the others so far, and what is left.
use Rattle.std.proofs.Common.{◌≡◌, ◌<◌, inl, inr, ℕ, suc, List, [], ◌∷◌, ◌++◌, length, bytes_eq, filter, Bool, true, false, cond, refl, sym, ap, ap₂, subst, ◌∙◌, append_assoc, append-nil, arith}
use Rattle.std.proofs.lemmas.List.Elements.{filter-append}
use Rattle.std.specs.List.{AllZip, All}
use Rattle.std.proofs.lemmas.Slice.Eq.{bytes_eq-Decides}
use Rattle.std.proofs.lemmas.Slice.Zip.{all_zipped_more}
use Rattle.sqlite_rules.specs.Lists.{Has}
use Rattle.sqlite_value.specs.declared.value.Value.{Value}
use Rattle.sqlite_value.specs.declared.value.Value.TheVariants.{Text}
use Rattle.sqlite_value.specs.Order.{Row, column}
use Rattle.bike_queries.specs.Pages.{is_same_text, is_own, own_rows, AreApart}

-- ---- one text

same_text : (id : List ℕ) (w : Value) → is_same_text (Text id) w ≡ true → w ≡ Text id
same_text id (Text u) same = ap Text ((bytes_eq-Decides u id).0 same)
same_text id w same = absurd cc

-- a row of one identifier's is no other's
no_others : (q id : List ℕ) (row : Row) → is_own id row ≡ true → bytes_eq id q ≡ false → is_own q row ≡ false
no_others q id row own apart = ap (is_same_text (Text q)) (same_text id (column row 0) own) ∙ apart

-- ---- lists

none_pass : {X : Type 0} (p : X → Bool) (xs : List X) → ((x : X) → Has xs x → p x ≡ false) → filter p xs ≡ []
none_pass p [] fails = refl
none_pass p (x ∷ xs) fails = ap (λ (b : Bool). cond b (x ∷ filter p xs) (filter p xs)) (fails x (inl refl)) ∙ none_pass p xs (λ y has. fails y (inr has))

pub all_pass : {X : Type 0} (p : X → Bool) (xs : List X) → ((x : X) → Has xs x → p x ≡ true) → filter p xs ≡ xs
all_pass p [] passes = refl
all_pass p (x ∷ xs) passes =
    ap (λ (b : Bool). cond b (x ∷ filter p xs) (filter p xs)) (passes x (inl refl)) ∙ ap (λ (ys : List _). x ∷ ys) (all_pass p xs (λ y has. passes y (inr has)))

pub zipped : {X Y : Type 0} {R S : X → Y → Type 0} (xs : List X) (ys : List Y) → ((x : X) (y : Y) → Has xs x → R x y → S x y) → AllZip R xs ys → AllZip S xs ys
zipped [] [] then all = tt
zipped [] (y ∷ ys) then all = absurd all
zipped (x ∷ xs) [] then all = absurd all
zipped (x ∷ xs) (y ∷ ys) then all = (then x y (inl refl) all.0, zipped xs ys (λ a b has. then a b (inr has)) all.1)

-- ---- owners apart

module _ {O : Type 0} (id : O → List ℕ) (owner : O) where
  -- from those before it, and from those behind
  apart_front : (front rest : List O) → AreApart id (front ++ owner ∷ rest) → (q : O) → Has front q → bytes_eq (id owner) (id q) ≡ false
  apart_front [] rest apart q has = absurd has
  apart_front (r ∷ front) rest apart q (inl same) = ap (λ (x : O). bytes_eq (id owner) (id x)) same ∙ (apart.0 owner (middle front)).1 where
    middle : (front : List O) → Has (front ++ owner ∷ rest) owner
    middle [] = inl refl
    middle (x ∷ xs) = inr (middle xs)
  apart_front (r ∷ front) rest apart q (inr has) = apart_front front rest apart.1 q has

  apart_rest : (front rest : List O) → AreApart id (front ++ owner ∷ rest) → (q : O) → Has rest q → bytes_eq (id owner) (id q) ≡ false
  apart_rest [] rest apart q has = (apart.0 q has).0
  apart_rest (r ∷ front) rest apart q has = apart_rest front rest apart.1 q has

-- ---- the rows so far

module _ {O X : Type 0} (id : O → List ℕ) (reads : O → List Row → X → Type 0) where
  -- each with its own among some rows
  abbrev pub AreReadWith : List Row → List O → List X → Type 0
  AreReadWith rows owners items = AllZip (λ owner x. reads owner (own_rows (id owner) rows) x) owners items

  -- Of the rows these were taken, and those are left. The owners so far were read with their own, and none of the others' was taken.
  pub record HaveRead (rows rest : List Row) (owners others : List O) (items : List X) : Type 0 where
    pub taken : List Row
    pub split : rows ≡ taken ++ rest
    pub done : AreReadWith taken owners items
    pub ahead : (q : O) → Has others q → own_rows (id q) taken ≡ []

  pub none_read : (rows : List Row) (others : List O) → HaveRead rows rows [] others []
  none_read rows others = record { taken = []; split = refl; done = tt; ahead = λ q has. refl }

  -- one more, with its own
  module _ (rows rest own later : List Row) (owners ahead : List O) (owner : O) (items : List X) (item : X) (apart : AreApart id (owners ++ owner ∷ ahead)) (parted : rest ≡ own ++ later)
      (its : (r : Row) → Has own r → is_own (id owner) r ≡ true) (read : reads owner own item) (so : HaveRead rows rest owners (owner ∷ ahead) items) where
    -- what is taken of the others' is as it was
    same_own : (q : O) → bytes_eq (id owner) (id q) ≡ false → own_rows (id q) (so.taken ++ own) ≡ own_rows (id q) so.taken
    same_own q other =
        filter-append (is_own (id q)) so.taken own
        ∙ ap (λ (xs : List Row). own_rows (id q) so.taken ++ xs) (none_pass (is_own (id q)) own (λ r has. no_others (id q) (id owner) r (its r has) other))
        ∙ append-nil (own_rows (id q) so.taken)

    all_own : own_rows (id owner) (so.taken ++ own) ≡ own
    all_own =
        filter-append (is_own (id owner)) so.taken own
        ∙ ap₂ (λ (xs ys : List Row). xs ++ ys) (so.ahead owner (inl refl)) (all_pass (is_own (id owner)) own its)

    pub next_read : HaveRead rows later (owners ++ owner ∷ []) ahead (items ++ item ∷ [])
    next_read = record {
      taken = so.taken ++ own;
      split = so.split ∙ ap (λ (xs : List Row). so.taken ++ xs) parted ∙ sym (append_assoc so.taken own later);
      done = all_zipped_more (λ (o : O) (x : X). reads o (own_rows (id o) (so.taken ++ own)) x) owners items owner item
          (zipped owners items (λ q x has was. subst (λ (xs : List Row). reads q xs x) (sym (same_own q (apart_front id owner owners ahead apart q has))) was) so.done)
          (subst (λ (xs : List Row). reads owner xs item) (sym all_own) read);
      ahead = λ q has. same_own q (apart_rest id owner owners ahead apart q has) ∙ so.ahead q (inr has);
    }

  -- all were read, and no row is left
  pub all_read : (rows rest : List Row) (owners : List O) (items : List X) → rest ≡ [] → HaveRead rows rest owners [] items → AreReadWith rows owners items
  all_read rows rest owners items none so =
      let all : rows ≡ so.taken = so.split ∙ ap (λ (xs : List Row). so.taken ++ xs) none ∙ append-nil so.taken in
      subst (λ (xs : List Row). AreReadWith xs owners items) (sym all) so.done

-- what holds of all by their places
pub of_all : {X : Type 0} (P : X → Type 0) (xs : List X) → All P xs → (x : X) → Has xs x → P x
of_all P [] all x has = absurd has
of_all P (y ∷ xs) all x (inl same) = subst P (sym same) (all 0 y (let some : 0 < suc (length xs) = omega arith in some))
of_all P (y ∷ xs) all x (inr has) = of_all P xs (λ k d below. all (suc k) d (let next : suc k < suc (length xs) = omega (arith, below) in next)) x has
