-- The pass over the rows of the history asks each row with the moment of the row before it.
use Rattle.std.proofs.Common.{◌≡◌, inl, inr, ℕ, suc, ◌+◌, ◌≤◌, List, [], ◌∷◌, ◌++◌, append_assoc, length, length-append, map, take, Bool, true, false, cond, Option, Some, None, refl, sym, ap, ◌∙◌}
use Rattle.std.proofs.Common.{arith}
use Rattle.std.specs.Prelude.{IfSome, option_map}
use Rattle.std.specs.List.{fold, filter_map, cons_option}
use Rattle.std.proofs.lemmas.Bool.{le-leb, leb-true}
use Rattle.std.proofs.lemmas.List.{take_at}
use Rattle.sqlite_value.specs.Order.{Row}
use Rattle.sqlite_rules.specs.Lists.{Has}
use Rattle.bike_operator.specs.Operator.{AcceptedRequest, item_at, item_in}
use Rattle.bike_readings.specs.Readings.{request_read}
use Rattle.bike_judges.specs.Passes.{first_failing}
use Rattle.bike_ledger_rules.specs.History.{is_later, is_next_request, request_passes, next_moment, moment_of, last_moment, first_astray, request_test}
use Rattle.bike_ledger_rules.proofs.Folds.{fold_append}

none_some : {A : Type 0} (x : A) → ◌≡◌ {A = Option A} None (Some x) → ⊥
none_some x is = cc

-- ---- one more row

next_passes : (now before : ℕ) (last : Option ℕ) (o : Option (ℕ × AcceptedRequest)) (moment : ℕ) → next_moment now before last o ≡ Some moment
    → (request_passes now before last o ≡ true) × (moment_of o ≡ Some moment)
next_passes now before last None moment is = absurd (none_some moment is)
next_passes now before last (Some e) moment is = go (is_next_request now before last e) refl is where
  go : (b : Bool) → is_next_request now before last e ≡ b → cond b (Some e.1.moment) None ≡ Some moment → (is_next_request now before last e ≡ true) × (Some e.1.moment ≡ Some moment)
  go true passes found = (passes, found)
  go false fails found = absurd (none_some moment found)

none_passes : (now before : ℕ) (last : Option ℕ) (o : Option (ℕ × AcceptedRequest)) → next_moment now before last o ≡ None → request_passes now before last o ≡ false
none_passes now before last None is = refl
none_passes now before last (Some e) is = go (is_next_request now before last e) refl is where
  go : (b : Bool) → is_next_request now before last e ≡ b → cond b (Some e.1.moment) None ≡ None → is_next_request now before last e ≡ false
  go true passes found = absurd (none_some e.1.moment (sym found))
  go false fails found = fails

module _ (now before : ℕ) (last : Option ℕ) (row : Row) (left : List Row) (verdict : Option Row) (is : first_astray now before last (row ∷ left) ≡ verdict) where
  pub next_row : (moment : ℕ) → next_moment now before last (request_read row) ≡ Some moment → first_astray now (before + 1) (Some moment) left ≡ verdict
  unfolding first_astray
  next_row moment next =
      let it = next_passes now before last (request_read row) moment next in
      ap (λ (o : Option ℕ). first_astray now (before + 1) o left) (sym it.1)
      ∙ ap (λ (b : Bool). cond b (first_astray now (before + 1) (moment_of (request_read row)) left) (Some (take 1 row))) (sym it.0) ∙ is

  pub astray_row : next_moment now before last (request_read row) ≡ None → verdict ≡ Some (take 1 row)
  unfolding first_astray
  astray_row none =
      sym is ∙ ap (λ (b : Bool). cond b (first_astray now (before + 1) (moment_of (request_read row)) left) (Some (take 1 row)))
      (none_passes now before last (request_read row) none)

pub no_row : (now before : ℕ) (last : Option ℕ) → first_astray now before last [] ≡ None
unfolding first_astray
no_row now before last = refl

-- ---- the pass

-- behind so many requests that were archived
module _ (now archived : ℕ) where
  -- the pass over these rows, which stand behind those
  abbrev Passes : List Row → List Row → Type 0
  Passes before rows =
      first_astray now (archived + length before) (last_moment before) rows
      ≡ first_failing (request_test now archived (before ++ rows)) (take 1) (length before) rows

  passing : (before rows : List Row) → Passes before rows
  unfolding first_astray first_failing
  passing before [] = refl
  passing before (row ∷ rows) = go (passing (before ++ row ∷ []) rows) where
    here : before ≡ take (length before) (before ++ row ∷ rows)
    here = sym (take_at before (row ∷ rows) (length before) refl)

    go : Passes (before ++ row ∷ []) rows → Passes before (row ∷ rows)
    go later =
        let all = before ++ row ∷ rows in
        let front = before ++ row ∷ [] in
        let long : length front ≡ length before + 1 = length-append before (row ∷ []) in
        let rest : first_astray now (archived + length before + 1) (moment_of (request_read row)) rows ≡ first_failing (request_test now archived all) (take 1) (suc (length before)) rows =
        ap (λ (last : Option ℕ). first_astray now (archived + length before + 1) last rows) (sym (fold_append (λ last r. moment_of (request_read r)) None before (row ∷ [])))
        ∙ ap (λ (n : ℕ). first_astray now n (last_moment front) rows) (omega (arith, long)) ∙ later
        ∙ ap (λ (xs : List Row). first_failing (request_test now archived xs) (take 1) (length front) rows) (append_assoc before (row ∷ []) rows)
        ∙ ap (λ (n : ℕ). first_failing (request_test now archived all) (take 1) n rows) (long ∙ (omega arith)) in
        λ i. cond (request_passes now (archived + length before) (last_moment (here i)) (request_read row)) (rest i) (Some (take 1 row))

  -- THE PASS over all rows
  pub rows_pass : (rows : List Row) → first_astray now archived None rows ≡ first_failing (request_test now archived rows) (take 1) 0 rows
  rows_pass rows = ap (λ (n : ℕ). first_astray now n None rows) none ∙ passing [] rows where
    none : archived ≡ archived + 0
    none = omega arith

-- ---- the moment of the row before

-- the requests that rows spell
abbrev pub requests : List Row → List AcceptedRequest
requests rows = map (λ e. e.1) (filter_map request_read rows)

-- each of the rows spells a request
abbrev pub EachSpells : List Row → Type 0
EachSpells rows = (r : Row) → Has rows r → (e : ℕ × AcceptedRequest) × (request_read r ≡ Some e)

pub one_spelled : (r : Row) (rows : List Row) (e : ℕ × AcceptedRequest) → request_read r ≡ Some e → requests (r ∷ rows) ≡ e.1 ∷ requests rows
one_spelled r rows e is = ap (λ (o : Option (ℕ × AcceptedRequest)). map (λ (x : ℕ × AcceptedRequest). x.1) (cons_option o (filter_map request_read rows))) is

abbrev step : Option ℕ → Row → Option ℕ
step last row = moment_of (request_read row)

module _ (more : List AcceptedRequest) where
  lasting : (xs : List Row) (e : ℕ × AcceptedRequest) → EachSpells xs → fold step (Some e.1.moment) xs ≡ option_map (λ a. a.moment) (item_at (length xs) (e.1 ∷ requests xs ++ more))
  lasting [] e each = refl
  lasting (z ∷ xs) e each =
      let w = each z (inl refl) in
      ap (λ (last : Option ℕ). fold step last xs) (ap moment_of w.1) ∙ lasting xs w.0 (λ r has. each r (inr has))
      ∙ ap (λ (front : List AcceptedRequest). option_map (λ a. a.moment) (item_at (length xs) (front ++ more))) (sym (one_spelled z xs w.0 w.1))

  -- it is that of the request at the place of so many rows
  pub last_is : (before : List Row) → EachSpells before → last_moment before ≡ option_map (λ a. a.moment) (item_in (length before) (requests before ++ more))
  last_is [] each = refl
  last_is (x ∷ xs) each =
      let y = each x (inl refl) in
      ap (λ (last : Option ℕ). fold step last xs) (ap moment_of y.1) ∙ lasting xs y.0 (λ r has. each r (inr has))
      ∙ ap (λ (front : List AcceptedRequest). option_map (λ a. a.moment) (item_at (length xs) (front ++ more))) (sym (one_spelled x xs y.0 y.1))

pub later_than : (o : Option AcceptedRequest) (moment : ℕ) → is_later (option_map (λ a. a.moment) o) moment ≡ true → IfSome o (λ a. a.moment ≤ moment)
later_than None moment is = tt
later_than (Some a) moment is = leb-true a.moment moment is

pub than_later : (o : Option AcceptedRequest) (moment : ℕ) → IfSome o (λ a. a.moment ≤ moment) → is_later (option_map (λ a. a.moment) o) moment ≡ true
than_later None moment is = refl
than_later (Some a) moment is = le-leb a.moment moment is

-- a row that passes spells a request
pub passing_spells : (now before : ℕ) (last : Option ℕ) (o : Option (ℕ × AcceptedRequest)) → request_passes now before last o ≡ true → (e : ℕ × AcceptedRequest) × (o ≡ Some e)
passing_spells now before last None passes = absurd cc
passing_spells now before last (Some e) passes = (e, refl)
