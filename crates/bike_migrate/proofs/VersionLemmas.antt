-- The row of `meta`, whose version and sums alone change.
use Rattle.std.proofs.Common.{◌≡◌, ◌==◌, ℕ, pos, negsuc, Bool, true, false, List, [], ◌∷◌, Option, Some, None, codes, Ordering, Less, Equal, Greater, if◌then◌else◌, refl, ap, subst, ◌∙◌}
use Rattle.std.specs.Prelude.{take, option_map, unwrap_or}
use Rattle.std.specs.Ordering.{is_eq, match_ordering}
use Rattle.sqlite_value.specs.declared.value.Value.{Value}
use Rattle.sqlite_value.specs.declared.value.Value.TheVariants.{Null, Int, Real, Text, Blob}
use Rattle.sqlite_value.specs.Order.{Row, row_cmp}
use Rattle.bike_sql.specs.Keyed.{put_in}
use Rattle.bike_sql.specs.View.{by_key, row_with, put_row_by, rows_after_update, with_values}
use Rattle.bike_sql.proofs.OrderLemmas.{has_put}
use Rattle.bike_sql.proofs.TreeLemmas.{by_key_total}
use Rattle.bike_book.specs.declared.version.TheConstants.{NEWEST}
use Rattle.bike_book.specs.Rows.{number_value, meta_row}
use Rattle.bike_book.proofs.CatalogueBooks.{one_key}
use Rattle.bike_schema.specs.Columns.{whole_in}
use Rattle.bike_recognition.specs.Recognition.{is_app, version_of, version_in}
use Rattle.bike_recognition.specs.EarlierVersions.Stores.{old_meta_row}
use Rattle.bike_recognition.specs.declared.version.MetaVersion.TheVariants.{Missing, Version, NotOurs}
use Rattle.sqlite_rules.specs.Lists.{Has}

abbrev key : Row
key = number_value 1 ∷ []

abbrev newest : Row → Row
newest = with_values ((2, number_value NEWEST) ∷ (4, number_value 0) ∷ (5, number_value 0) ∷ [])

-- ---- from the version to the newest

module _ (version now : ℕ) (cash revenue : Value) where
  abbrev old : Row
  old = old_meta_row version now cash revenue

  pub old_found : row_with 1 key (old ∷ []) ≡ Some old
  old_found = rw one_key refl

  meta_put : put_row_by 1 (meta_row NEWEST now (pos 0) (pos 0)) (old ∷ []) ≡ meta_row NEWEST now (pos 0) (pos 0) ∷ []
  meta_put = rw one_key refl

  pub meta_raised : rows_after_update 1 key newest (old ∷ []) ≡ meta_row NEWEST now (pos 0) (pos 0) ∷ []
  meta_raised = ap (λ (o : Option Row). unwrap_or (option_map (λ x. put_row_by 1 (newest x) (old ∷ [])) o) (old ∷ [])) old_found ∙ meta_put

-- ---- and back

-- where one row is left there was one, and it is what was made of it
record IsOne (rows : List Row) (m : Row) : Type 0 where
  row : Row
  rows_are : rows ≡ row ∷ []
  made : newest row ≡ m

put_one : (new x : Row) (xs : List Row) (m : Row) → put_row_by 1 new (x ∷ xs) ≡ m ∷ [] → (xs ≡ []) × (new ≡ m)
put_one new x xs m = by (by_key 1 x new)
  where
    by : (o : Ordering) → match_ordering o (x ∷ put_in (by_key 1) new xs) (new ∷ xs) (new ∷ x ∷ xs) ≡ m ∷ [] → (xs ≡ []) × (new ≡ m)
    by Less is = absurd (let none : put_in (by_key 1) new xs ≡ [] = cc in subst (λ rows. Has rows new) none (has_put (by_key_total 1) new xs))
    by Equal is = (cc, cc)
    by Greater is = absurd (let none : x ∷ xs ≡ [] = cc in cc)

one_found : (row : Row) (x : Row) → row_with 1 key (x ∷ []) ≡ Some row → x ≡ row
one_found row x = by (is_eq (row_cmp (take 1 x) key))
  where
    by : (b : Bool) → (if b then Some x else None) ≡ Some row → x ≡ row
    by true is = cc
    by false is = absurd cc

updated_one : (rows : List Row) (m row : Row) → row_with 1 key rows ≡ Some row → put_row_by 1 (newest row) rows ≡ m ∷ [] → rows ≡ row ∷ []
updated_one [] m row found is = absurd cc
updated_one (x ∷ xs) m row found is =
    let one = put_one (newest row) x xs m is in
    let same : x ≡ row = one_found row x (subst (λ ys. row_with 1 key (x ∷ ys) ≡ Some row) one.0 found) in
    ap (λ ys. x ∷ ys) one.0 ∙ ap (λ y. y ∷ []) same

made_one : (rows : List Row) (m row : Row) → rows ≡ row ∷ [] → put_row_by 1 (newest row) rows ≡ m ∷ [] → newest row ≡ m
made_one rows m row are is = (put_one (newest row) row [] m (subst (λ rs. put_row_by 1 (newest row) rs ≡ m ∷ []) are is)).1

no_version : (v : ℕ) → NotOurs ≡ Version v → ⊥
no_version v is = cc

-- the row's version is what it tells
version_is : (v : ℕ) (b : Bool) (c : Value) → (if b then version_of (whole_in c) else NotOurs) ≡ Version v → c ≡ number_value v
version_is v false c is = absurd (no_version v is)
version_is v true Null is = absurd (no_version v is)
version_is v true (Real x) is = absurd (no_version v is)
version_is v true (Text t) is = absurd (no_version v is)
version_is v true (Blob t) is = absurd (no_version v is)
version_is v true (Int (negsuc n)) is = absurd (no_version v is)
version_is v true (Int (pos n)) is = by (n == 0) is
  where
    by : (b : Bool) → (if b then NotOurs else Version n) ≡ Version v → Int (pos n) ≡ number_value v
    by true is = absurd (no_version v is)
    by false is = let same : n ≡ v = cc in ap number_value same

-- of this version, with whatever stands there for the sums
record IsOld (v now : ℕ) (row : Row) : Type 0 where
  pub cash : Value
  pub revenue : Value
  pub row_is : row ≡ old_meta_row v now cash revenue

-- the columns behind the version: the moment, and two more
behind : (now : ℕ) (rest : List Value) → with_values ((1, number_value 0) ∷ (2, number_value 0) ∷ []) rest ≡ number_value now ∷ number_value 0 ∷ number_value 0 ∷ []
    → (cash : Value) × (revenue : Value) × (rest ≡ number_value now ∷ cash ∷ revenue ∷ [])
behind now [] is = absurd cc
behind now (a ∷ []) is = absurd cc
behind now (a ∷ b ∷ []) is = absurd cc
behind now (a ∷ b ∷ c ∷ []) is = (b, c, (let first : a ≡ number_value now = cc in ap (λ (x : Value). x ∷ b ∷ c ∷ []) first))
behind now (a ∷ b ∷ c ∷ d ∷ rest) is = absurd cc

lowered : (v now : ℕ) (row : Row) → newest row ≡ meta_row NEWEST now (pos 0) (pos 0) → version_in (Some row) ≡ Version v → IsOld v now row
lowered v now [] made told = absurd cc
lowered v now (a ∷ []) made told = absurd cc
lowered v now (a ∷ b ∷ []) made told = absurd cc
lowered v now (a ∷ b ∷ c ∷ rest) made told =
    let version : c ≡ number_value v = version_is v (is_app b) c told in
    let first : a ≡ Int (pos 1) = cc in
    let app : b ≡ Text (codes "bikeshare") = cc in
    let others = behind now rest cc in
    record {
      cash = others.0;
      revenue = others.1;
      row_is = ap (λ x. x ∷ b ∷ c ∷ rest) first ∙ ap (λ x. Int (pos 1) ∷ x ∷ c ∷ rest) app ∙ ap (λ x. Int (pos 1) ∷ Text (codes "bikeshare") ∷ x ∷ rest) version
          ∙ ap (λ xs. Int (pos 1) ∷ Text (codes "bikeshare") ∷ number_value v ∷ xs) others.2;
    }

pub record WasMeta (v now : ℕ) (rows : List Row) : Type 0 where
  pub cash : Value
  pub revenue : Value
  pub rows_are : rows ≡ old_meta_row v now cash revenue ∷ []

pub meta_lowered : (v now : ℕ) (rows : List Row) → version_in (row_with 1 key rows) ≡ Version v → rows_after_update 1 key newest rows ≡ meta_row NEWEST now (pos 0) (pos 0) ∷ [] → WasMeta v now rows
meta_lowered v now rows = by (row_with 1 key rows) refl
  where
    by : (o : Option Row) → row_with 1 key rows ≡ o → version_in o ≡ Version v → unwrap_or (option_map (λ row. put_row_by 1 (newest row) rows) o) rows ≡ meta_row NEWEST now (pos 0) (pos 0) ∷ []
        → WasMeta v now rows
    by None found told is = absurd (let none : Missing ≡ Version v = told in cc)
    by (Some row) found told is =
        let one = updated_one rows (meta_row NEWEST now (pos 0) (pos 0)) row found is in
        let was = lowered v now row (made_one rows (meta_row NEWEST now (pos 0) (pos 0)) row one is) told in
        record { cash = was.cash; revenue = was.revenue; rows_are = one ∙ ap (λ r. r ∷ []) was.row_is }
