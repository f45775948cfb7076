-- What stands beside a row in a line, and whether the operator has it.
use Rattle.std.proofs.Common.{◌≡◌, ℕ, zero, suc, ◌+◌, List, [], ◌∷◌, ◌++◌, append_assoc, length, length-append, false, Option, Some, None, is_some, refl, sym, ap, ◌∙◌, arith}
use Rattle.std.specs.Prelude.{take, drop, option_map, option_and_then}
use Rattle.std.specs.List.{filter_map}
use Rattle.std.specs.FinMap as fin
use Rattle.std.proofs.Math.Seq.{take-append_seam, drop-append_seam, take-length}
use Rattle.sqlite_value.specs.declared.value.Value.{Value}
use Rattle.sqlite_value.specs.declared.value.Value.TheVariants.{Text}
use Rattle.sqlite_value.specs.Order.{Row}
use Rattle.sqlite_rules.specs.Lists.{Has}
use Rattle.bike_sql.specs.View.{row_with, partner}
use Rattle.bike_sql.proofs.OrderLemmas.{Rises}
use Rattle.bike_sql.proofs.TreeLemmas.{by_key_total}
use Rattle.bike_operator.specs.Operator.{text_cmp}
use Rattle.bike_book.proofs.Keys.{text_key, texts}
use Rattle.bike_readings.proofs.Places.{under_has}
use Rattle.bike_judges.specs.Lines.{part, nulls, or_nulls}
use Rattle.bike_judges.proofs.Lookups.{SpellsKeys, found_at}

-- ---- the parts of a line

pub own_part : (width : ℕ) (row rest : Row) → length row ≡ width → part 0 width (row ++ rest) ≡ row
own_part width row rest wide = ap (λ (n : ℕ). take n (row ++ rest)) (sym wide) ∙ take-append_seam row rest

-- the part behind the row, and the last one
pub second_part : (first width : ℕ) (row second rest : Row) → length row ≡ first → length second ≡ width → part first width (row ++ (second ++ rest)) ≡ second
second_part first width row second rest wide also =
    ap (λ (n : ℕ). take width (drop n (row ++ (second ++ rest)))) (sym wide) ∙ ap (take width) (drop-append_seam row (second ++ rest)) ∙ own_part width second rest also

pub last_part : (first width : ℕ) (row last : Row) → length row ≡ first → length last ≡ width → part first width (row ++ last) ≡ last
last_part first width row last wide also =
    ap (λ (n : ℕ). take width (drop n (row ++ last))) (sym wide) ∙ ap (take width) (drop-append_seam row last) ∙ ap (λ (n : ℕ). take n last) (sym also) ∙ take-length last

pub third_part : (first second width : ℕ) (row other last : Row) → length row ≡ first → length other ≡ second → length last ≡ width → part (first + second) width (row ++ (other ++ last)) ≡ last
third_part first second width row other last wide also last_wide =
    let front : length (row ++ other) ≡ first + second = let both = length-append row other in omega (arith, both, wide, also) in
    ap (part (first + second) width) (sym (append_assoc row other last)) ∙ last_part (first + second) width (row ++ other) last front last_wide

-- ---- what stands beside a row

nulls_wide : (width : ℕ) → length (nulls width) ≡ width
nulls_wide zero = refl
nulls_wide (suc width) = let rest = nulls_wide width in omega (arith, rest)

-- where its key is an identifier, it is as wide as the rows of its table,
pub beside_wide : (width : ℕ) (rows : List Row) → ((r : Row) → Has rows r → length r ≡ width) → (v : Value) (id : List ℕ) → v ≡ Text id → length (or_nulls width (partner 1 (v ∷ []) rows)) ≡ width
beside_wide width rows wide v id is = ap (λ (w : Value). length (or_nulls width (partner 1 (w ∷ []) rows))) is ∙ go (row_with 1 (text_key id) rows) refl where
  go : (o : Option Row) → row_with 1 (text_key id) rows ≡ o → length (or_nulls width o) ≡ width
  go None e = nulls_wide width
  go (Some r) e = wide r (under_has 1 (text_key id) rows r e).0

pub mapped_some : {A B : Type 0} (f : A → B) (o : Option A) → is_some o ≡ is_some (option_map f o)
mapped_some f None = refl
mapped_some f (Some x) = refl

-- and it spells a record exactly where the operator has one under that
pub is_there : {X B : Type 0} (read_in : Row → Option (List ℕ × X)) → SpellsKeys texts read_in → (read : Row → Option B) → ((r : Row) → is_some (read r) ≡ is_some (read_in r))
    → (width : ℕ) (rows : List Row) → Rises (by_key_total 1) rows → is_some (read (nulls width)) ≡ false → (v : Value) (id : List ℕ) → v ≡ Text id
    → is_some (read (or_nulls width (partner 1 (v ∷ []) rows))) ≡ is_some (fin.get (fin.from_sorted {R = text_cmp} (filter_map read_in rows)) id)
is_there {X} read_in spells read same width rows up none v id is =
    ap (λ (w : Value). is_some (read (or_nulls width (partner 1 (w ∷ []) rows)))) is ∙ go (row_with 1 (text_key id) rows) ∙ sym (ap is_some (found_at texts read_in spells rows up id tt))
  where
    go : (o : Option Row) → is_some (read (or_nulls width o)) ≡ is_some (option_map (λ (e : List ℕ × X). e.1) (option_and_then read_in o))
    go None = none
    go (Some r) = same r ∙ mapped_some (λ (e : List ℕ × X). e.1) (read_in r)
