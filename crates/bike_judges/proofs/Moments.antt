-- What the rows that are looked up tell is the operator's moment.
use Rattle.std.proofs.Common.{◌≡◌, ℕ, ℤ, max, List, [], ◌∷◌, codes, take, Option, refl, sym, ap, ◌∙◌}
use Rattle.std.specs.Prelude.{option_map, unwrap_or}
use Rattle.sqlite_value.specs.Order.{Row}
use Rattle.sqlite_tied.specs.Compute.{everything}
use Rattle.bike_sql.specs.View.{row_with}
use Rattle.bike_sql.proofs.OrderLemmas.{Rises}
use Rattle.bike_sql.proofs.SelectLaws.{last_row}
use Rattle.bike_sql.proofs.TreeLemmas.{by_key_total}
use Rattle.bike_book.specs.Tables.{Tables, Meta, History}
use Rattle.bike_book.specs.Rows.{number_value}
use Rattle.bike_schema.proofs.AnswerLemmas.{FindsIn, keyed_in}
use Rattle.bike_schema.proofs.KeyLemmas.{table_key}
use Rattle.bike_readings.specs.Readings.{meta_read}
use Rattle.bike_readings.specs.ReadOff.{since_of, moment_of}
use Rattle.bike_readings.specs.Rules.{AreInOrder}
use Rattle.bike_readings.proofs.CatalogueRows.{meta_reading}
use Rattle.bike_judges.specs.Moments.{meta_row_in, since_in, last_row_in, last_in}
use Rattle.bike_judges.proofs.OneRow.{one_key, first_is}

-- ---- what each statement finds

pub finds_meta : FindsIn (codes "SELECT * FROM meta WHERE one = ?1") (number_value 1 ∷ []) meta_row_in
unfolding everything
finds_meta = keyed_in Meta (λ tree. refl, refl) refl

pub finds_last : FindsIn (codes "SELECT * FROM history ORDER BY number DESC LIMIT 1") [] last_row_in
unfolding everything
finds_last = record { finds = λ db has. last_row (table_key History) (has History) (λ tree. refl, refl) }

-- ---- the first row of meta that spells something is row 1

abbrev Meant : Type 0
Meant = ℕ × ℕ × ℤ × ℤ

since_is : (rows : List Row) → Rises (by_key_total 1) rows → unwrap_or (since_in (row_with 1 one_key rows)) 0 ≡ since_of rows
since_is rows up =
    ap (λ (o : Option Meant). unwrap_or (option_map (λ (e : Meant). e.1) o) 0)
    (sym (first_is meta_read (λ r x is. ap (take 1) (meta_reading.sound r x is).0) rows up))

-- ---- both

pub now_found : (t : Tables) → AreInOrder t → (now since last : ℕ) → now ≡ max since last → since ≡ unwrap_or (since_in (meta_row_in t)) 0 → last ≡ unwrap_or (last_in (last_row_in t)) 0
    → now ≡ moment_of t
now_found t up now since last is since_told last_told = is ∙ (λ i. max ((since_told ∙ since_is t.meta (up Meta)) i) (last_told i))
