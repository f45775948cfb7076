-- The rows of a plan's segments, and what is read of them.
use Rattle.std.proofs.Common.{◌≡◌, ◌+◌, ◌<◌, ◌≤◌, ℕ, suc, List, [], ◌∷◌, ◌++◌, length, drop, get_or, codes, refl, sym, ap, ap₂, subst, ◌∙◌, append_assoc, append-nil, drop-cons, arith}
use Rattle.std.proofs.lemmas.List.{drop_all}
use Rattle.sqlite_value.specs.declared.value.Value.TheVariants.{Text}
use Rattle.sqlite_value.specs.Order.{Row}
use Rattle.sqlite_tied.specs.Compute.{everything}
use Rattle.bike_sql.specs.View.{rows_where}
use Rattle.bike_sql.proofs.SelectLaws.{rows_with}
use Rattle.bike_fields.specs.Values.{SegmentRow}
use Rattle.bike_book.specs.Tables.{Segments}
use Rattle.bike_book.specs.Rows.{segment_row}
use Rattle.bike_book.specs.Stored.{segment_rows}
use Rattle.bike_schema.proofs.KeyLemmas.{table_key}
use Rattle.bike_schema.proofs.ListedLemmas.{ListsIn}

pub lists_segments : (plan : List ℕ) → ListsIn (codes "SELECT * FROM segments WHERE plan_id = ?1 ORDER BY plan_id, seq") (Text plan ∷ []) (λ t. rows_where (0 ∷ []) (Text plan ∷ []) t.segments)
unfolding everything
lists_segments plan = record { lists = λ db has. rows_with (table_key Segments) (has Segments) 0 (0 ∷ []) (λ tree. refl, refl) refl (λ r. refl) }

-- ---- what is read of the rows

-- Of the segments whose rows all are, these were read, and the others are those of the rows that are left.
abbrev pub AreRead : List Row → List SegmentRow → List Row → Type 0
AreRead all items left =
    (id : List ℕ) (segments : List SegmentRow) → all ≡ segment_rows id 1 segments → (rest : List SegmentRow) × (seq : ℕ) × (segments ≡ items ++ rest) × (left ≡ segment_rows id seq rest)

pub none_read : (all : List Row) → AreRead all [] all
none_read all id segments is = (segments, 1, refl, is)

pub one_more : (all : List Row) (items : List SegmentRow) (row : Row) (left : List Row) (x : SegmentRow) → ((id : List ℕ) (seq : ℕ) (g : SegmentRow) → row ≡ segment_row id seq g → x ≡ g)
    → AreRead all items (row ∷ left) → AreRead all (items ++ x ∷ []) left
one_more all items row left x reads so id segments is = let it = so id segments is in by it.0 it.1 it.2 it.3
  where
    by : (rest : List SegmentRow) (seq : ℕ) → segments ≡ items ++ rest → row ∷ left ≡ segment_rows id seq rest
        → (rest : List SegmentRow) × (seq : ℕ) × (segments ≡ (items ++ x ∷ []) ++ rest) × (left ≡ segment_rows id seq rest)
    by [] seq split are = absurd cc
    by (g ∷ rest) seq split are =
        let row_is : row ≡ segment_row id seq g = cc in
        let left_is : left ≡ segment_rows id (suc seq) rest = cc in
        (rest, suc seq, split ∙ ap (λ y. items ++ y ∷ rest) (sym (reads id seq g row_is)) ∙ sym (append_assoc items (x ∷ []) rest), left_is)

pub next_read : (all : List Row) (items : List SegmentRow) (i : ℕ) (row : Row) (x : SegmentRow) → i < length all → row ≡ get_or all i row
    → ((id : List ℕ) (seq : ℕ) (g : SegmentRow) → row ≡ segment_row id seq g → x ≡ g) → AreRead all items (drop i all)
    → AreRead all (items ++ x ∷ []) (drop (i + 1) all)
next_read all items i row x below is reads so = one_more all items row (drop (i + 1) all) x reads (subst (AreRead all items) (drop-cons all i row below ∙ ap₂ (λ r k. r ∷ drop k all) (sym is) next) so)
  where
    next : suc i ≡ i + 1
    next = omega arith

pub all_read : (all : List Row) (items : List SegmentRow) (i : ℕ) → length all ≤ i → AreRead all items (drop i all) → (id : List ℕ) (segments : List SegmentRow) → all ≡ segment_rows id 1 segments
    → items ≡ segments
all_read all items i end so id segments is = let it = subst (AreRead all items) (drop_all i all end) so id segments is in by it.0 it.1 it.2 it.3
  where
    by : (rest : List SegmentRow) (seq : ℕ) → segments ≡ items ++ rest → [] ≡ segment_rows id seq rest → items ≡ segments
    by [] seq split are = sym (split ∙ append-nil items)
    by (g ∷ rest) seq split are = absurd cc
