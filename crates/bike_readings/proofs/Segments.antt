-- The segments of plans: their rows rise by plan and number, and those of a plan are found one after the other.
use Rattle.std.proofs.Common.{◌≡◌, ◌⊎◌, inl, inr, ℕ, zero, suc, ◌+◌, ◌≤◌, List, [], ◌∷◌, ◌++◌, length, T, Option, Some, None, refl, sym, ap, ap₂, subst, ◌∙◌, arith}
use Rattle.std.specs.Prelude.{option_map, option_and_then, take}
use Rattle.std.specs.Ordering.{nat_cmp, ordering_then}
use Rattle.std.specs.declared.cmp.Ordering.{Ordering}
use Rattle.std.specs.declared.cmp.Ordering.TheVariants.{Less, Equal}
use Rattle.std.specs.Cmp.{eq_by_cmp_equiv, nat_cmp_is, Equal-is}
use Rattle.std.specs.FinMap as fin
use Rattle.std.specs.FinMap.{FinMap}
use Rattle.std.specs.FinMap.Entries as entries
use Rattle.sqlite_value.specs.declared.value.Value.TheVariants.{Text}
use Rattle.sqlite_value.specs.Order.{Row, row_cmp}
use Rattle.sqlite_value.proofs.OrderLemmas.{value_cmp-Text, then-Equal}
use Rattle.sqlite_rules.specs.Lists.{Has}
use Rattle.bike_sql.specs.View.{by_key, row_with}
use Rattle.bike_sql.proofs.OrderLemmas.{Rises, rises_append, all_from, same_list}
use Rattle.bike_sql.proofs.TreeLemmas.{by_key_total}
use Rattle.bike_fields.specs.Values.{SegmentRow}
use Rattle.bike_catalogue.specs.Rows.{PlanRow}
use Rattle.bike_operator.specs.Operator.{text_cmp, dock_key, item_at, item_in}
use Rattle.bike_laws.proofs.SingleSteps.MapLemmas.{text_order}
use Rattle.bike_book.specs.Rows.{number_value, segment_row}
use Rattle.bike_book.specs.Stored.{segment_rows, plans_segments}
use Rattle.bike_book.proofs.MapRows.{both, below_has, has_get}
use Rattle.bike_book.proofs.Keys.{texts, docks, value_cmp-number_value, IsDockPair}
use Rattle.bike_readings.specs.Readings.{segment_read}
use Rattle.bike_readings.specs.Bounds.{IsStoredSegment}
use Rattle.bike_readings.proofs.CatalogueRows.{segment_reading}
use Rattle.bike_readings.specs.ReadOff.{segment_at, and_after, segments_from, segments_of, most_segments}
use Rattle.bike_readings.proofs.Places.{has_under, under_has}
use Rattle.bike_readings.proofs.ReadBack.{get_has}
use Rattle.std.proofs.lemmas.Cmp.{tied_itself}

-- ---- the order of segments

segment_cmp : (t u : List ℕ) (q r : ℕ) (g h : SegmentRow) → by_key 2 (segment_row t q g) (segment_row u r h) ≡ ordering_then (text_cmp t u) (nat_cmp q r)
segment_cmp t u q r g h = rw (value_cmp-Text t u, value_cmp-number_value q r, then-Equal (nat_cmp q r)) refl

-- the row is a segment of the plan, from a number on
pub record IsRowOf (id : List ℕ) (k : ℕ) (gs : List SegmentRow) (r : Row) : Type 0 where
  pub at : ℕ
  pub segment : SegmentRow
  pub found : item_at at gs ≡ Some segment
  pub row_is : r ≡ segment_row id (k + at) segment

pub row_of : (id : List ℕ) (k : ℕ) (gs : List SegmentRow) (r : Row) → Has (segment_rows id k gs) r → IsRowOf id k gs r
row_of id k [] r has = elim has [ ]
row_of id k (g ∷ gs) r (inl is) = let number : k ≡ k + 0 = omega arith in record { at = zero; segment = g; found = refl; row_is = is ∙ ap (λ (n : ℕ). segment_row id n g) number }
row_of id k (g ∷ gs) r (inr later) =
    let it = row_of id (suc k) gs r later in
    let number : suc k + it.at ≡ k + suc it.at = omega arith in
    record { at = suc it.at; segment = it.segment; found = it.found; row_is = it.row_is ∙ ap (λ (n : ℕ). segment_row id n it.segment) number }

pub has_row : (id : List ℕ) (k : ℕ) (gs : List SegmentRow) (i n : ℕ) (g : SegmentRow) → n ≡ k + i → item_at i gs ≡ Some g → Has (segment_rows id k gs) (segment_row id n g)
has_row id k [] i n g number found = absurd cc
has_row id k (x ∷ gs) zero n g number found = let same : x ≡ g = cc in let first : n ≡ k = omega (arith, number) in inl (ap₂ (λ (a : ℕ) (b : SegmentRow). segment_row id a b) first (sym same))
has_row id k (x ∷ gs) (suc i) n g number found = inr (has_row id (suc k) gs i n g (omega (arith, number)) found)

-- the row is a segment of a plan among these
pub record IsRowAmong (es : List (List ℕ × PlanRow)) (r : Row) : Type 0 where
  pub entry : List ℕ × PlanRow
  pub has : Has es entry
  pub of : IsRowOf entry.0 1 entry.1.segments r

has_either : {X : Type 0} (xs ys : List X) (x : X) → Has (xs ++ ys) x → Has xs x ⊎ Has ys x
has_either [] ys x h = inr h
has_either (z ∷ xs) ys x (inl is) = inl (inl is)
has_either (z ∷ xs) ys x (inr later) = elim (has_either xs ys x later) [ inl l ↦ inl (inr l) | inr r ↦ inr r ]

has_left : {X : Type 0} (xs ys : List X) (x : X) → Has xs x → Has (xs ++ ys) x
has_left [] ys x h = elim h [ ]
has_left (z ∷ xs) ys x (inl is) = inl is
has_left (z ∷ xs) ys x (inr later) = inr (has_left xs ys x later)

has_right : {X : Type 0} (xs ys : List X) (x : X) → Has ys x → Has (xs ++ ys) x
has_right [] ys x h = h
has_right (z ∷ xs) ys x h = inr (has_right xs ys x h)

pub row_among : (es : List (List ℕ × PlanRow)) (r : Row) → Has (plans_segments es) r → IsRowAmong es r
row_among [] r has = elim has [ ]
row_among (e ∷ es) r has = go (has_either (segment_rows e.0 1 e.1.segments) (plans_segments es) r has) (row_among es r) where
  go : Has (segment_rows e.0 1 e.1.segments) r ⊎ Has (plans_segments es) r → (Has (plans_segments es) r → IsRowAmong es r) → IsRowAmong (e ∷ es) r
  go (inl here) rest = record { entry = e; has = inl refl; of = row_of e.0 1 e.1.segments r here }
  go (inr later) rest = let it = rest later in record { entry = it.entry; has = inr it.has; of = it.of }

pub has_among : (es : List (List ℕ × PlanRow)) (e : List ℕ × PlanRow) (r : Row) → Has es e → Has (segment_rows e.0 1 e.1.segments) r → Has (plans_segments es) r
has_among [] e r has row = elim has [ ]
has_among (x ∷ es) e r (inl is) row =
    has_left (segment_rows x.0 1 x.1.segments) (plans_segments es) r (subst (λ (z : List ℕ × PlanRow). Has (segment_rows z.0 1 z.1.segments) r) is row)
has_among (x ∷ es) e r (inr later) row = has_right (segment_rows x.0 1 x.1.segments) (plans_segments es) r (has_among es e r later row)

-- the rows of one plan, and of all plans, rise
rows_rise : (id : List ℕ) (k : ℕ) (gs : List SegmentRow) → Rises (by_key_total 2) (segment_rows id k gs)
rows_rise id k [] = tt
rows_rise id k (g ∷ gs) = (all_from (λ y. by_key 2 (segment_row id k g) y ≡ Less) (segment_rows id (suc k) gs) later, rows_rise id (suc k) gs) where
  later : (y : Row) → Has (segment_rows id (suc k) gs) y → by_key 2 (segment_row id k g) y ≡ Less
  later y has =
      let it = row_of id (suc k) gs y has in
      ap (λ (z : Row). by_key 2 (segment_row id k g) z) it.row_is ∙ segment_cmp id id k (suc k + it.at) g it.segment
      ∙ ap (λ (o : Ordering). ordering_then o (nat_cmp k (suc k + it.at))) ((Equal-is (text_cmp id id)).0 ((eq_by_cmp_equiv text_order.total).refl id))
      ∙ sym (nat_cmp_is k (suc k + it.at) Less (omega arith))

pub segments_rise : (es : List (List ℕ × PlanRow)) → T (entries.is_sorted text_cmp es) → Rises (by_key_total 2) (plans_segments es)
segments_rise [] sorted = tt
segments_rise (e ∷ es) sorted =
    let parts = both (entries.below_all text_cmp e.0 es) (entries.is_sorted text_cmp es) sorted in
    rises_append (by_key_total 2) (segment_rows e.0 1 e.1.segments) (plans_segments es) (rows_rise e.0 1 e.1.segments) (segments_rise es parts.1) (apart parts.0)
  where
    apart : T (entries.below_all text_cmp e.0 es) → (x y : Row) → Has (segment_rows e.0 1 e.1.segments) x → Has (plans_segments es) y → by_key 2 x y ≡ Less
    apart below x y hx hy =
        let a = row_of e.0 1 e.1.segments x hx in
        let b = row_among es y hy in
        ap₂ (λ (u v : Row). by_key 2 u v) a.row_is b.of.row_is ∙ segment_cmp e.0 b.entry.0 (1 + a.at) (1 + b.of.at) a.segment b.of.segment
        ∙ ap (λ (o : Ordering). ordering_then o (nat_cmp (1 + a.at) (1 + b.of.at))) (below_has text_order.total e.0 es b.entry below b.has)

-- ---- a key of segments

same_pair : (t u : List ℕ) (q r : ℕ) → row_cmp (Text t ∷ number_value q ∷ []) (Text u ∷ number_value r ∷ []) ≡ Equal → (t ≡ u) × (q ≡ r)
same_pair t u q r tie =
    let a : IsDockPair (dock_key t q) = record { station = t; dock = q; is = refl } in
    let b : IsDockPair (dock_key u r) = record { station = u; dock = r; is = refl } in
    let keys : dock_key t q ≡ dock_key u r = docks.same (dock_key t q) (dock_key u r) (sym (docks.compares (dock_key t q) (dock_key u r) a b) ∙ tie) in
    (cc, cc)

-- ---- found one after the other

-- the segment is in the row of its key
pub record IsSegmentRow (rows : List Row) (id : List ℕ) (seq : ℕ) (g : SegmentRow) : Type 0 where
  pub has : Has rows (segment_row id seq g)
  pub good : IsStoredSegment id seq g

pub segment_found : (rows : List Row) (id : List ℕ) (seq : ℕ) (g : SegmentRow) → segment_at rows id seq ≡ Some g → IsSegmentRow rows id seq g
segment_found rows id seq g found = go (row_with 2 (Text id ∷ number_value seq ∷ []) rows) refl found where
  go : (o : Option Row) → row_with 2 (Text id ∷ number_value seq ∷ []) rows ≡ o → option_map (λ (e : List ℕ × ℕ × SegmentRow). e.2) (option_and_then segment_read o) ≡ Some g
      → IsSegmentRow rows id seq g
  go None e is = absurd cc
  go (Some r) e is = by (segment_read r) refl is where
    by : (o : Option (List ℕ × ℕ × SegmentRow)) → segment_read r ≡ o → option_map (λ (e : List ℕ × ℕ × SegmentRow). e.2) o ≡ Some g → IsSegmentRow rows id seq g
    by None q is = absurd cc
    by (Some x) q is =
        let spelled = segment_reading.sound r x q in
        let there = under_has 2 (Text id ∷ number_value seq ∷ []) rows r e in
        let tie : row_cmp (Text x.0 ∷ number_value x.1 ∷ []) (Text id ∷ number_value seq ∷ []) ≡ Equal = ap (λ (z : Row). row_cmp (take 2 z) (Text id ∷ number_value seq ∷ [])) (sym spelled.0) ∙ there.1 in
        let keys = same_pair x.0 id x.1 seq tie in
        let segment : x.2 ≡ g = cc in
        let row_is : r ≡ segment_row id seq g = spelled.0 ∙ (λ i. segment_row (keys.0 i) (keys.1 i) (segment i)) in
        record { has = subst (Has rows) row_is there.0; good = subst (λ (z : List ℕ × ℕ × SegmentRow). IsStoredSegment z.0 z.1 z.2) (λ i. (keys.0 i, keys.1 i, segment i)) spelled.1 }

pub found_segment : (rows : List Row) (id : List ℕ) (seq : ℕ) (g : SegmentRow) → Rises (by_key_total 2) rows → Has rows (segment_row id seq g) → IsStoredSegment id seq g
    → segment_at rows id seq ≡ Some g
found_segment rows id seq g up has good =
    let under : row_with 2 (Text id ∷ number_value seq ∷ []) rows ≡ Some (segment_row id seq g) = has_under 2 rows (segment_row id seq g) up has in
    ap (λ (o : Option Row). option_map (λ (e : List ℕ × ℕ × SegmentRow). e.2) (option_and_then segment_read o)) under
    ∙ ap (option_map (λ (e : List ℕ × ℕ × SegmentRow). e.2)) (segment_reading.full (id, seq, g) good)

-- an item of the segments found from a number on is the segment of its number
pub item_found : (rows : List Row) (id : List ℕ) (seq most i : ℕ) (g : SegmentRow) → item_at i (segments_from rows id seq most) ≡ Some g → segment_at rows id (seq + i) ≡ Some g
unfolding segments_from
item_found rows id seq zero i g found = absurd cc
item_found rows id seq (suc most) i g found = go (segment_at rows id seq) refl i found (item_found rows id (suc seq) most) where
  go : (o : Option SegmentRow) → segment_at rows id seq ≡ o → (i : ℕ) → item_at i (and_after o (segments_from rows id (suc seq) most)) ≡ Some g
      → ((j : ℕ) (h : SegmentRow) → item_at j (segments_from rows id (suc seq) most) ≡ Some h → segment_at rows id (suc seq + j) ≡ Some h) → segment_at rows id (seq + i) ≡ Some g
  go None e i is rest = absurd cc
  go (Some x) e zero is rest = let number : seq + 0 ≡ seq = omega arith in ap (segment_at rows id) number ∙ e ∙ is
  go (Some x) e (suc j) is rest = let number : seq + suc j ≡ suc seq + j = omega arith in ap (segment_at rows id) number ∙ rest j g is

pub few_found : (rows : List Row) (id : List ℕ) (seq most : ℕ) → length (segments_from rows id seq most) ≤ most
unfolding segments_from
few_found rows id seq zero = omega arith
few_found rows id seq (suc most) = go (segment_at rows id seq) (few_found rows id (suc seq) most) where
  go : (o : Option SegmentRow) → length (segments_from rows id (suc seq) most) ≤ most → length (and_after o (segments_from rows id (suc seq) most)) ≤ suc most
  go None rest = omega arith
  go (Some g) rest = omega (arith, rest)

-- segments of which each is found and behind which none is are those found
pub all_found : (rows : List Row) (id : List ℕ) (seq most : ℕ) (gs : List SegmentRow) → length gs ≤ most → ((i : ℕ) (g : SegmentRow) → item_at i gs ≡ Some g → segment_at rows id (seq + i) ≡ Some g)
    → segment_at rows id (seq + length gs) ≡ None → segments_from rows id seq most ≡ gs
unfolding segments_from
all_found rows id seq zero [] few each none = refl
all_found rows id seq zero (g ∷ gs) few each none = absurd (omega (arith, few))
all_found rows id seq (suc most) [] few each none =
    let number : seq ≡ seq + 0 = omega arith in
    ap (λ (o : Option SegmentRow). and_after o (segments_from rows id (suc seq) most)) (ap (segment_at rows id) number ∙ none)
all_found rows id seq (suc most) (g ∷ gs) few each none =
    let number : seq ≡ seq + 0 = omega arith in
    let here : segment_at rows id seq ≡ Some g = ap (segment_at rows id) number ∙ each zero g refl in
    let shift : (i : ℕ) → suc seq + i ≡ seq + suc i = λ i. omega arith in
    let rest = all_found rows id (suc seq) most gs (omega (arith, few)) (λ i x is. ap (segment_at rows id) (shift i) ∙ each (suc i) x is) (ap (segment_at rows id) (shift (length gs)) ∙ none) in
    ap (λ (o : Option SegmentRow). and_after o (segments_from rows id (suc seq) most)) here ∙ ap (λ (xs : List SegmentRow). g ∷ xs) rest

-- ---- the rows of an operator's plans are read back

item_none : {A : Type 0} (xs : List A) (x : A) → item_at (length xs) xs ≡ Some x → ⊥
item_none [] x found = absurd cc
item_none (y ∷ xs) x found = item_none xs x found

module _ (plans : FinMap text_cmp PlanRow) where
  rows : List Row
  rows = plans_segments (fin.entries plans)

  -- the segments of a plan that is there
  pub segments_back : (id : List ℕ) (p : PlanRow) → fin.get plans id ≡ Some p → length p.segments ≤ most_segments
      → ((i : ℕ) (g : SegmentRow) → item_at i p.segments ≡ Some g → IsStoredSegment id (1 + i) g) → segments_of (plans_segments (fin.entries plans)) id ≡ p.segments
  segments_back id p found few good =
      all_found (plans_segments (fin.entries plans)) id 1 most_segments p.segments few
      (λ i g is. found_segment (plans_segments (fin.entries plans)) id (1 + i) g up
      (has_among (fin.entries plans) (id, p) (segment_row id (1 + i) g) (get_has texts plans id p found) (has_row id 1 p.segments i (1 + i) g refl is)) (good i g is))
      (go (segment_at (plans_segments (fin.entries plans)) id (1 + length p.segments)) refl)
    where
      up : Rises (by_key_total 2) (plans_segments (fin.entries plans))
      up = segments_rise (fin.entries plans) (fin.entries_sorted plans)

      go : (o : Option SegmentRow) → segment_at (plans_segments (fin.entries plans)) id (1 + length p.segments) ≡ o → segment_at (plans_segments (fin.entries plans)) id (1 + length p.segments) ≡ None
      go None e = e
      go (Some g) e =
          let it = segment_found (plans_segments (fin.entries plans)) id (1 + length p.segments) g e in
          let among = row_among (fin.entries plans) (segment_row id (1 + length p.segments) g) it.has in
          let same : segment_row id (1 + length p.segments) g ≡ segment_row among.entry.0 (1 + among.of.at) among.of.segment = among.of.row_is in
          let keys = same_pair id among.entry.0 (1 + length p.segments) (1 + among.of.at) (ap (λ (z : Row). row_cmp (Text id ∷ number_value (1 + length p.segments) ∷ []) (take 2 z)) (sym same) ∙ itself) in
          let there : fin.get plans id ≡ Some among.entry.1 = ap (fin.get plans) keys.0 ∙ has_get texts.total plans among.entry among.has in
          let plan : p ≡ among.entry.1 = cc in
          let at : length p.segments ≡ among.of.at = let k = keys.1 in omega (arith, k) in
          let last : item_at (length p.segments) p.segments ≡ Some among.of.segment = ap₂ (λ (n : ℕ) (q : PlanRow). item_at n q.segments) at plan ∙ among.of.found in
          absurd (item_none p.segments among.of.segment last)
        where
          itself : row_cmp (Text id ∷ number_value (1 + length p.segments) ∷ []) (Text id ∷ number_value (1 + length p.segments) ∷ []) ≡ Equal
          itself = tied_itself (by_key_total 2) (segment_row id (1 + length p.segments) g)

-- ---- rows that are read are those of the plans

module _ (plans : FinMap text_cmp PlanRow) (rows : List Row) (up : Rises (by_key_total 2) rows) where
  -- the row is that of a segment of a plan that is there
  pub record IsOfPlan (r : Row) : Type 0 where
    pub id : List ℕ
    pub seq : ℕ
    pub segment : SegmentRow
    pub plan : PlanRow
    pub row_is : r ≡ segment_row id seq segment
    pub found : fin.get plans id ≡ Some plan
    pub segment_is : item_in seq plan.segments ≡ Some segment

  pub segments_are : ((r : Row) → Has rows r → IsOfPlan r) → ((id : List ℕ) (p : PlanRow) → fin.get plans id ≡ Some p → p.segments ≡ segments_of rows id) → rows ≡ plans_segments (fin.entries plans)
  segments_are each gathered = same_list (by_key_total 2) rows (plans_segments (fin.entries plans)) up (segments_rise (fin.entries plans) (fin.entries_sorted plans)) there back where
    there : (r : Row) → Has rows r → Has (plans_segments (fin.entries plans)) r
    there r has =
        let it = each r has in
        subst (Has (plans_segments (fin.entries plans))) (sym it.row_is)
        (has_among (fin.entries plans) (it.id, it.plan) (segment_row it.id it.seq it.segment) (get_has texts plans it.id it.plan it.found) (number it.seq it.segment_is))
      where
        number : (n : ℕ) → item_in n (each r has).plan.segments ≡ Some (each r has).segment
            → Has (segment_rows (each r has).id 1 (each r has).plan.segments) (segment_row (each r has).id n (each r has).segment)
        number zero is = absurd cc
        number (suc i) is = has_row (each r has).id 1 (each r has).plan.segments i (suc i) (each r has).segment (omega arith) is

    back : (r : Row) → Has (plans_segments (fin.entries plans)) r → Has rows r
    back r has =
        let among = row_among (fin.entries plans) r has in
        let found = has_get texts.total plans among.entry among.has in
        let of : item_at among.of.at (segments_of rows among.entry.0) ≡ Some among.of.segment = ap (item_at among.of.at) (sym (gathered among.entry.0 among.entry.1 found)) ∙ among.of.found in
        let it = segment_found rows among.entry.0 (1 + among.of.at) among.of.segment (item_found rows among.entry.0 1 most_segments among.of.at among.of.segment of) in
        subst (Has rows) (sym among.of.row_is) it.has
