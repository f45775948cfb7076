-- The first segment that isn't the next one of its plan is the first bad row of segments.
use Rattle.std.proofs.Common.{◌≡◌, inl, inr, ◌⊎◌, ℕ, zero, suc, ◌+◌, List, [], ◌∷◌, ◌++◌, append_assoc, length, map, Bool, true, false, cond, ◌&&◌, ◌||◌, Option, Some, None, is_some, refl, sym, ap}
use Rattle.std.proofs.Common.{◌∙◌, subst, arith}
use Rattle.std.specs.Prelude.{take, option_map, IfSome, ◌==◌}
use Rattle.std.specs.Option.{IsSomeAnd}
use Rattle.std.specs.FinMap as fin
use Rattle.std.specs.Str.{bytes_eq}
use Rattle.std.specs.declared.cmp.Ordering.TheVariants.{Less, Equal}
use Rattle.std.specs.Ordering.{ordering_reverse}
use Rattle.std.proofs.lemmas.Bool.{and_from, or_right, eqb-true, eq-eqb}
use Rattle.std.proofs.lemmas.Option.{same_Some}
use Rattle.std.proofs.lemmas.List.{take-append-le}
use Rattle.std.proofs.lemmas.Slice.Eq.{bytes_eq-Decides}
use Rattle.std.proofs.lemmas.Cmp.{tied_itself}
use Rattle.sqlite_value.specs.Order.{Row, column, row_cmp}
use Rattle.sqlite_value.proofs.OrderLemmas.{row_cmp_total}
use Rattle.sqlite_rules.specs.Lists.{Has}
use Rattle.bike_fields.proofs.Lengths.{both_hold}
use Rattle.bike_sql.specs.View.{by_key}
use Rattle.bike_sql.proofs.OrderLemmas.{Rises, all_has}
use Rattle.bike_sql.proofs.TreeLemmas.{by_key_total}
use Rattle.bike_fields.specs.Values.{SegmentRow}
use Rattle.bike_catalogue.specs.Rows.{PlanRow}
use Rattle.bike_operator.specs.Operator.{item_in}
use Rattle.bike_book.specs.Rows.{segment_row}
use Rattle.bike_book.specs.Tables.{Tables, Segments}
use Rattle.bike_readings.specs.Readings.{segment_read}
use Rattle.bike_readings.proofs.CatalogueRows.{segment_reading}
use Rattle.bike_readings.specs.ReadOff.{operator_of, segment_at, segments_of}
use Rattle.bike_readings.specs.Demands.{IsGoodSegment}
use Rattle.bike_readings.specs.Rules.{AreInOrder, IsGoodAt, IsGoodKey, row_under, rows_below}
use Rattle.bike_readings.proofs.Places.{has_under, under_has}
use Rattle.bike_readings.proofs.RowRules.{some_and, some_with}
use Rattle.bike_readings.proofs.Segments.{segment_found, found_segment, item_found}
use Rattle.bike_judges.specs.Lines.{part}
use Rattle.bike_judges.specs.Verdicts.{IsTableVerdict}
use Rattle.bike_catalogue_rules.specs.Tests.{has_plan, segment_name, comes_after, is_next, first_astray}
use Rattle.bike_catalogue_rules.proofs.Partners.{own_part}
use Rattle.bike_catalogue_rules.proofs.PlanLines.{plan_line, has_plan_is, plan_segments}
use Rattle.bike_catalogue_rules.proofs.SegmentOrder.{first_numbered, next_numbered, item_before, below_next, none_between, stands_before, last_or_below}
use Rattle.bike_catalogue_rules.proofs.Widths.{AreWide}

there : {A : Type 0} (o : Option A) → is_some o ≡ true → (x : A) × (o ≡ Some x)
there None e = absurd cc
there (Some x) e = (x, refl)

module _ (t : Tables) (up : AreInOrder t) (wide : AreWide t) where
  abbrev rows : List Row
  rows = t.segments

  abbrev line : Row → Row
  line = plan_line t 0

  abbrev name : Row → Option (List ℕ × ℕ)
  name r = segment_name (line r)

  -- ---- a segment of a plan that is there

  record IsNamed (r : Row) (e : List ℕ × ℕ) : Type 0 where
    segment : SegmentRow
    read_is : segment_read r ≡ Some (e.0, e.1, segment)
    plan : PlanRow
    found : fin.get (operator_of t).plans e.0 ≡ Some plan

  own : (r : Row) → Has rows r → part 0 6 (line r) ≡ r
  own r has = own_part 6 r _ (wide.segments r has)

  plan_there : (r : Row) (x : List ℕ × ℕ × SegmentRow) → Has rows r → segment_read r ≡ Some x → has_plan 6 (line r) ≡ is_some (fin.get (operator_of t).plans x.0)
  plan_there r x has e = has_plan_is t up wide r 0 x.0 (wide.segments r has) (ap (λ (z : Row). column z 0) (segment_reading.sound r x e).0)

  named : (r : Row) (e : List ℕ × ℕ) → Has rows r → name r ≡ Some e → IsNamed r e
  named r e has is = go (has_plan 6 (line r)) refl is where
    go : (b : Bool) → has_plan 6 (line r) ≡ b → cond b (option_map (λ (x : List ℕ × ℕ × SegmentRow). (x.0, x.1)) (segment_read (part 0 6 (line r)))) None ≡ Some e → IsNamed r e
    go false h is = absurd cc
    go true h is = by (segment_read r) refl (ap (λ (z : Row). option_map (λ (x : List ℕ × ℕ × SegmentRow). (x.0, x.1)) (segment_read z)) (sym (own r has)) ∙ is) where
      by : (o : Option (List ℕ × ℕ × SegmentRow)) → segment_read r ≡ o → option_map (λ (x : List ℕ × ℕ × SegmentRow). (x.0, x.1)) o ≡ Some e → IsNamed r e
      by None q is = absurd cc
      by (Some x) q is =
          let plan = there (fin.get (operator_of t).plans x.0) (sym (plan_there r x has q) ∙ h) in
          let here : IsNamed r (x.0, x.1) = record { segment = x.2; read_is = q; plan = plan.0; found = plan.1 } in
          subst (IsNamed r) (same_Some (x.0, x.1) e is) here

  name_is : (r : Row) (id : List ℕ) (seq : ℕ) (g : SegmentRow) (p : PlanRow) → Has rows r → segment_read r ≡ Some (id, seq, g) → fin.get (operator_of t).plans id ≡ Some p → name r ≡ Some (id, seq)
  name_is r id seq g p has read found =
      let h : has_plan 6 (line r) ≡ true = plan_there r (id, seq, g) has read ∙ ap is_some found in
      ap (λ (b : Bool). cond b (option_map (λ (x : List ℕ × ℕ × SegmentRow). (x.0, x.1)) (segment_read (part 0 6 (line r)))) None) h
      ∙ ap (λ (z : Row). option_map (λ (x : List ℕ × ℕ × SegmentRow). (x.0, x.1)) (segment_read z)) (own r has) ∙ ap (option_map (λ (x : List ℕ × ℕ × SegmentRow). (x.0, x.1))) read

  -- ---- a good segment

  record IsPlaced (r : Row) : Type 0 where
    id : List ℕ
    seq : ℕ
    segment : SegmentRow
    plan : PlanRow
    read_is : segment_read r ≡ Some (id, seq, segment)
    found : fin.get (operator_of t).plans id ≡ Some plan
    segment_is : item_in seq (segments_of rows id) ≡ Some segment

  placed_good : (below : ℕ) (r : Row) → IsPlaced r → IsSomeAnd (segment_read r) (IsGoodSegment (operator_of t) below)
  placed_good below r it =
      some_and (IsGoodSegment (operator_of t) below) (segment_read r) (it.id, it.seq, it.segment) it.read_is
      (record { plan = it.plan; found = it.found; segment_is = ap (item_in it.seq) (plan_segments t up it.id it.plan it.found) ∙ it.segment_is })

  good_placed : (below : ℕ) (r : Row) → IsSomeAnd (segment_read r) (IsGoodSegment (operator_of t) below) → IsPlaced r
  good_placed below r good =
      let it = some_with (IsGoodSegment (operator_of t) below) (segment_read r) good in
      record {
        id = it.value.0;
        seq = it.value.1;
        segment = it.value.2;
        plan = it.fact.plan;
        read_is = it.value_is;
        found = it.fact.found;
        segment_is = ap (item_in it.value.1) (sym (plan_segments t up it.value.0 it.fact.plan it.fact.found)) ∙ it.fact.segment_is;
      }

  placed_name : (r : Row) (has : Has rows r) (it : IsPlaced r) → name r ≡ Some (it.id, it.seq)
  placed_name r has it = name_is r it.id it.seq it.segment it.plan has it.read_is it.found

  -- the segment of this number is that of the row
  at_number : (r : Row) (id : List ℕ) (seq : ℕ) (g : SegmentRow) → Has rows r → segment_read r ≡ Some (id, seq, g) → segment_at rows id seq ≡ Some g
  at_number r id seq g has read =
      let law = segment_reading.sound r (id, seq, g) read in
      found_segment rows id seq g (up Segments) (subst (Has rows) law.0 has) law.1

  -- ---- one more row

  -- the name of the last row of these
  abbrev IsLast : List Row → Option (List ℕ × ℕ) → Type 0
  IsLast before b = ((before ≡ []) × (b ≡ None)) ⊎ ((front : List Row) × (r : Row) × (before ≡ front ++ r ∷ []) × (b ≡ name r))

  has_last : (front : List Row) (r : Row) → Has (front ++ r ∷ []) r
  has_last [] r = inl refl
  has_last (z ∷ front) r = inr (has_last front r)

  module _ (before : List Row) (r : Row) (rest : List Row) (is : rows ≡ before ++ r ∷ rest) (placed : (x : Row) → Has before x → IsPlaced x) (b : Option (List ℕ × ℕ)) (last : IsLast before b) where
    rising : Rises (by_key_total 2) (before ++ r ∷ rest)
    rising = subst (Rises (by_key_total 2)) is (up Segments)

    within : (xs : List Row) (x : Row) → Has xs x → Has (xs ++ r ∷ rest) x
    within [] x h = elim h [ ]
    within (z ∷ xs) x (inl same) = inl same
    within (z ∷ xs) x (inr later) = inr (within xs x later)

    has_before : (x : Row) → Has before x → Has rows x
    has_before x h = subst (λ (xs : List Row). Has xs x) (sym is) (within before x h)

    middle : (xs : List Row) → Has (xs ++ r ∷ rest) r
    middle [] = inl refl
    middle (z ∷ xs) = inr (middle xs)

    has_row : Has rows r
    has_row = subst (λ (xs : List Row). Has xs r) (sym is) (middle before)

    -- the row before is the one of this name, and is good
    after : (e : List ℕ × ℕ) → b ≡ Some e → (x : SegmentRow) × (item_in e.1 (segments_of rows e.0) ≡ Some x)
    after e named_e = go last where
      go : IsLast before b → (x : SegmentRow) × (item_in e.1 (segments_of rows e.0) ≡ Some x)
      go (inl none) = let never : ◌≡◌ {A = Option (List ℕ × ℕ)} None (Some e) = sym none.1 ∙ named_e in absurd cc
      go (inr (front, x, at, names)) =
          let has : Has before x = subst (λ (xs : List Row). Has xs x) (sym at) (has_last front x) in
          let it = placed x has in
          let same : (it.id, it.seq) ≡ e = same_Some (it.id, it.seq) e (sym (placed_name x (has_before x has) it) ∙ sym names ∙ named_e) in
          (it.segment, subst (λ (z : List ℕ × ℕ). item_in z.1 (segments_of rows z.0) ≡ Some it.segment) same it.segment_is)

    next_is : (e : List ℕ × ℕ) (it : IsNamed r e) → ((e.1 == 1) || comes_after b e) ≡ true → item_in e.1 (segments_of rows e.0) ≡ Some it.segment
    next_is e it next = go (e.1 == 1) refl next where
      at : segment_at rows e.0 e.1 ≡ Some it.segment
      at = at_number r e.0 e.1 it.segment has_row it.read_is

      first : (e.1 == 1) ≡ true → item_in e.1 (segments_of rows e.0) ≡ Some it.segment
      first one =
          let number : e.1 ≡ 1 = eqb-true e.1 1 one in
          ap (λ (n : ℕ). item_in n (segments_of rows e.0)) number ∙ first_numbered rows e.0 it.segment (ap (segment_at rows e.0) (sym number) ∙ at)

      later : (d : List ℕ × ℕ) → b ≡ Some d → (bytes_eq d.0 e.0 && (d.1 + 1 == e.1)) ≡ true → item_in e.1 (segments_of rows e.0) ≡ Some it.segment
      later d is same =
          let both = both_hold (bytes_eq d.0 e.0) (d.1 + 1 == e.1) same in
          let plan : d.0 ≡ e.0 = (bytes_eq-Decides d.0 e.0).0 both.0 in
          let one_more : d.1 + 1 ≡ e.1 = eqb-true (d.1 + 1) e.1 both.1 in
          let number : suc d.1 ≡ e.1 = omega (arith, one_more) in
          let x = after d is in
          let few = (segment_reading.sound r (e.0, e.1, it.segment) it.read_is).1.good_seq.1 in
          ap (λ (n : ℕ). item_in n (segments_of rows e.0)) (sym number)
          ∙ next_numbered rows e.0 d.1 x.0 it.segment (ap (λ (z : List ℕ). item_in d.1 (segments_of rows z)) (sym plan) ∙ x.1) (omega (arith, number, few)) (ap (segment_at rows e.0) number ∙ at)

      by : (o : Option (List ℕ × ℕ)) → b ≡ o → comes_after o e ≡ true → item_in e.1 (segments_of rows e.0) ≡ Some it.segment
      by None none h = absurd cc
      by (Some d) some h = later d some h

      go : (c : Bool) → (e.1 == 1) ≡ c → (c || comes_after b e) ≡ true → item_in e.1 (segments_of rows e.0) ≡ Some it.segment
      go true one h = first one
      go false one h = by b refl h

    next_placed : is_next b (name r) ≡ true → IsPlaced r
    next_placed h = go (name r) refl h where
      go : (o : Option (List ℕ × ℕ)) → name r ≡ o → is_next b o ≡ true → IsPlaced r
      go None e h = absurd cc
      go (Some e) names h =
          let it = named r e has_row names in
          record { id = e.0; seq = e.1; segment = it.segment; plan = it.plan; read_is = it.read_is; found = it.found; segment_is = next_is e it h }

    -- the row of the number before stands just before
    just_before : (id : List ℕ) (n : ℕ) (g : SegmentRow) → segment_read r ≡ Some (id, suc n, g) → (x : SegmentRow) → segment_at rows id n ≡ Some x → (p : PlanRow)
        → fin.get (operator_of t).plans id ≡ Some p → b ≡ Some (id, n)
    just_before id n g read x at p found = go last where
      row_is : r ≡ segment_row id (suc n) g
      row_is = (segment_reading.sound r (id, suc n, g) read).0

      q : Row
      q = segment_row id n x

      has_q : Has before (segment_row id n x)
      has_q =
          stands_before (by_key_total 2) before r rest (segment_row id n x) rising (subst (λ (xs : List Row). Has xs (segment_row id n x)) is (segment_found rows id n x at).has)
          (ap (by_key 2 (segment_row id n x)) row_is ∙ below_next id n x g)

      go : IsLast before b → b ≡ Some (id, n)
      go (inl none) = absurd (let h : Has [] (segment_row id n x) = subst (λ (xs : List Row). Has xs (segment_row id n x)) none.0 has_q in elim h [ ])
      go (inr (front, y, here, names)) = by (last_or_below (by_key_total 2) front y (r ∷ rest) (segment_row id n x) rising_y (subst (λ (xs : List Row). Has xs (segment_row id n x)) here has_q)) where
        rising_y : Rises (by_key_total 2) (front ++ y ∷ r ∷ rest)
        rising_y = subst (Rises (by_key_total 2)) (ap (λ (xs : List Row). xs ++ r ∷ rest) here ∙ append_assoc front (y ∷ []) (r ∷ rest)) rising

        has_y : Has before y
        has_y = subst (λ (xs : List Row). Has xs y) (sym here) (has_last front y)

        below_r : (xs : List Row) → Rises (by_key_total 2) (xs ++ y ∷ r ∷ rest) → by_key 2 y r ≡ Less
        below_r [] rise = rise.0.0
        below_r (z ∷ xs) rise = below_r xs rise.1

        by : (segment_row id n x ≡ y) ⊎ (by_key 2 (segment_row id n x) y ≡ Less) → b ≡ Some (id, n)
        by (inl same) =
            names ∙ name_is y id n x p (has_before y has_y) (ap segment_read (sym same) ∙ segment_reading.full (id, n, x) (segment_found rows id n x at).good) found
        by (inr low) =
            let it = placed y has_y in
            let y_is = (segment_reading.sound y (it.id, it.seq, it.segment) it.read_is).0 in
            absurd (none_between id it.id n it.seq x it.segment g (ap (by_key 2 (segment_row id n x)) (sym y_is) ∙ low)
            (ap (λ (z : Row). by_key 2 z (segment_row id (suc n) g)) (sym y_is) ∙ ap (by_key 2 y) (sym row_is) ∙ below_r front rising_y))

    placed_next : IsPlaced r → is_next b (name r) ≡ true
    placed_next it = ap (is_next b) (placed_name r has_row it) ∙ go it.seq it.read_is it.segment_is where
      one_more : (n : ℕ) → n + 1 ≡ suc n
      one_more n = omega arith

      go : (seq : ℕ) → segment_read r ≡ Some (it.id, seq, it.segment) → item_in seq (segments_of rows it.id) ≡ Some it.segment → ((seq == 1) || comes_after b (it.id, seq)) ≡ true
      go zero read is = absurd cc
      go (suc zero) read is = refl
      go (suc (suc i)) read is =
          let x = item_before i (segments_of rows it.id) it.segment is in
          let number : suc i ≡ 1 + i = omega arith in
          let at : segment_at rows it.id (suc i) ≡ Some x.0 = ap (segment_at rows it.id) number ∙ item_found rows it.id 1 8 i x.0 x.1 in
          let here : b ≡ Some (it.id, suc i) = just_before it.id (suc i) it.segment read x.0 at it.plan it.found in
          or_right (suc (suc i) == 1) (comes_after b (it.id, suc (suc i)))
          (ap (λ (o : Option (List ℕ × ℕ)). comes_after o (it.id, suc (suc i))) here
          ∙ and_from (bytes_eq it.id it.id) (suc i + 1 == suc (suc i)) ((bytes_eq-Decides it.id it.id).1 refl) (eq-eqb (suc i + 1) (suc (suc i)) (one_more (suc i))))

  -- ---- all rows

  record BadRow (among : List Row) (bad : Row) : Type 0 where
    row : Row
    has : Has among row
    fails : IsPlaced row → ⊥
    bad_is : bad ≡ take 2 row
    earlier : (x : Row) → Has among x → by_key 2 x row ≡ Less → IsPlaced x

  abbrev Came : List Row → Option Row → Type 0
  Came among None = (x : Row) → Has among x → IsPlaced x
  Came among (Some bad) = BadRow among bad

  one_more_row : (r : Row) (rest : List Row) (v : Option Row) → IsPlaced r → Came rest v → Came (r ∷ rest) v
  one_more_row r rest None it came = λ x h. elim h [ inl same ↦ subst IsPlaced (sym same) it | inr later ↦ came x later ]
  one_more_row r rest (Some bad) it came = record {
    row = came.row;
    has = inr came.has;
    fails = came.fails;
    bad_is = came.bad_is;
    earlier = λ x h low. elim h [ inl same ↦ subst IsPlaced (sym same) it | inr later ↦ came.earlier x later low ];
  }

  first_row : (r : Row) (rest : List Row) → Rises (by_key_total 2) (r ∷ rest) → (IsPlaced r → ⊥) → (bad : Row) → bad ≡ take 2 r → Came (r ∷ rest) (Some bad)
  first_row r rest rise fails bad is = record {
    row = r;
    has = inl refl;
    fails = fails;
    bad_is = is;
    earlier = λ x h low. elim h [
      | inl same ↦ absurd (let tie : by_key 2 r r ≡ Equal = tied_itself (by_key_total 2) r in let below : by_key 2 r r ≡ Less = subst (λ (z : Row). by_key 2 z r ≡ Less) same low in cc)
      | inr later ↦ absurd (
          let above : by_key 2 r x ≡ Less = all_has (λ y. by_key 2 r y ≡ Less) rest x rise.0 later in
          let back = (by_key_total 2).antisymm x r ∙ ap ordering_reverse above in
          cc
          )
    ];
  }

  rest_rises : (before rest : List Row) → Rises (by_key_total 2) (before ++ rest) → Rises (by_key_total 2) rest
  rest_rises [] rest rise = rise
  rest_rises (x ∷ before) rest rise = rest_rises before rest rise.1

  -- the key of a line is that of its row
  line_key : (r : Row) → length r ≡ 6 → take 2 (line r) ≡ take 2 r
  line_key r six = take-append-le 2 r _ (omega (arith, six))

  each : (before rest : List Row) → rows ≡ before ++ rest → ((x : Row) → Has before x → IsPlaced x) → (b : Option (List ℕ × ℕ)) → IsLast before b → (v : Option Row)
      → first_astray b (map line rest) ≡ v → Came rest v
  unfolding first_astray
  each before [] is placed b last v e = subst (Came []) e (λ x h. elim h [ ])
  each before (r ∷ rest) is placed b last v e =
      go (is_next b (name r)) refl e (λ all. each (before ++ r ∷ []) rest (is ∙ sym (append_assoc before (r ∷ []) rest)) all (name r) (inr (before, r, refl, refl)) v)
    where
      has : Has rows r
      has = has_row before r rest is placed b last

      joined : (xs : List Row) (x : Row) → Has (xs ++ r ∷ []) x → Has xs x ⊎ (x ≡ r)
      joined [] x (inl same) = inr same
      joined [] x (inr none) = elim none [ ]
      joined (z ∷ xs) x (inl same) = inl (inl same)
      joined (z ∷ xs) x (inr later) = elim (joined xs x later) [ inl l ↦ inl (inr l) | inr s ↦ inr s ]

      go : (c : Bool) → is_next b (name r) ≡ c → cond c (first_astray (name r) (map line rest)) (Some (take 2 (line r))) ≡ v
          → (((x : Row) → Has (before ++ r ∷ []) x → IsPlaced x) → first_astray (name r) (map line rest) ≡ v → Came rest v) → Came (r ∷ rest) v
      go true next more later =
          let it : IsPlaced r = next_placed before r rest is placed b last next in
          one_more_row r rest v it (later (λ x h. elim (joined before x h) [ inl early ↦ placed x early | inr same ↦ subst IsPlaced (sym same) it ]) more)
      go false astray more later =
          let rise : Rises (by_key_total 2) (r ∷ rest) = rest_rises before (r ∷ rest) (subst (Rises (by_key_total 2)) is (up Segments)) in
          subst (Came (r ∷ rest)) more
          (first_row r rest rise (λ it. let next : is_next b (name r) ≡ true = placed_next before r rest is placed b last it in cc) (take 2 (line r)) (line_key r (wide.segments r has)))

  -- ---- the verdict

  good_under : (other : Row) → ((r : Row) → Has rows r → row_cmp (take 2 r) other ≡ Equal → IsPlaced r) → IsGoodKey t Segments other
  good_under other all = go (row_under t Segments other) refl where
    go : (o : Option Row) → row_under t Segments other ≡ o → IsGoodAt t (operator_of t) Segments other (rows_below t Segments other) o
    go None e = tt
    go (Some r) e = let under = under_has 2 other rows r e in placed_good (rows_below t Segments other) r (all r under.0 under.1)

  verdict_is : (v : Option Row) → Came rows v → IsTableVerdict t Segments v
  verdict_is None came = λ other. good_under other (λ r has tie. came r has)
  verdict_is (Some bad) came =
      let found : row_under t Segments bad ≡ Some came.row = ap (row_under t Segments) came.bad_is ∙ has_under 2 rows came.row (up Segments) came.has in
      record {
        bad = λ good. came.fails (good_placed (rows_below t Segments bad) came.row (subst (IsGoodAt t (operator_of t) Segments bad (rows_below t Segments bad)) found good));
        own = subst (λ (o : Option Row). IfSome o (λ row. take 2 row ≡ bad)) (sym found) (sym came.bad_is);
        before = λ other low. good_under other (λ r has tie.
            came.earlier r has (row_cmp_total.congr (take 2 r) other (take 2 came.row) tie ∙ ap (row_cmp other) (sym came.bad_is) ∙ low));
      }

  -- THE VERDICT on segments
  pub segments_verdict : (verdict : Option Row) → first_astray None (map (plan_line t 0) t.segments) ≡ verdict → IsTableVerdict t Segments verdict
  segments_verdict verdict is = verdict_is verdict (each [] rows refl (λ x h. elim h [ ]) None (inl (refl, refl)) verdict is)
