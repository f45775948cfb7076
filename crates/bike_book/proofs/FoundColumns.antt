-- The rows found by columns that are no key: the segments of a plan, bicycles by their places, names in further languages, and a rider's open rental.
use Rattle.std.proofs.Common.{◌≡◌, inl, inr, ℕ, suc, List, [], ◌∷◌, ◌++◌, length, filter, find, Bool, true, false, cond, ◌&&◌, ◌||◌, T, Some, is_some, refl, sym, ap, ap₂, subst, ◌∙◌}
use Rattle.std.specs.Prelude.{map, slice_get, option_map, ◌==◌}
use Rattle.std.specs.List.{list_any}
use Rattle.std.specs.Ordering.{nat_cmp, eq_by_cmp, is_eq, ordering_then}
use Rattle.std.specs.declared.cmp.Ordering.{Ordering}
use Rattle.std.specs.declared.cmp.Ordering.TheVariants.{Less, Equal, Greater}
use Rattle.std.specs.Cmp.{eq_by_cmp_equiv, unsigned_tied}
use Rattle.std.specs.FinMap as fin
use Rattle.std.specs.FinMap.Entries as entries
use Rattle.std.proofs.lemmas.List.{length-map}
use Rattle.std.proofs.lemmas.Map.Text.{is_eq-slice_cmp}
use Rattle.sqlite_value.specs.declared.value.Value.TheVariants.{Text}
use Rattle.sqlite_value.specs.Order.{Row, column, row_cmp, value_cmp}
use Rattle.sqlite_value.proofs.OrderLemmas.{value_cmp-Text, value_cmp-Null, then-Equal}
use Rattle.sqlite_rules.specs.Lists.{Has}
use Rattle.bike_sql.specs.View.{rows_where}
use Rattle.bike_fields.specs.NameKinds.{kind_text}
use Rattle.bike_fields.specs.declared.name_kind.NameKind.{NameKind}
use Rattle.bike_fields.specs.Values.{SegmentRow}
use Rattle.bike_catalogue.specs.Rows.{PlanRow}
use Rattle.bike_ledger.specs.Entries.{Entry}
use Rattle.bike_fields.specs.Caller.{caller_text}
use Rattle.bike_operator.specs.declared.records.Place.{Place}
use Rattle.bike_operator.specs.declared.records.Place.TheVariants as place
use Rattle.bike_operator.specs.declared.records.Bike.{Bike}
use Rattle.bike_operator.specs.declared.records.Rental.{Rental}
use Rattle.bike_operator.specs.Operator.{Operator, AcceptedRequest, NameKey, text_cmp, texts_cmp, key_of, key_in, kept_under, Numbered, none_numbered}
use Rattle.bike_operator.specs.Counts.{is_dock, is_on_truck, is_for_order, is_open}
use Rattle.bike_operator.specs.Names.{part_at, is_name_of, further_names}
use Rattle.bike_laws.proofs.SingleSteps.MapLemmas.{text_order, texts_order, tied}
use Rattle.bike_book.specs.Rows.{number_value, bike_row, segment_row, name_row}
use Rattle.bike_book.specs.Stored.{numbers_from, with_numbers, segment_rows, plans_segments, stored_bike, stored_rental, stored_request, stored_name}
use Rattle.bike_book.specs.Found.{WhereListed, FoundByColumns, AreRowOf, segments_in, rows_open}
use Rattle.bike_book.proofs.MapRows.{both, below_has}
use Rattle.bike_book.proofs.Keys.{value_cmp-number_value}
use Rattle.bike_book.proofs.FoundKeys.{mapped_some}
use Rattle.bike_book.proofs.FoundNumbers.{finish_null, same_length}

-- ---- rows that pass are those of the records that pass

module _ {A : Type 0} (row : A → Row) where
  filtered : (pass : Row → Bool) (test : A → Bool) → ((x : A) → pass (row x) ≡ test x) → (xs : List A) → filter pass (map row xs) ≡ map row (filter test xs)
  filtered pass test same [] = refl
  filtered pass test same (x ∷ xs) = rw (same x) (go (test x) (filtered pass test same xs)) where
    go : (b : Bool) → filter pass (map row xs) ≡ map row (filter test xs)
        → cond b (row x ∷ filter pass (map row xs)) (filter pass (map row xs)) ≡ map row (cond b (x ∷ filter test xs) (filter test xs))
    go true rest = ap (λ (rs : List Row). row x ∷ rs) rest
    go false rest = rest

  first_found : (test : A → Bool) (xs : List A) → slice_get (map row (filter test xs)) 0 ≡ option_map row (find test xs)
  first_found test [] = refl
  first_found test (x ∷ xs) = go (test x) (first_found test xs) where
    go : (b : Bool) → slice_get (map row (filter test xs)) 0 ≡ option_map row (find test xs)
        → slice_get (map row (cond b (x ∷ filter test xs) (filter test xs))) 0 ≡ option_map row (cond b (Some x) (find test xs))
    go true rest = refl
    go false rest = rest

filtered_twice : {A : Type 0} (a b : A → Bool) (xs : List A) → filter b (filter a xs) ≡ filter (λ x. a x && b x) xs
filtered_twice a b [] = refl
filtered_twice a b (x ∷ xs) = go (a x) (filtered_twice a b xs) where
  inner : (t : Bool) → filter b (filter a xs) ≡ filter (λ y. a y && b y) xs
      → cond t (x ∷ filter b (filter a xs)) (filter b (filter a xs)) ≡ cond t (x ∷ filter (λ y. a y && b y) xs) (filter (λ y. a y && b y) xs)
  inner true rest = ap (λ zs. x ∷ zs) rest
  inner false rest = rest

  go : (t : Bool) → filter b (filter a xs) ≡ filter (λ y. a y && b y) xs
      → filter b (cond t (x ∷ filter a xs) (filter a xs)) ≡ cond (t && b x) (x ∷ filter (λ y. a y && b y) xs) (filter (λ y. a y && b y) xs)
  go true rest = inner (b x) rest
  go false rest = rest

-- ---- bicycles by their places

both_eq : (a b : Ordering) → is_eq (ordering_then a (ordering_then b Equal)) ≡ (is_eq a && is_eq b)
both_eq Less b = refl
both_eq Equal Less = refl
both_eq Equal Equal = refl
both_eq Equal Greater = refl
both_eq Greater b = refl

in_dock : (station : List ℕ) (n : ℕ) (bike : ℕ) (b : Bike) (p : Place)
    → is_eq (row_cmp (map (column (bike_row bike (record b { place = p }))) (3 ∷ 4 ∷ [])) (Text station ∷ number_value n ∷ [])) ≡ is_dock station n p
in_dock station n bike b (place.Dock at dock) =
    rw (value_cmp-Text at station, value_cmp-number_value dock n) (both_eq (text_cmp at station) (nat_cmp dock n) ∙ ap₂ (λ (x y : Bool). x && y) (is_eq-slice_cmp at station) (unsigned_tied dock n))
in_dock station n bike b (place.Rental rental) = rw (value_cmp-Null (Text station)) refl
in_dock station n bike b (place.Truck truck order) = rw (value_cmp-Null (Text station)) refl
in_dock station n bike b place.Depot = rw (value_cmp-Null (Text station)) refl

same_number : (a b : ℕ) → is_eq (row_cmp (number_value a ∷ []) (number_value b ∷ [])) ≡ (a == b)
same_number a b = ap is_eq (then-Equal (value_cmp (number_value a) (number_value b)) ∙ value_cmp-number_value a b) ∙ unsigned_tied a b

on_truck_at : (truck : ℕ) (bike : ℕ) (b : Bike) (p : Place) → is_eq (row_cmp (map (column (bike_row bike (record b { place = p }))) (6 ∷ [])) (number_value truck ∷ [])) ≡ is_on_truck truck p
on_truck_at truck bike b (place.Dock at dock) = rw (value_cmp-Null (number_value truck)) refl
on_truck_at truck bike b (place.Rental rental) = rw (value_cmp-Null (number_value truck)) refl
on_truck_at truck bike b (place.Truck on order) = same_number on truck
on_truck_at truck bike b place.Depot = rw (value_cmp-Null (number_value truck)) refl

for_order_at : (order : ℕ) (bike : ℕ) (b : Bike) (p : Place) → is_eq (row_cmp (map (column (bike_row bike (record b { place = p }))) (7 ∷ [])) (number_value order ∷ [])) ≡ is_for_order order p
for_order_at order bike b (place.Dock at dock) = rw (value_cmp-Null (number_value order)) refl
for_order_at order bike b (place.Rental rental) = rw (value_cmp-Null (number_value order)) refl
for_order_at order bike b (place.Truck truck for) = same_number for order
for_order_at order bike b place.Depot = rw (value_cmp-Null (number_value order)) refl

-- ---- names in further languages

of_kind : (kind : NameKind) (id : List ℕ) (key : NameKey) (name : List ℕ)
    → is_eq (row_cmp (map (column (name_row key name)) (0 ∷ 1 ∷ [])) (Text (kind_text kind) ∷ Text id ∷ [])) ≡ is_name_of kind id key
of_kind kind id key name =
    rw (value_cmp-Text (part_at key 0) (kind_text kind), value_cmp-Text (part_at key 1) id)
    (both_eq (text_cmp (part_at key 0) (kind_text kind)) (text_cmp (part_at key 1) id)
    ∙ ap₂ (λ (x y : Bool). x && y) (is_eq-slice_cmp (part_at key 0) (kind_text kind)) (is_eq-slice_cmp (part_at key 1) id))

names_found : (s : Operator) (kind : NameKind) (id : List ℕ) → length (rows_where (0 ∷ 1 ∷ []) (Text (kind_text kind) ∷ Text id ∷ []) (map stored_name (fin.entries s.more_names)))
    ≡ length (further_names s kind id)
names_found s kind id =
    ap length (filtered stored_name _ (λ e. is_name_of kind id e.0) (λ e. of_kind kind id e.0 e.1) (fin.entries s.more_names))
    ∙ same_length stored_name (filter (λ e. is_name_of kind id e.0) (fin.entries s.more_names))
    ∙ sym (length-map (filter (λ e. is_name_of kind id e.0) (fin.entries s.more_names)) (λ e. record { language = part_at e.0 2; name = e.1 }))

-- ---- segments of a plan

filter-append : {A : Type 0} (test : A → Bool) (xs ys : List A) → filter test (xs ++ ys) ≡ filter test xs ++ filter test ys
filter-append test [] ys = refl
filter-append test (x ∷ xs) ys = go (test x) (filter-append test xs ys) where
  go : (b : Bool) → filter test (xs ++ ys) ≡ filter test xs ++ filter test ys
      → cond b (x ∷ filter test (xs ++ ys)) (filter test (xs ++ ys)) ≡ cond b (x ∷ filter test xs) (filter test xs) ++ filter test ys
  go true rest = ap (λ zs. x ∷ zs) rest
  go false rest = rest

append-[] : {A : Type 0} (xs : List A) → xs ++ [] ≡ xs
append-[] [] = refl
append-[] (x ∷ xs) = ap (λ zs. x ∷ zs) (append-[] xs)

module _ (plan : List ℕ) where
  abbrev of_plan : List Row → List Row
  of_plan = rows_where (0 ∷ []) (Text plan ∷ [])

  tested : (id : List ℕ) (seq : ℕ) (g : SegmentRow) → is_eq (row_cmp (map (column (segment_row id seq g)) (0 ∷ [])) (Text plan ∷ [])) ≡ eq_by_cmp text_cmp plan id
  tested id seq g = ap is_eq (then-Equal (value_cmp (Text id) (Text plan)) ∙ value_cmp-Text id plan) ∙ (eq_by_cmp_equiv text_order.total).symm id plan

  all_of : (id : List ℕ) (seq : ℕ) (gs : List SegmentRow) → eq_by_cmp text_cmp plan id ≡ true → of_plan (segment_rows id seq gs) ≡ segment_rows id seq gs
  all_of id seq [] tie = refl
  all_of id seq (g ∷ gs) tie = let t = tested id seq g ∙ tie in rw t (ap (λ (rs : List Row). segment_row id seq g ∷ rs) (all_of id (suc seq) gs tie))

  none_of : (id : List ℕ) (seq : ℕ) (gs : List SegmentRow) → eq_by_cmp text_cmp plan id ≡ false → of_plan (segment_rows id seq gs) ≡ []
  none_of id seq [] apart = refl
  none_of id seq (g ∷ gs) apart = let t = tested id seq g ∙ apart in rw t (none_of id (suc seq) gs apart)

  none_among : (es : List (List ℕ × PlanRow)) → ((e : List ℕ × PlanRow) → Has es e → eq_by_cmp text_cmp plan e.0 ≡ false) → of_plan (plans_segments es) ≡ []
  none_among [] apart = refl
  none_among (e ∷ es) apart =
      filter-append _ (segment_rows e.0 1 e.1.segments) (plans_segments es)
      ∙ ap₂ (λ (xs ys : List Row). xs ++ ys) (none_of e.0 1 e.1.segments (apart e (inl refl))) (none_among es (λ x has. apart x (inr has)))

  among : (es : List (List ℕ × PlanRow)) → T (entries.is_sorted text_cmp es) → of_plan (plans_segments es) ≡ segments_in plan (entries.find text_cmp plan es)
  among [] sorted = refl
  among (e ∷ es) sorted =
      let parts = both (entries.below_all text_cmp e.0 es) (entries.is_sorted text_cmp es) sorted in
      filter-append _ (segment_rows e.0 1 e.1.segments) (plans_segments es) ∙ go parts.0 (among es parts.1) (eq_by_cmp text_cmp plan e.0) refl
    where
      go : T (entries.below_all text_cmp e.0 es) → of_plan (plans_segments es) ≡ segments_in plan (entries.find text_cmp plan es) → (b : Bool) → eq_by_cmp text_cmp plan e.0 ≡ b
          → of_plan (segment_rows e.0 1 e.1.segments) ++ of_plan (plans_segments es) ≡ segments_in plan (cond b (Some e.1) (entries.find text_cmp plan es))
      go below later true tie =
          let same : plan ≡ e.0 = tied text_order plan e.0 tie in
          let others = λ (x : List ℕ × PlanRow) (has : Has es x). ap (λ (id : List ℕ). eq_by_cmp text_cmp id x.0) same ∙ ap is_eq (below_has text_order.total e.0 es x below has) in
          ap₂ (λ (xs ys : List Row). xs ++ ys) (all_of e.0 1 e.1.segments tie) (none_among es others) ∙ append-[] (segment_rows e.0 1 e.1.segments)
          ∙ ap (λ (id : List ℕ). segment_rows id 1 e.1.segments) (sym same)
      go below later false apart = ap (λ (xs : List Row). xs ++ of_plan (plans_segments es)) (none_of e.0 1 e.1.segments apart) ∙ later

-- ---- a rider's open rental

module _ (es : List Entry) (rider : ℕ) (rs : Numbered Rental) where
  abbrev is_of_rider : ℕ × Rental → Bool
  is_of_rider e = e.1.rider == rider

  abbrev is_open_of_rider : ℕ × Rental → Bool
  is_open_of_rider e = (e.1.rider == rider) && is_open e.1

  rows_are : rows_open (rows_where (1 ∷ []) (number_value rider ∷ []) (map (stored_rental es) (with_numbers rs))) ≡ map (stored_rental es) (filter is_open_of_rider (with_numbers rs))
  rows_are =
      ap rows_open (filtered (stored_rental es) _ is_of_rider (λ e. same_number e.1.rider rider) (with_numbers rs))
      ∙ filtered (stored_rental es) _ (λ e. is_open e.1) (λ e. finish_null es e.0 e.1 e.1.closing) (filter is_of_rider (with_numbers rs))
      ∙ ap (map (stored_rental es)) (filtered_twice is_of_rider (λ e. is_open e.1) (with_numbers rs))

  open_found : slice_get (rows_open (rows_where (1 ∷ []) (number_value rider ∷ []) (map (stored_rental es) (with_numbers rs)))) 0
      ≡ option_map (stored_rental es) (find is_open_of_rider (with_numbers rs))
  open_found = ap (λ (xs : List Row). slice_get xs 0) rows_are ∙ first_found (stored_rental es) is_open_of_rider (with_numbers rs)

any_found : (rider : ℕ) (n : ℕ) (rs : List Rental) → is_some (find (is_open_of_rider [] rider none_numbered) (numbers_from n rs)) ≡ list_any (λ r. (r.rider == rider) && is_open r) rs
any_found rider n [] = refl
any_found rider n (r ∷ rs) = go ((r.rider == rider) && is_open r) (any_found rider (suc n) rs) where
  go : (b : Bool) → is_some (find (is_open_of_rider [] rider none_numbered) (numbers_from (suc n) rs)) ≡ list_any (λ z. (z.rider == rider) && is_open z) rs
      → is_some (cond b (Some (n, r)) (find (is_open_of_rider [] rider none_numbered) (numbers_from (suc n) rs))) ≡ (b || list_any (λ z. (z.rider == rider) && is_open z) rs)
  go true rest = refl
  go false rest = rest

-- ---- the request of a caller and key

module _ (caller key : List ℕ) where
  abbrev has_key : ℕ × AcceptedRequest → Bool
  has_key e = eq_by_cmp texts_cmp (key_of caller key) (key_in e.1.request)

  keyed : (e : ℕ × AcceptedRequest) → is_eq (row_cmp (map (column (stored_request e)) (2 ∷ 3 ∷ [])) (Text caller ∷ Text key ∷ [])) ≡ has_key e
  keyed e =
      rw (value_cmp-Text (caller_text e.1.request.caller) caller, value_cmp-Text e.1.request.key key)
      ((eq_by_cmp_equiv texts_order.total).symm (key_in e.1.request) (key_of caller key))

  kept_from : (n : ℕ) (h : List AcceptedRequest) → AreRowOf (kept_under (key_of caller key) h) (option_map stored_request (find has_key (numbers_from n h)))
  kept_from n [] = tt
  kept_from n (a ∷ h) = go (has_key (n, a)) (kept_from (suc n) h) where
    go : (b : Bool) → AreRowOf (kept_under (key_of caller key) h) (option_map stored_request (find has_key (numbers_from (suc n) h)))
        → AreRowOf (cond b (Some a) (kept_under (key_of caller key) h)) (option_map stored_request (cond b (Some (n, a)) (find has_key (numbers_from (suc n) h))))
    go true rest = record { number = n; row_is = refl }
    go false rest = rest

  kept_found : (h : Numbered AcceptedRequest)
      → AreRowOf (kept_under (key_of caller key) h.items) (slice_get (rows_where (2 ∷ 3 ∷ []) (Text caller ∷ Text key ∷ []) (map stored_request (with_numbers h))) 0)
  kept_found h =
      subst (AreRowOf (kept_under (key_of caller key) h.items))
      (sym (ap (λ (xs : List Row). slice_get xs 0) (filtered stored_request _ has_key keyed (with_numbers h)) ∙ first_found stored_request has_key (with_numbers h)))
      (kept_from (suc h.archived) h.items)

pub found_by_columns : WhereListed FoundByColumns
found_by_columns s m sound listing = record {
  segments = λ plan. among plan (fin.entries s.plans) (fin.entries_sorted s.plans) ∙ ap (segments_in plan) (sym (fin.get-entries s.plans plan));
  docked = λ station dock.
      ap (λ (xs : List Row). slice_get xs 0) (filtered stored_bike _ (λ e. is_dock station dock e.1.place) (λ e. in_dock station dock e.0 e.1 e.1.place) (fin.entries s.bikes))
      ∙ first_found stored_bike (λ e. is_dock station dock e.1.place) (fin.entries s.bikes);
  on_truck = λ truck.
      ap length (filtered stored_bike _ (λ e. is_on_truck truck e.1.place) (λ e. on_truck_at truck e.0 e.1 e.1.place) (fin.entries s.bikes))
      ∙ same_length stored_bike (filter (λ e. is_on_truck truck e.1.place) (fin.entries s.bikes));
  for_order = λ order.
      ap length (filtered stored_bike _ (λ e. is_for_order order e.1.place) (λ e. for_order_at order e.0 e.1 e.1.place) (fin.entries s.bikes))
      ∙ same_length stored_bike (filter (λ e. is_for_order order e.1.place) (fin.entries s.bikes));
  named = λ kind id. names_found s kind id;
  kept = λ caller key. kept_found caller key s.history;
  open_rental_is = λ rider. open_found s.entries.items rider s.rentals;
  riding =
      λ rider. ap is_some (open_found s.entries.items rider s.rentals) ∙ mapped_some (stored_rental s.entries.items) (find (is_open_of_rider s.entries.items rider s.rentals) (with_numbers s.rentals))
      ∙ any_found rider (suc s.rentals.archived) s.rentals.items;
}
