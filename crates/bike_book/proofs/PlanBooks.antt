-- The row changes that book a plan added: its own row, and one for each of its segments, which stand between those of other plans.
use Rattle.std.proofs.Common.{◌≡◌, ◌⊎◌, inl, inr, ℕ, suc, ◌≤◌, List, [], ◌∷◌, ◌++◌, append_assoc, T, cond, Some, None, refl, sym, ap, ◌∙◌, arith}
use Rattle.std.specs.Ordering.{nat_cmp, ordering_then, ordering_reverse, is_eq}
use Rattle.std.specs.declared.cmp.Ordering.{Ordering}
use Rattle.std.specs.declared.cmp.Ordering.TheVariants.{Less, Equal, Greater}
use Rattle.std.specs.Cmp.{eq_by_cmp_equiv, nat_cmp_is, Equal-is}
use Rattle.std.specs.FinMap as fin
use Rattle.std.specs.FinMap.Entries as entries
use Rattle.sqlite_value.specs.Order.{Row}
use Rattle.sqlite_value.proofs.OrderLemmas.{value_cmp-Text, then-Equal}
use Rattle.sqlite_rules.specs.Lists.{Has}
use Rattle.bike_sql.specs.View.{by_key, put_row_by}
use Rattle.bike_fields.specs.Values.{SegmentRow}
use Rattle.bike_catalogue.specs.Rows.{PlanRow}
use Rattle.bike_operator.specs.Operator.{text_cmp}
use Rattle.bike_laws.proofs.SingleSteps.CatalogueLemmas.{same_docks}
use Rattle.bike_laws.proofs.SingleSteps.MapLemmas.{text_order}
use Rattle.bike_accepted.specs.declared.change.Change.TheVariants as change
use Rattle.bike_accepted.specs.Effects.{after_change}
use Rattle.bike_book.specs.Tables.{Tables, Plans, Segments}
use Rattle.bike_book.specs.Rows.{plan_row, segment_row}
use Rattle.bike_book.specs.Stored.{stored_plan, segment_rows, plans_segments}
use Rattle.bike_book.specs.Writes.{Add, tables_after, tables_after_all}
use Rattle.bike_book.specs.Between.{tables_between}
use Rattle.bike_book.specs.ChangeLaws.{Everywhere, AddPlanLaw, segment_writes}
use Rattle.bike_book.proofs.MapRows.{both, below_has, put_entries}
use Rattle.bike_book.proofs.Keys.{texts, value_cmp-number_value}
use Rattle.bike_book.proofs.ListingLemmas.{listing_same}

-- ---- segments by their keys: the plan's id, then the place

segment_cmp : (t u : List ℕ) (q r : ℕ) (g h : SegmentRow) → by_key 2 (segment_row t q g) (segment_row u r h) ≡ ordering_then (text_cmp t u) (nat_cmp q r)
segment_cmp t u q r g h = rw (value_cmp-Text t u, value_cmp-number_value q r, then-Equal (nat_cmp q r)) refl

then_first : (a b : Ordering) → a ≡ Less → ordering_then a b ≡ Less
then_first a b e = ap (λ (x : Ordering). ordering_then x b) e

then_last : (a b : Ordering) → a ≡ Greater → ordering_then a b ≡ Greater
then_last a b e = ap (λ (x : Ordering). ordering_then x b) e

then_second : (a b : Ordering) → a ≡ Equal → ordering_then a b ≡ b
then_second a b e = ap (λ (x : Ordering). ordering_then x b) e

turned : (t u : List ℕ) → text_cmp t u ≡ Less → text_cmp u t ≡ Greater
turned t u e = text_order.total.antisymm u t ∙ ap ordering_reverse e

turned_back : (t u : List ℕ) → text_cmp t u ≡ Greater → text_cmp u t ≡ Less
turned_back t u e = text_order.total.antisymm u t ∙ ap ordering_reverse e

has_either : {X : Type 0} (xs ys : List X) (x : X) → Has (xs ++ ys) x → Has xs x ⊎ Has ys x
has_either [] ys x h = inr h
has_either (z ∷ xs) ys x (inl is) = inl (inl is)
has_either (z ∷ xs) ys x (inr later) = elim (has_either xs ys x later) [ inl l ↦ inl (inr l) | inr r ↦ inr r ]

-- ---- a row between those before it and those behind it

put_between : (ls bs : List Row) (r : Row) → ((a : Row) → Has ls a → by_key 2 a r ≡ Less) → ((b : Row) → Has bs b → by_key 2 b r ≡ Greater) → put_row_by 2 r (ls ++ bs) ≡ ls ++ r ∷ bs
put_between [] [] r before behind = refl
put_between [] (b ∷ bs) r before behind = let e : by_key 2 b r ≡ Greater = behind b (inl refl) in rw e refl
put_between (a ∷ ls) bs r before behind =
    let e : by_key 2 a r ≡ Less = before a (inl refl) in rw e (ap (λ (xs : List Row). a ∷ xs) (put_between ls bs r (λ x has. before x (inr has)) behind))

-- the rows of segments, added one after the other
abbrev segments_put : List ℕ → ℕ → List SegmentRow → List Row → List Row
segments_put id seq [] rows = rows
segments_put id seq (g ∷ gs) rows = segments_put id (suc seq) gs (put_row_by 2 (segment_row id seq g) rows)

segments_between : (id : List ℕ) (seq : ℕ) (gs : List SegmentRow) (ls bs : List Row) → ((a : Row) → Has ls a → (q : ℕ) (g : SegmentRow) → seq ≤ q → by_key 2 a (segment_row id q g) ≡ Less)
    → ((b : Row) → Has bs b → (q : ℕ) (g : SegmentRow) → by_key 2 b (segment_row id q g) ≡ Greater) → segments_put id seq gs (ls ++ bs) ≡ ls ++ (segment_rows id seq gs ++ bs)
segments_between id seq [] ls bs before behind = refl
segments_between id seq (g ∷ gs) ls bs before behind =
    let r = segment_row id seq g in
    let first : put_row_by 2 r (ls ++ bs) ≡ (ls ++ r ∷ []) ++ bs =
    put_between ls bs r (λ a has. before a has seq g (omega arith)) (λ b has. behind b has seq g) ∙ sym (append_assoc ls (r ∷ []) bs) in
    ap (segments_put id (suc seq) gs) first ∙ segments_between id (suc seq) gs (ls ++ r ∷ []) bs next behind ∙ append_assoc ls (r ∷ []) (segment_rows id (suc seq) gs ++ bs)
  where
    next : (a : Row) → Has (ls ++ segment_row id seq g ∷ []) a → (q : ℕ) (h : SegmentRow) → suc seq ≤ q → by_key 2 a (segment_row id q h) ≡ Less
    next a has q h low = go (has_either ls (segment_row id seq g ∷ []) a has) where
      go : Has ls a ⊎ Has (segment_row id seq g ∷ []) a → by_key 2 a (segment_row id q h) ≡ Less
      go (inl there) = before a there q h (omega (arith, low))
      go (inr (inl is)) =
          ap (λ (x : Row). by_key 2 x (segment_row id q h)) is ∙ segment_cmp id id seq q g h
          ∙ then_second (text_cmp id id) (nat_cmp seq q) ((Equal-is (text_cmp id id)).0 ((eq_by_cmp_equiv text_order.total).refl id)) ∙ sym (nat_cmp_is seq q Less (omega (arith, low)))
      go (inr (inr none)) = elim none [ ]

-- ---- the segments of other plans

pub record IsSegmentOf (id : List ℕ) (r : Row) : Type 0 where
  pub seq : ℕ
  pub segment : SegmentRow
  pub is : r ≡ segment_row id seq segment

pub segment_of : (id : List ℕ) (seq : ℕ) (gs : List SegmentRow) (r : Row) → Has (segment_rows id seq gs) r → IsSegmentOf id r
segment_of id seq [] r has = elim has [ ]
segment_of id seq (g ∷ gs) r (inl is) = record { seq = seq; segment = g; is = is }
segment_of id seq (g ∷ gs) r (inr later) = segment_of id (suc seq) gs r later

pub record IsSegmentAmong (es : List (List ℕ × PlanRow)) (r : Row) : Type 0 where
  pub entry : List ℕ × PlanRow
  pub has : Has es entry
  pub of : IsSegmentOf entry.0 r

pub segment_among : (es : List (List ℕ × PlanRow)) (r : Row) → Has (plans_segments es) r → IsSegmentAmong es r
segment_among [] r has = elim has [ ]
segment_among (e ∷ es) r has = go (has_either (segment_rows e.0 1 e.1.segments) (plans_segments es) r has) (segment_among es r) where
  go : Has (segment_rows e.0 1 e.1.segments) r ⊎ Has (plans_segments es) r → (Has (plans_segments es) r → IsSegmentAmong es r) → IsSegmentAmong (e ∷ es) r
  go (inl here) rest = record { entry = e; has = inl refl; of = segment_of e.0 1 e.1.segments r here }
  go (inr later) rest = let it = rest later in record { entry = it.entry; has = inr it.has; of = it.of }

-- ---- the segments of a plan added

module _ (id : List ℕ) (p : PlanRow) where
  behind : (es : List (List ℕ × PlanRow)) → ((e : List ℕ × PlanRow) → Has es e → text_cmp id e.0 ≡ Less) → (b : Row) → Has (plans_segments es) b
      → (q : ℕ) (g : SegmentRow) → by_key 2 b (segment_row id q g) ≡ Greater
  behind es above b has q g =
      let it = segment_among es b has in
      ap (λ (x : Row). by_key 2 x (segment_row id q g)) it.of.is ∙ segment_cmp it.entry.0 id it.of.seq q it.of.segment g
      ∙ then_last (text_cmp it.entry.0 id) (nat_cmp it.of.seq q) (turned id it.entry.0 (above it.entry it.has))

  -- a row before each segment of the plan
  abbrev IsBefore : Row → Type 0
  IsBefore a = (q : ℕ) (g : SegmentRow) → by_key 2 a (segment_row id q g) ≡ Less

  segments_added : (es : List (List ℕ × PlanRow)) → T (entries.is_sorted text_cmp es) → entries.find text_cmp id es ≡ None → (ls : List Row) → ((a : Row) → Has ls a → IsBefore a)
      → segments_put id 1 p.segments (ls ++ plans_segments es) ≡ ls ++ plans_segments (entries.put text_cmp id p es)
  segments_added [] sorted none ls before = segments_between id 1 p.segments ls [] (λ a has q g low. before a has q g) (λ b has. elim has [ ])
  segments_added (e ∷ es) sorted none ls before =
      let parts = both (entries.below_all text_cmp e.0 es) (entries.is_sorted text_cmp es) sorted in
      go parts.0 (λ rest_none more h. segments_added es parts.1 rest_none more h) (text_cmp id e.0) refl none
    where
      go : T (entries.below_all text_cmp e.0 es)
          → (entries.find text_cmp id es ≡ None → (more : List Row) → ((a : Row) → Has more a → IsBefore a)
          → segments_put id 1 p.segments (more ++ plans_segments es) ≡ more ++ plans_segments (entries.put text_cmp id p es))
          → (o : Ordering) → text_cmp id e.0 ≡ o → cond (is_eq o) (Some e.1) (entries.find text_cmp id es) ≡ None
          → segments_put id 1 p.segments (ls ++ plans_segments (e ∷ es)) ≡ ls ++ plans_segments (entries.by_order o ((id, p) ∷ e ∷ es) ((e.0, p) ∷ es) (e ∷ entries.put text_cmp id p es))
      go below later Less is free = segments_between id 1 p.segments ls (plans_segments (e ∷ es)) (λ a has q g low. before a has q g) (behind (e ∷ es) above) where
        above : (x : List ℕ × PlanRow) → Has (e ∷ es) x → text_cmp id x.0 ≡ Less
        above x (inl same) = ap (λ (z : List ℕ × PlanRow). text_cmp id z.0) same ∙ is
        above x (inr has) = text_order.total.trans id e.0 x.0 is (below_has text_order.total e.0 es x below has)
      go below later Equal is free = absurd cc
      go below later Greater is free =
          ap (segments_put id 1 p.segments) (sym (append_assoc ls (segment_rows e.0 1 e.1.segments) (plans_segments es)))
          ∙ later free (ls ++ segment_rows e.0 1 e.1.segments) next
          ∙ append_assoc ls (segment_rows e.0 1 e.1.segments) (plans_segments (entries.put text_cmp id p es))
        where
          next : (a : Row) → Has (ls ++ segment_rows e.0 1 e.1.segments) a → IsBefore a
          next a has q g = by (has_either ls (segment_rows e.0 1 e.1.segments) a has) where
            by : Has ls a ⊎ Has (segment_rows e.0 1 e.1.segments) a → by_key 2 a (segment_row id q g) ≡ Less
            by (inl there) = before a there q g
            by (inr own) =
                let it = segment_of e.0 1 e.1.segments a own in
                ap (λ (x : Row). by_key 2 x (segment_row id q g)) it.is ∙ segment_cmp e.0 id it.seq q it.segment g ∙ then_first (text_cmp e.0 id) (nat_cmp it.seq q) (turned_back id e.0 is)

-- the writes of segments add their rows one after the other
segments_written : (id : List ℕ) (seq : ℕ) (gs : List SegmentRow) (t : Tables) → tables_after_all (segment_writes id seq gs) t ≡ record t { segments = segments_put id seq gs t.segments }
segments_written id seq [] t = refl
segments_written id seq (g ∷ gs) t = segments_written id (suc seq) gs (tables_after (Add Segments (segment_row id seq g)) t)

pub add_plan : Everywhere AddPlanLaw
add_plan s m listing p free =
    let n = after_change (change.AddPlan p) s in
    let id = p.now.plan_id in
    let plans = put_entries texts stored_plan stored_plan (λ e. refl) (λ e. refl) s.plans id p.now tt (λ q y found. (tt, λ apart. refl)) in
    let segments =
    segments_added id p.now (fin.entries s.plans) (fin.entries_sorted s.plans) (sym (fin.get-entries s.plans id) ∙ free) [] (λ a has. elim has [ ])
    ∙ ap plans_segments (sym (fin.entries-insert text_order.total s.plans id p.now)) in
    let with_plan = tables_after (Add Plans (plan_row id p.now)) (tables_between s m) in
    record {
      leads =
          segments_written id 1 p.now.segments with_plan
          ∙ (λ i. record (tables_between s m) { plans = plans i; segments = segments i });
      listing = listing_same s n m (same_docks s n refl) refl refl refl listing;
    }
