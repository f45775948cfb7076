-- The row changes that book a name set, in the own record of what has it or in a further language, and one that is removed.
use Rattle.std.proofs.Common.{◌≡◌, ℕ, pos, List, [], ◌∷◌, ◌++◌, T, cond, true, inl, inr, Option, Some, None, refl, sym, ap, ◌∙◌, arith}
use Rattle.std.specs.Prelude.{option_map, is_some}
use Rattle.std.specs.Ordering.{is_eq}
use Rattle.std.specs.declared.cmp.Ordering.{Ordering}
use Rattle.std.specs.declared.cmp.Ordering.TheVariants.{Less, Equal, Greater}
use Rattle.std.specs.FinMap as fin
use Rattle.std.specs.FinMap.{FinMap}
use Rattle.std.specs.FinMap.Entries as entries
use Rattle.sqlite_value.specs.declared.value.Value.TheVariants.{Int, Text}
use Rattle.sqlite_rules.specs.Lists.{Has}
use Rattle.bike_sql.specs.View.{row_with, rows_after_update, with_values}
use Rattle.bike_sql.proofs.SetLaw.{updated_there}
use Rattle.bike_fields.specs.declared.name_kind.NameKind.TheVariants as named
use Rattle.bike_fields.specs.Values.{SegmentRow}
use Rattle.bike_catalogue.specs.Rows.{PlanRow, TypeRow, RegionRow, SystemRow}
use Rattle.bike_operator.specs.Operator.{Station, text_cmp, name_key}
use Rattle.bike_operator.specs.Steps.{found_changed, key_changed, system_named}
use Rattle.bike_laws.proofs.SingleSteps.CatalogueLemmas.{same_docks, docks_changed}
use Rattle.bike_laws.proofs.SingleSteps.MapLemmas.{text_order}
use Rattle.bike_accepted.specs.declared.change.Change.TheVariants as change
use Rattle.bike_accepted.specs.Effects.{after_change}
use Rattle.bike_book.specs.Rows.{system_row}
use Rattle.bike_book.specs.Stored.{system_rows, segment_rows, plans_segments, stored_plan, stored_type, stored_region, stored_name}
use Rattle.bike_book.specs.Between.{counted_station, tables_between}
use Rattle.bike_book.specs.ChangeLaws.{Everywhere, SetOwnNameLaw, SetFurtherNameLaw, RemoveNameLaw}
use Rattle.bike_book.proofs.MapRows.{both, below_has, changed_entries, set_entries, removed_entries}
use Rattle.bike_book.proofs.Keys.{texts, triples, name_triple}
use Rattle.bike_book.proofs.ListingLemmas.{listing_same}
use Rattle.bike_book.proofs.CatalogueBooks.{one_key, system_put, named_triple}

-- ---- the segments of a plan that changes, and keeps them

none_above : (id : List ℕ) (es : List (List ℕ × PlanRow)) → ((e : List ℕ × PlanRow) → Has es e → text_cmp id e.0 ≡ Less) → entries.find text_cmp id es ≡ None
none_above id [] above = refl
none_above id (e ∷ es) above =
    ap (λ (o : Ordering). cond (is_eq o) (Some e.1) (entries.find text_cmp id es)) (above e (inl refl)) ∙ none_above id es (λ x has. above x (inr has))

same_plan : (p q : PlanRow) → Some p ≡ Some q → p ≡ q
same_plan p q e = cc

module _ (id : List ℕ) (was becomes : PlanRow) (kept : becomes.segments ≡ was.segments) where
  segments_put : (es : List (List ℕ × PlanRow)) → T (entries.is_sorted text_cmp es) → entries.find text_cmp id es ≡ Some was
      → plans_segments (entries.put text_cmp id becomes es) ≡ plans_segments es
  segments_put [] sorted found = absurd cc
  segments_put (e ∷ es) sorted found =
      let parts = both (entries.below_all text_cmp e.0 es) (entries.is_sorted text_cmp es) sorted in
      go parts.0 (segments_put es parts.1) (text_cmp id e.0) refl found
    where
      go : T (entries.below_all text_cmp e.0 es) → (entries.find text_cmp id es ≡ Some was → plans_segments (entries.put text_cmp id becomes es) ≡ plans_segments es)
          → (o : Ordering) → text_cmp id e.0 ≡ o → cond (is_eq o) (Some e.1) (entries.find text_cmp id es) ≡ Some was
          → plans_segments (entries.by_order o ((id, becomes) ∷ e ∷ es) ((e.0, becomes) ∷ es) (e ∷ entries.put text_cmp id becomes es)) ≡ plans_segments (e ∷ es)
      go below later Less is found =
          let none = none_above id es (λ x has. text_order.total.trans id e.0 x.0 is (below_has text_order.total e.0 es x below has)) in
          let clash : ◌≡◌ {A = Option PlanRow} None (Some was) = sym none ∙ found in
          absurd cc
      go below later Equal is found =
          let segments : becomes.segments ≡ e.1.segments = kept ∙ sym (ap (λ (p : PlanRow). p.segments) (same_plan e.1 was found)) in
          ap (λ (gs : List SegmentRow). segment_rows e.0 1 gs ++ plans_segments es) segments
      go below later Greater is found = ap (λ rows. segment_rows e.0 1 e.1.segments ++ rows) (later found)

segments_kept : (plans : FinMap text_cmp PlanRow) (id : List ℕ) (f : PlanRow → PlanRow) → ((p : PlanRow) → (f p).segments ≡ p.segments)
    → plans_segments (fin.entries (key_changed plans id f)) ≡ plans_segments (fin.entries plans)
segments_kept plans id f kept = go (fin.get plans id) refl where
  go : (o : Option PlanRow) → fin.get plans id ≡ o → plans_segments (fin.entries (found_changed plans id f o)) ≡ plans_segments (fin.entries plans)
  go None none = refl
  go (Some p) found =
      ap plans_segments (fin.entries-insert text_order.total plans id (f p))
      ∙ segments_put id p (f p) (kept p) (fin.entries plans) (fin.entries_sorted plans) (sym (fin.get-entries plans id) ∙ found)

-- ---- a name in the system's language

system_name_put : (name : List ℕ) (o : Option SystemRow)
    → rows_after_update 1 (Int (pos 1) ∷ []) (with_values ((3, Text name) ∷ [])) (system_rows o) ≡ system_rows (option_map (system_named name) o)
system_name_put name None = refl
system_name_put name (Some y) =
    let found : row_with 1 (Int (pos 1) ∷ []) (system_rows (Some y)) ≡ Some (system_row y) = rw one_key refl in
    updated_there 1 (Int (pos 1) ∷ []) _ (system_rows (Some y)) (system_row y) found ∙ system_put (system_named name y) (Some y)

pub set_own_name : Everywhere SetOwnNameLaw
set_own_name s m listing named.System id name =
    let n = after_change (change.SetOwnName named.System id name) s in
    record {
      leads = λ i. record (tables_between s m) { system = system_name_put name.now s.system i };
      listing = listing_same s n m (same_docks s n refl) refl refl refl listing;
    }
set_own_name s m listing named.Station id name =
    let n = after_change (change.SetOwnName named.Station id name) s in
    let f = λ (x : Station). record x { row = record x.row { name = name.now } } in
    let stations = changed_entries texts (counted_station s) (counted_station s) (λ e. refl) (λ e. refl) s.stations id.now tt _ f (λ v found. refl) (λ q y found. (tt, λ apart. refl)) in
    record {
      leads = λ i. record (tables_between s m) { stations = stations i };
      listing = listing_same s n m (docks_changed s n id.now f (λ x. omega arith) refl) refl refl refl listing;
    }
set_own_name s m listing named.«Type» id name =
    let n = after_change (change.SetOwnName named.«Type» id name) s in
    let f = λ (t : TypeRow). record t { name = name.now } in
    let types = changed_entries texts stored_type stored_type (λ e. refl) (λ e. refl) s.types id.now tt _ f (λ v found. refl) (λ q y found. (tt, λ apart. refl)) in
    record {
      leads = λ i. record (tables_between s m) { types = types i };
      listing = listing_same s n m (same_docks s n refl) refl refl refl listing;
    }
set_own_name s m listing named.Plan id name =
    let n = after_change (change.SetOwnName named.Plan id name) s in
    let f = λ (p : PlanRow). record p { name = name.now } in
    let plans = changed_entries texts stored_plan stored_plan (λ e. refl) (λ e. refl) s.plans id.now tt _ f (λ v found. refl) (λ q y found. (tt, λ apart. refl)) in
    let segments = sym (segments_kept s.plans id.now f (λ p. refl)) in
    record {
      leads = λ i. record (tables_between s m) { plans = plans i; segments = segments i };
      listing = listing_same s n m (same_docks s n refl) refl refl refl listing;
    }
set_own_name s m listing named.Description id name =
    let n = after_change (change.SetOwnName named.Description id name) s in
    let f = λ (p : PlanRow). record p { description = name.now } in
    let plans = changed_entries texts stored_plan stored_plan (λ e. refl) (λ e. refl) s.plans id.now tt _ f (λ v found. refl) (λ q y found. (tt, λ apart. refl)) in
    let segments = sym (segments_kept s.plans id.now f (λ p. refl)) in
    record {
      leads = λ i. record (tables_between s m) { plans = plans i; segments = segments i };
      listing = listing_same s n m (same_docks s n refl) refl refl refl listing;
    }
set_own_name s m listing named.Region id name =
    let n = after_change (change.SetOwnName named.Region id name) s in
    let f = λ (r : RegionRow). record r { name = name.now } in
    let regions = changed_entries texts stored_region stored_region (λ e. refl) (λ e. refl) s.regions id.now tt _ f (λ v found. refl) (λ q y found. (tt, λ apart. refl)) in
    record { leads = λ i. record (tables_between s m) { regions = regions i }; listing = listing_same s n m (same_docks s n refl) refl refl refl listing }

-- ---- a name in a further language

-- what is found under a key that is there
found_there : (o : Option (List ℕ)) → is_some o ≡ true → (name : List ℕ) × (o ≡ Some name)
found_there None e = absurd cc
found_there (Some name) e = (name, refl)

pub set_further_name : Everywhere SetFurtherNameLaw
set_further_name s m listing kind id language name are there =
    let n = after_change (change.SetFurtherName kind id language name) s in
    let key = name_key kind id.now language.now in
    let was = found_there (fin.get s.more_names key) there in
    let names =
    set_entries triples stored_name stored_name (λ e. refl) (λ e. refl) s.more_names key (name_triple kind id.now language.now) _ was.0 name.now was.1 refl
    (λ q y found. (named_triple s are q y found, λ apart. refl)) in
    record { leads = λ i. record (tables_between s m) { more_names = names i }; listing = listing_same s n m (same_docks s n refl) refl refl refl listing }

pub remove_name : Everywhere RemoveNameLaw
remove_name s m listing kind id language are =
    let n = after_change (change.RemoveName kind id language) s in
    let names =
    removed_entries triples stored_name (λ e. refl) s.more_names (name_key kind id.now language.now) (name_triple kind id.now language.now)
    (λ q y found. named_triple s are q y found) in
    record { leads = λ i. record (tables_between s m) { more_names = names i }; listing = listing_same s n m (same_docks s n refl) refl refl refl listing }
