-- The counts and the names that were read of a station are those that are written.
use Rattle.std.proofs.Common.{◌≡◌, ◌≤◌, ℕ, List, [], ◌∷◌, ◌++◌, map, Some, Result, Ok, refl, sym, ap, ap₂, ◌∙◌, subst, append_assoc, true}
use Rattle.std.specs.Cmp.Lexicographic.{nat_list_cmp_total}
use Rattle.std.specs.FinMap.{entries, keys}
use Rattle.sqlite_trees.specs.View.{doubt}
use Rattle.sqlite_trees.specs.declared.store.Store.{Ghosts}
use Rattle.sqlite.specs.State.{HasCleanDisk}
use Rattle.bike_catalogue.specs.Rows.{SystemRow, TypeRow}
use Rattle.bike_json.specs.Outputs.{OutputState}
use Rattle.bike_json.specs.State.{Place, IsAt as IsIn, after_value}
use Rattle.bike_operator.specs.Operator.{Operator, Station}
use Rattle.bike_operator.specs.Sound.{IsSound}
use Rattle.bike_operator.specs.declared.station_info.TypeCount.{TypeCount}
use Rattle.bike_fields.specs.declared.name_kind.NameKind.TheVariants as named
use Rattle.bike_operator.specs.Names.{further_names}
use Rattle.bike_feed_texts.specs.Elements.{station_tree, status_tree}
use Rattle.bike_feed_texts.specs.Trees.{report_of, counts_of}
use Rattle.bike_feed_texts.specs.Writing.{WroteValue, counts_row}
use Rattle.bike_queries.specs.After.{station_of}
use Rattle.bike_queries.specs.Pages.{IsNamedStation, IsStatusOf}
use Rattle.bike_queries.proofs.CountLemmas.{all_types}
use Rattle.bike_operator.specs.declared.station_info.Counts.{Counts}
use Rattle.bike_queries.specs.declared.stations.NamedStation.{NamedStation}
use Rattle.bike_queries.specs.declared.status.StationStatus.{StationStatus}
use Rattle.bike_queries.specs.StationCounts.{AreCountsOf, type_count}
use Rattle.bike_desk.specs.declared.fault.DeskFault.{DeskFault}
use Rattle.bike_desk.specs.Desk.{DeskValue, desk_state, IsAt}
use Rattle.bike_desk.specs.Queries.{Queries}
use Rattle.bike_desk.proofs.KeepLemmas.{kept_stores}
use Rattle.bike_feeds.proofs.After.{map_found}
use Rattle.bike_feeds.proofs.DeskLemmas.{earlier}
use Rattle.bike_feeds.proofs.WalkLemmas.{Walks, Passes, walk_writes}
use Rattle.bike_feeds.proofs.PageLemmas.{Ahead}
use Rattle.bike_feeds.proofs.Lists.{stations, statuses}

module _ (s : Operator) (sound : IsSound s) (station : List ℕ) where
  types_same : (front es : List (List ℕ × TypeRow)) → entries s.types ≡ front ++ es
      → map (type_count s station) (map (λ e. e.0) es) ≡ map (λ (t : TypeRow). type_count s station t.type_id) (map (λ e. e.1) es)
  types_same front [] split = refl
  types_same front (e ∷ es) split =
      let same : e.0 ≡ e.1.type_id = (sound.catalogue.types e.0 e.1 (map_found nat_list_cmp_total s.types front e es split)).id_is in
      ap₂ (λ (c : TypeCount) (cs : List TypeCount). c ∷ cs) (ap (type_count s station) same)
      (types_same (front ++ e ∷ []) es (split ∙ sym (append_assoc front (e ∷ []) es)))

counts_same : (s : Operator) → IsSound s → (x : Station) (c : Counts) → AreCountsOf s x.row.station_id x c → counts_row c ≡ counts_of s x
counts_same s sound x c are =
    let by_type = are.by_type ∙ types_same s sound x.row.station_id [] (entries s.types) refl in
    λ i. record { available = are.available i; by_type = by_type i; disabled = are.disabled i; docks_available = are.docks_available i; docks_disabled = are.docks_disabled i }

module _ {S : Type 0} (g : Ghosts S) where
  -- these are the identifiers of the operator's types
  pub record KnowsTypes (ids : List (List ℕ)) (old new : DeskValue S) : Type 0 where
    pub types : HasCleanDisk (desk_state g new) → (s : Operator) → IsAt g old s → ids ≡ keys s.types

  pub types_asked : {A B : Type 0} {says : Operator → B → Type 0} {d e f : DeskValue S} (items : A → List (List ℕ)) (answer : A) (next : Result B DeskFault)
      → Queries g d e (Ok answer) (λ s x. items x ≡ keys s.types) → Queries g e f next says → KnowsTypes (items answer) d f
  types_asked {e = e} {f = f} items answer next types query = record { types = λ clean s at. (types.ok (earlier g e f query.clean clean) s at).0 }

  pub types_later : {ids : List (List ℕ)} {d e f : DeskValue S} → KnowsTypes ids d e → doubt (desk_state g e).is_clean ≤ doubt (desk_state g f).is_clean → KnowsTypes ids d f
  types_later {e = e} {f = f} known le = record { types = λ clean s at. known.types (earlier g e f le clean) s at }

  -- a status is written from what was read of the station
  pub status_writes : {d e : DeskValue S} {p q r : Place} {a b c : OutputState} {ids : List (List ℕ)} {left : List StationStatus} (x : StationStatus)
      → Walks g statuses (Some (station_of x.info)) d e p q a b → KnowsTypes ids d e → Ahead g (λ s. IsStatusOf s ids) (Some x) left d e
      → WroteValue q r b c (status_tree (report_of (station_of x.info)) (counts_row x.counts)) → IsIn r (after_value q.top) q.round
      → Passes g statuses (station_of x.info) d e p r a c
  status_writes {e = e} {q = q} {r = r} {b = b} {c = c} {ids = ids} x w known ahead wrote place =
      walk_writes g statuses (station_of x.info) w (λ clean s at.
      let station = station_of x.info in
      let it = ahead.are clean s at in
      let sound = (kept_stores (desk_state g e) s (w.stays.same clean s at).keeps).sound in
      let counts = all_types s it.0.0 sound it.0.1 ids x.counts (known.types clean s at) it.1.1 in
      let are = subst (λ (k : List ℕ). AreCountsOf s k station x.counts) (sym it.1.0.1) (subst (λ (y : Station). AreCountsOf s it.0.0 y x.counts) (sym it.1.0.0) counts) in
      let same = counts_same s sound station x.counts are in
      subst (λ t. WroteValue q r b c (status_tree (report_of station) t)) same wrote) place

  -- a station is written with its names
  pub station_writes : {d e : DeskValue S} {p q r : Place} {a b c : OutputState} {left : List NamedStation} (system : SystemRow) (x : NamedStation)
      → Walks g (stations system) (Some (station_of x.info)) d e p q a b → Ahead g (IsNamedStation true) (Some x) left d e
      → WroteValue q r b c (station_tree system x.info.station x.info.region x.names.items) → IsIn r (after_value q.top) q.round
      → Passes g (stations system) (station_of x.info) d e p r a c
  station_writes {q = q} {r = r} {b = b} {c = c} system x w ahead wrote place =
      walk_writes g (stations system) (station_of x.info) w (λ clean s at.
      let it = ahead.are clean s at in
      let names = it.1.1 ∙ ap (further_names s named.Station) (sym it.1.0.1) in
      subst (λ ns. WroteValue q r b c (station_tree system x.info.station x.info.region ns)) names wrote) place
