-- What keeps the catalogue sound.
use Rattle.std.proofs.Common.{◌≡◌, ℕ, ◌≤◌, List, Bool, true, false, Option, Some, None, refl, sym, ap, ◌∙◌, subst, arith, ◌||◌, ◌&&◌, not, leb}
use Rattle.std.specs.Prelude.{option_map}
use Rattle.std.specs.Ordering.{eq_by_cmp}
use Rattle.std.specs.FinMap as map
use Rattle.std.specs.FinMap.{FinMap}
use Rattle.std.specs.FinSet as set
use Rattle.std.specs.FinSet.{FinSet}
use Rattle.bike_catalogue.specs.Rows.{PlanRow, TypeRow, RegionRow, SystemRow, SettingsRow, IsPlan, IsType, IsRegion, IsStation, IsSystem, IsSettings, system_with}
use Rattle.bike_operator.specs.Operator.{Operator, Station, text_cmp, texts_cmp, DockKey, dock_key}
use Rattle.bike_operator.specs.declared.limits.TheConstants.{MOST_PLANS, MOST_TYPES, MOST_REGIONS, MOST_STATIONS}
use Rattle.bike_operator.specs.View.{has_region}
use Rattle.bike_operator.specs.Steps.{key_changed, with_report, dock_marked}
use Rattle.bike_operator.specs.Sound.{IsCatalogueSound, IsSetSystem, IsPlanAt, IsTypeAt, IsRegionAt, IsStationAt, HasDock, IsBrokenDock}
use Rattle.bike_laws.proofs.SingleSteps.MapLemmas.{text_order, texts_order, tied, IsAdded, New, Old, IsChanged, Changed, Other, added_at, changed_at, kept_added, known_added, known_changed, few_added}
use Rattle.bike_laws.proofs.SingleSteps.MapLemmas.{len_changed, IsKept, Same, Turned, kept_changed}

-- ---- docks that go on being there

pub same_docks : (s n : Operator) → n.stations ≡ s.stations → (station : List ℕ) (dock : ℕ) → HasDock s station dock → HasDock n station dock
same_docks s n e station dock h = record { row = h.row; found = ap (λ (m : FinMap text_cmp Station). map.get m station) e ∙ h.found; low = h.low; high = h.high }

no_fewer_docks : (f : Station → Station) → ((x : Station) → x.row.docks ≤ (f x).row.docks) → (x y : Station) → IsKept f x y → x.row.docks ≤ y.row.docks
no_fewer_docks f more x y (Same e) = let same = ap (λ (z : Station). z.row.docks) e in omega (arith, same)
no_fewer_docks f more x y (Turned e) = let same = ap (λ (z : Station). z.row.docks) e in let few = more x in omega (arith, same, few)

pub docks_changed : (s n : Operator) (k : List ℕ) (f : Station → Station) → ((x : Station) → x.row.docks ≤ (f x).row.docks) → n.stations ≡ key_changed s.stations k f
    → (station : List ℕ) (dock : ℕ) → HasDock s station dock → HasDock n station dock
docks_changed s n k f more e station dock h =
    let r = kept_changed text_order s.stations k f station h.row h.found in
    let few = no_fewer_docks f more h.row r.row r.is in
    let high = h.high in
    record { row = r.row; found = ap (λ (m : FinMap text_cmp Station). map.get m station) e ∙ r.found; low = h.low; high = omega (arith, few, high) }

pub docks_added : (s n : Operator) (k : List ℕ) (x : Station) → map.get s.stations k ≡ None → n.stations ≡ map.insert s.stations k x
    → (station : List ℕ) (dock : ℕ) → HasDock s station dock → HasDock n station dock
docks_added s n k x free e station dock h =
    record { row = h.row; found = ap (λ (m : FinMap text_cmp Station). map.get m station) e ∙ kept_added text_order s.stations k x station h.row free h.found; low = h.low; high = h.high }

broken_stand : (s n : Operator) (key : DockKey) → ((station : List ℕ) (dock : ℕ) → HasDock s station dock → HasDock n station dock) → IsBrokenDock s key → IsBrokenDock n key
broken_stand s n key docks h = record { station = h.station; dock = h.dock; key_is = h.key_is; has = docks h.station h.dock h.has }

-- ---- regions that go on being there

pub region_stands : (s n : Operator) → ((id : List ℕ) → map.contains_key s.regions id ≡ true → map.contains_key n.regions id ≡ true) → (region : Option (List ℕ)) → has_region s region ≡ true
    → has_region n region ≡ true
region_stands s n known None h = refl
region_stands s n known (Some region) h = known region h

station_stands : (s n : Operator) → s.now ≤ n.now → ((id : List ℕ) → map.contains_key s.regions id ≡ true → map.contains_key n.regions id ≡ true) → (id : List ℕ) (x : Station) → IsStationAt s id x
    → IsStationAt n id x
station_stands s n later known id x h = record { id_is = h.id_is; good = h.good; by_now = omega (arith, h.by_now, later); region = region_stands s n known x.region h.region }

-- ---- the catalogue where other records change

abbrev pub CatalogueParts : Type 0
CatalogueParts = Option SystemRow × FinMap text_cmp PlanRow × FinMap text_cmp TypeRow × FinMap text_cmp RegionRow × FinMap text_cmp Station × FinSet texts_cmp

abbrev pub catalogue_of : Operator → CatalogueParts
catalogue_of s = (s.system, s.plans, s.types, s.regions, s.stations, s.broken)

pub same_catalogue : (s n : Operator) → s.now ≤ n.now → catalogue_of n ≡ catalogue_of s → IsCatalogueSound s → IsCatalogueSound n
same_catalogue s n later e h =
    let system : n.system ≡ s.system = ap (λ (c : CatalogueParts). c.0) e in
    let plans : n.plans ≡ s.plans = ap (λ (c : CatalogueParts). c.1) e in
    let types : n.types ≡ s.types = ap (λ (c : CatalogueParts). c.2) e in
    let regions : n.regions ≡ s.regions = ap (λ (c : CatalogueParts). c.3) e in
    let stations : n.stations ≡ s.stations = ap (λ (c : CatalogueParts). c.4) e in
    let broken : n.broken ≡ s.broken = ap (λ (c : CatalogueParts). c.5) e in
    record {
      system = subst IsSetSystem (sym system) h.system;
      plans = λ id p found. h.plans id p (ap (λ (m : FinMap text_cmp PlanRow). map.get m id) (sym plans) ∙ found);
      types = λ id t found.
          let x = h.types id t (ap (λ (m : FinMap text_cmp TypeRow). map.get m id) (sym types) ∙ found) in
          record { id_is = x.id_is; good = x.good; plan = ap (λ (m : FinMap text_cmp PlanRow). map.contains_key m t.plan_id) plans ∙ x.plan };
      regions = λ id r found. h.regions id r (ap (λ (m : FinMap text_cmp RegionRow). map.get m id) (sym regions) ∙ found);
      stations = λ id x found.
          station_stands s n later (λ region known. ap (λ (m : FinMap text_cmp RegionRow). map.contains_key m region) regions ∙ known) id x
          (h.stations id x (ap (λ (m : FinMap text_cmp Station). map.get m id) (sym stations) ∙ found));
      broken = λ key found. broken_stand s n key (same_docks s n stations) (h.broken key (ap (λ (b : FinSet texts_cmp). set.contains b key) (sym broken) ∙ found));
      few_plans = rw plans h.few_plans;
      few_types = rw types h.few_types;
      few_regions = rw regions h.few_regions;
      few_stations = rw stations h.few_stations;
    }

-- ---- the catalogue with one record set, added or changed

pub system_set : (s : Operator) (o : Option SystemRow) → IsSetSystem o → IsCatalogueSound s → IsCatalogueSound (record s { system = o })
system_set s o good h = record {
  system = good;
  plans = h.plans;
  types = λ id t found. let x = h.types id t found in record { id_is = x.id_is; good = x.good; plan = x.plan };
  regions = h.regions;
  stations = λ id y found. station_stands s (record s { system = o }) (omega arith) (λ region known. known) id y (h.stations id y found);
  broken = λ key found. broken_stand s (record s { system = o }) key (same_docks s (record s { system = o }) refl) (h.broken key found);
  few_plans = h.few_plans;
  few_types = h.few_types;
  few_regions = h.few_regions;
  few_stations = h.few_stations;
}

-- changed, where it is set
pub system_changed : (f : SystemRow → SystemRow) → ((x : SystemRow) → IsSystem x → IsSystem (f x)) → (o : Option SystemRow) → IsSetSystem o → IsSetSystem (option_map f o)
system_changed f keeps None old = tt
system_changed f keeps (Some x) old = keeps x old

-- with other settings
pub settings_kept : (x : SettingsRow) → IsSettings x → (y : SystemRow) → IsSystem y → IsSystem (system_with x y)
settings_kept x good y old = record {
  system_id = old.system_id;
  language = old.language;
  name = good.name;
  opening_hours = good.opening_hours;
  feed_contact_email = good.feed_contact_email;
  timezone = good.timezone;
  currency = old.currency;
  base_url = good.base_url;
  ttl = good.ttl;
}

-- plans with another list of them
plans_changed : (s : Operator) (plans : FinMap text_cmp PlanRow) → ((id : List ℕ) (p : PlanRow) → map.get plans id ≡ Some p → IsPlanAt id p) → map.len plans ≤ MOST_PLANS
    → ((id : List ℕ) → map.contains_key s.plans id ≡ true → map.contains_key plans id ≡ true) → IsCatalogueSound s → IsCatalogueSound (record s { plans = plans })
plans_changed s plans each few known h =
    let n : Operator = record s { plans = plans } in
    record {
      system = h.system;
      plans = each;
      types = λ id t found. let x = h.types id t found in record { id_is = x.id_is; good = x.good; plan = known t.plan_id x.plan };
      regions = h.regions;
      stations = λ id x found. station_stands s n (omega arith) (λ region known. known) id x (h.stations id x found);
      broken = λ key found. broken_stand s n key (same_docks s n refl) (h.broken key found);
      few_plans = few;
      few_types = h.few_types;
      few_regions = h.few_regions;
      few_stations = h.few_stations;
    }

pub plan_added : (s : Operator) (p : PlanRow) → IsPlanAt p.plan_id p → leb MOST_PLANS (map.len s.plans) ≡ false → IsCatalogueSound s
    → IsCatalogueSound (record s { plans = map.insert s.plans p.plan_id p })
plan_added s p good full h =
    plans_changed s (map.insert s.plans p.plan_id p) (λ id q found. is_plan id q (added_at text_order s.plans p.plan_id p id q found)) (few_added text_order s.plans p.plan_id p MOST_PLANS full)
    (known_added text_order s.plans p.plan_id p) h
  where
    is_plan : (id : List ℕ) (q : PlanRow) → IsAdded s.plans p.plan_id p id q → IsPlanAt id q
    is_plan id q (New same is) = rw (same, is) good
    is_plan id q (Old apart found) = h.plans id q found

-- What a plan keeps that changes: its identifier, its bounds and its segments.
pub record IsKeptPlan (f : PlanRow → PlanRow) : Type 0 where
  pub id : (p : PlanRow) → (f p).plan_id ≡ p.plan_id
  pub good : (p : PlanRow) → IsPlan p → IsPlan (f p)
  pub segments : (p : PlanRow) → (f p).segments ≡ p.segments

pub plan_changed : (s : Operator) (plan : List ℕ) (f : PlanRow → PlanRow) → IsKeptPlan f → IsCatalogueSound s → IsCatalogueSound (record s { plans = key_changed s.plans plan f })
plan_changed s plan f keeps h =
    plans_changed s (key_changed s.plans plan f) (λ id q found. is_plan id q (changed_at text_order s.plans plan f id q found)) (rw (len_changed text_order s.plans plan f) h.few_plans)
    (known_changed text_order s.plans plan f) h
  where
    is_plan : (id : List ℕ) (q : PlanRow) → IsChanged s.plans plan f id q → IsPlanAt id q
    is_plan id q (Changed p same found is) =
        let old = h.plans plan p found in
        subst (λ (z : PlanRow). IsPlanAt id z) (sym is) (record { id_is = same ∙ old.id_is ∙ sym (keeps.id p); good = keeps.good p old.good; segments = rw (keeps.segments p) old.segments })
    is_plan id q (Other apart found) = h.plans id q found

-- types with another list of them
types_changed : (s : Operator) (types : FinMap text_cmp TypeRow) → ((id : List ℕ) (t : TypeRow) → map.get types id ≡ Some t → IsTypeAt s id t) → map.len types ≤ MOST_TYPES
    → IsCatalogueSound s → IsCatalogueSound (record s { types = types })
types_changed s types each few h =
    let n : Operator = record s { types = types } in
    record {
      system = h.system;
      plans = h.plans;
      types = λ id t found. let x = each id t found in record { id_is = x.id_is; good = x.good; plan = x.plan };
      regions = h.regions;
      stations = λ id x found. station_stands s n (omega arith) (λ region known. known) id x (h.stations id x found);
      broken = λ key found. broken_stand s n key (same_docks s n refl) (h.broken key found);
      few_plans = h.few_plans;
      few_types = few;
      few_regions = h.few_regions;
      few_stations = h.few_stations;
    }

pub type_added : (s : Operator) (t : TypeRow) → IsTypeAt s t.type_id t → leb MOST_TYPES (map.len s.types) ≡ false → IsCatalogueSound s
    → IsCatalogueSound (record s { types = map.insert s.types t.type_id t })
type_added s t good full h =
    types_changed s (map.insert s.types t.type_id t) (λ id q found. is_type id q (added_at text_order s.types t.type_id t id q found)) (few_added text_order s.types t.type_id t MOST_TYPES full) h
  where
    is_type : (id : List ℕ) (q : TypeRow) → IsAdded s.types t.type_id t id q → IsTypeAt s id q
    is_type id q (New same is) = rw (same, is) good
    is_type id q (Old apart found) = h.types id q found

-- What a type keeps that changes: its identifier, its bounds, and a plan that is there.
pub record IsKeptType (s : Operator) (f : TypeRow → TypeRow) : Type 0 where
  pub id : (t : TypeRow) → (f t).type_id ≡ t.type_id
  pub good : (t : TypeRow) → IsType t → IsType (f t)
  pub plan : (t : TypeRow) → map.contains_key s.plans t.plan_id ≡ true → map.contains_key s.plans (f t).plan_id ≡ true

pub type_changed : (s : Operator) (type_id : List ℕ) (f : TypeRow → TypeRow) → IsKeptType s f → IsCatalogueSound s → IsCatalogueSound (record s { types = key_changed s.types type_id f })
type_changed s type_id f keeps h =
    types_changed s (key_changed s.types type_id f) (λ id q found. is_type id q (changed_at text_order s.types type_id f id q found)) (rw (len_changed text_order s.types type_id f) h.few_types) h
  where
    is_type : (id : List ℕ) (q : TypeRow) → IsChanged s.types type_id f id q → IsTypeAt s id q
    is_type id q (Changed t same found is) =
        let old = h.types type_id t found in
        subst (λ (z : TypeRow). IsTypeAt s id z) (sym is) (record { id_is = same ∙ old.id_is ∙ sym (keeps.id t); good = keeps.good t old.good; plan = keeps.plan t old.plan })
    is_type id q (Other apart found) = h.types id q found

-- regions with another list of them
regions_changed : (s : Operator) (regions : FinMap text_cmp RegionRow) → ((id : List ℕ) (r : RegionRow) → map.get regions id ≡ Some r → IsRegionAt id r) → map.len regions ≤ MOST_REGIONS
    → ((id : List ℕ) → map.contains_key s.regions id ≡ true → map.contains_key regions id ≡ true) → IsCatalogueSound s → IsCatalogueSound (record s { regions = regions })
regions_changed s regions each few known h =
    let n : Operator = record s { regions = regions } in
    record {
      system = h.system;
      plans = h.plans;
      types = λ id t found. let x = h.types id t found in record { id_is = x.id_is; good = x.good; plan = x.plan };
      regions = each;
      stations = λ id x found. station_stands s n (omega arith) known id x (h.stations id x found);
      broken = λ key found. broken_stand s n key (same_docks s n refl) (h.broken key found);
      few_plans = h.few_plans;
      few_types = h.few_types;
      few_regions = few;
      few_stations = h.few_stations;
    }

pub region_added : (s : Operator) (r : RegionRow) → IsRegionAt r.region_id r → leb MOST_REGIONS (map.len s.regions) ≡ false → IsCatalogueSound s
    → IsCatalogueSound (record s { regions = map.insert s.regions r.region_id r })
region_added s r good full h =
    regions_changed s (map.insert s.regions r.region_id r) (λ id q found. is_region id q (added_at text_order s.regions r.region_id r id q found))
    (few_added text_order s.regions r.region_id r MOST_REGIONS full)
    (known_added text_order s.regions r.region_id r) h
  where
    is_region : (id : List ℕ) (q : RegionRow) → IsAdded s.regions r.region_id r id q → IsRegionAt id q
    is_region id q (New same is) = rw (same, is) good
    is_region id q (Old apart found) = h.regions id q found

-- What a region keeps that changes: its identifier and its bounds.
pub record IsKeptRegion (f : RegionRow → RegionRow) : Type 0 where
  pub id : (r : RegionRow) → (f r).region_id ≡ r.region_id
  pub good : (r : RegionRow) → IsRegion r → IsRegion (f r)

pub region_changed : (s : Operator) (region : List ℕ) (f : RegionRow → RegionRow) → IsKeptRegion f → IsCatalogueSound s → IsCatalogueSound (record s { regions = key_changed s.regions region f })
region_changed s region f keeps h =
    regions_changed s (key_changed s.regions region f) (λ id q found. is_region id q (changed_at text_order s.regions region f id q found))
    (rw (len_changed text_order s.regions region f) h.few_regions)
    (known_changed text_order s.regions region f) h
  where
    is_region : (id : List ℕ) (q : RegionRow) → IsChanged s.regions region f id q → IsRegionAt id q
    is_region id q (Changed r same found is) =
        let old = h.regions region r found in
        subst (λ (z : RegionRow). IsRegionAt id z) (sym is) (record { id_is = same ∙ old.id_is ∙ sym (keeps.id r); good = keeps.good r old.good })
    is_region id q (Other apart found) = h.regions id q found

-- stations with another list of them
stations_changed : (s : Operator) (stations : FinMap text_cmp Station) → ((id : List ℕ) (x : Station) → map.get stations id ≡ Some x → IsStationAt s id x) → map.len stations ≤ MOST_STATIONS
    → ((station : List ℕ) (dock : ℕ) → HasDock s station dock → HasDock (record s { stations = stations }) station dock)
    → IsCatalogueSound s → IsCatalogueSound (record s { stations = stations })
stations_changed s stations each few docks h =
    let n : Operator = record s { stations = stations } in
    record {
      system = h.system;
      plans = h.plans;
      types = λ id t found. let x = h.types id t found in record { id_is = x.id_is; good = x.good; plan = x.plan };
      regions = h.regions;
      stations = λ id x found. station_stands s n (omega arith) (λ region known. known) id x (each id x found);
      broken = λ key found. broken_stand s n key docks (h.broken key found);
      few_plans = h.few_plans;
      few_types = h.few_types;
      few_regions = h.few_regions;
      few_stations = few;
    }

pub station_added : (s : Operator) (x : Station) → IsStationAt s x.row.station_id x → map.get s.stations x.row.station_id ≡ None → leb MOST_STATIONS (map.len s.stations) ≡ false
    → IsCatalogueSound s → IsCatalogueSound (record s { stations = map.insert s.stations x.row.station_id x })
station_added s x good free full h =
    stations_changed s (map.insert s.stations x.row.station_id x) (λ id q found. is_station id q (added_at text_order s.stations x.row.station_id x id q found))
    (few_added text_order s.stations x.row.station_id x MOST_STATIONS full) (docks_added s (record s { stations = map.insert s.stations x.row.station_id x }) x.row.station_id x free refl) h
  where
    is_station : (id : List ℕ) (q : Station) → IsAdded s.stations x.row.station_id x id q → IsStationAt s id q
    is_station id q (New same is) = rw (same, is) good
    is_station id q (Old apart found) = h.stations id q found

-- What a station keeps that changes or reports: its identifier, the docks that it has, and its bounds.
pub record IsKeptStation (s : Operator) (station : List ℕ) (f : Station → Station) : Type 0 where
  pub id : (x : Station) → (f x).row.station_id ≡ x.row.station_id
  pub docks : (x : Station) → x.row.docks ≤ (f x).row.docks
  pub good : (x : Station) → map.get s.stations station ≡ Some x → IsStation x.row → IsStation (f x).row
  pub by_now : (x : Station) → x.reported ≤ s.now → (f x).reported ≤ s.now
  pub region : (x : Station) → has_region s x.region ≡ true → has_region s (f x).region ≡ true

pub station_changed : (s : Operator) (station : List ℕ) (f : Station → Station) → IsKeptStation s station f → IsCatalogueSound s
    → IsCatalogueSound (record s { stations = key_changed s.stations station f })
station_changed s station f keeps h =
    stations_changed s (key_changed s.stations station f) (λ id q found. is_station id q (changed_at text_order s.stations station f id q found))
    (rw (len_changed text_order s.stations station f) h.few_stations) (docks_changed s (record s { stations = key_changed s.stations station f }) station f keeps.docks refl) h
  where
    is_station : (id : List ℕ) (q : Station) → IsChanged s.stations station f id q → IsStationAt s id q
    is_station id q (Changed x same found is) =
        let old = h.stations station x found in
        subst (λ (z : Station). IsStationAt s id z) (sym is) (record {
          id_is = same ∙ old.id_is ∙ sym (keeps.id x);
          good = keeps.good x found old.good;
          by_now = keeps.by_now x old.by_now;
          region = keeps.region x old.region;
        })
    is_station id q (Other apart found) = h.stations id q found

pub station_reported : (s : Operator) (station : List ℕ) (now : ℕ) → now ≤ s.now → IsCatalogueSound s → IsCatalogueSound (with_report station now s)
station_reported s station now late h =
    station_changed s station (λ x. record x { reported = now })
    (record { id = λ x. refl; docks = λ x. omega arith; good = λ x found good. good; by_now = λ x old. late; region = λ x known. known }) h

-- broken docks with another list of them
broken_changed : (s : Operator) (broken : FinSet texts_cmp) → ((key : DockKey) → set.contains broken key ≡ true → IsBrokenDock s key) → IsCatalogueSound s
    → IsCatalogueSound (record s { broken = broken })
broken_changed s broken each h =
    let n : Operator = record s { broken = broken } in
    record {
      system = h.system;
      plans = h.plans;
      types = λ id t found. let x = h.types id t found in record { id_is = x.id_is; good = x.good; plan = x.plan };
      regions = h.regions;
      stations = λ id x found. station_stands s n (omega arith) (λ region known. known) id x (h.stations id x found);
      broken = λ key found. broken_stand s n key (same_docks s n refl) (each key found);
      few_plans = h.few_plans;
      few_types = h.few_types;
      few_regions = h.few_regions;
      few_stations = h.few_stations;
    }

pub dock_marked_catalogue : (s : Operator) (station : List ℕ) (dock : ℕ) (broken : Bool) → HasDock s station dock → IsCatalogueSound s → IsCatalogueSound (dock_marked station dock broken s)
dock_marked_catalogue s station dock true has h =
    broken_changed s (set.insert s.broken (dock_key station dock))
    (λ key found. go key (eq_by_cmp texts_cmp key (dock_key station dock)) refl (sym (set.contains-insert texts_order.total s.broken (dock_key station dock) key) ∙ found)) h
  where
    go : (key : DockKey) (b : Bool) → eq_by_cmp texts_cmp key (dock_key station dock) ≡ b → (b || set.contains s.broken key) ≡ true → IsBrokenDock s key
    go key true e found = record { station = station; dock = dock; key_is = tied texts_order key (dock_key station dock) e; has = has }
    go key false e found = h.broken key found
dock_marked_catalogue s station dock false has h =
    broken_changed s (set.remove s.broken (dock_key station dock))
    (λ key found. go key (eq_by_cmp texts_cmp key (dock_key station dock)) (sym (set.contains-remove texts_order.total s.broken (dock_key station dock) key) ∙ found)) h
  where
    go : (key : DockKey) (b : Bool) → (not b && set.contains s.broken key) ≡ true → IsBrokenDock s key
    go key true found = absurd cc
    go key false found = h.broken key found
