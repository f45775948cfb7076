-- The counts of a station, as GBFS's `station_status` has them.
use Rattle.std.specs.Prelude.{◌≡◌, ◌+◌, ◌++◌, [], ◌∷◌, ℕ, List, map, Option, Some, None}
use Rattle.std.specs.declared.cmp.Ordering.TheVariants.{Less}
use Rattle.std.specs.List.{sum_by, AllByRecursion}
use Rattle.std.specs.FinMap as fin
use Rattle.bike_operator.specs.Operator.{Operator, Station, text_cmp}
use Rattle.bike_operator.specs.Counts.{available, available_of, disabled_bikes, docks_available, docks_broken}
use Rattle.bike_laws.specs.SingleSteps.Numbers.{disabled_of}
use Rattle.bike_book.specs.ByType.{counts_of}
use Rattle.bike_book.specs.declared.by_type.CountedType.{CountedType}
use Rattle.bike_book.specs.declared.by_type.TypeCounts.{TypeCounts}
use Rattle.bike_fleet_reads.specs.declared.stations.DockNumbers.{DockNumbers}
use Rattle.bike_fleet_reads.specs.Fleet.{dock_numbers_of}
use Rattle.bike_operator.specs.declared.station_info.TypeCount.{TypeCount}
use Rattle.bike_operator.specs.declared.station_info.Counts.{Counts}

-- a vehicle type, with its bicycles that are available at a station
abbrev pub type_count : Operator → List ℕ → List ℕ → TypeCount
type_count s station type_id = record { type_id = type_id; count = available_of s station type_id }

-- one more type is counted
pub record Adds (old : Counts) (type_id : List ℕ) (counts : TypeCounts) (new : Counts) : Type 0 where
  pub available : new.available ≡ old.available + counts.available
  pub by_type : new.by_type.items ≡ old.by_type.items ++ record { type_id = type_id; count = counts.available } ∷ []
  pub disabled : new.disabled ≡ old.disabled + counts.disabled
  pub docks_available : new.docks_available ≡ old.docks_available
  pub docks_disabled : new.docks_disabled ≡ old.docks_disabled

-- ---- types that are told of, in byte order

-- the type comes before all these
abbrev pub AreAbove : List ℕ → List CountedType → Type 0
AreAbove type_id = AllByRecursion (λ c. text_cmp type_id c.type_id ≡ Less)

-- it comes behind all these
abbrev pub AreBelow : List ℕ → List CountedType → Type 0
AreBelow type_id = AllByRecursion (λ c. text_cmp c.type_id type_id ≡ Less)

-- each comes before those behind it
abbrev pub AreRising : List CountedType → Type 0
AreRising [] = Unit {0}
AreRising (c ∷ cs) = AreAbove c.type_id cs × AreRising cs

-- what is told of the type, by these and those before them
abbrev pub TellsOf : List CountedType → List ℕ → TypeCounts → Type 0
TellsOf rest type_id n = (front : List CountedType) → AreRising (front ++ rest) → n ≡ counts_of type_id (front ++ rest)

-- ---- counts

-- a vehicle type, with its bicycles that are available by what is told of the types
abbrev pub told_count : List CountedType → List ℕ → TypeCount
told_count told type_id = record { type_id = type_id; count = (counts_of type_id told).available }

-- The counts of docks with these numbers, and of the bicycles of these types, in their order, by what is told of them.
pub record AreCountsTold (told : List CountedType) (docks : DockNumbers) (type_ids : List (List ℕ))
    (c : Counts) : Type 0 where
  pub available : c.available ≡ sum_by (λ id. (counts_of id told).available) type_ids
  pub by_type : c.by_type.items ≡ map (told_count told) type_ids
  pub disabled : c.disabled ≡ sum_by (λ id. (counts_of id told).disabled) type_ids
  pub docks_available : c.docks_available ≡ docks.free
  pub docks_disabled : c.docks_disabled ≡ docks.broken

-- The counts of docks with these numbers, and of a station's bicycles of these types, in the order of the types.
pub record AreCountsWith (s : Operator) (station : List ℕ) (docks : DockNumbers) (type_ids : List (List ℕ))
    (c : Counts) : Type 0 where
  pub available : c.available ≡ sum_by (available_of s station) type_ids
  pub by_type : c.by_type.items ≡ map (type_count s station) type_ids
  pub disabled : c.disabled ≡ sum_by (disabled_of s station) type_ids
  pub docks_available : c.docks_available ≡ docks.free
  pub docks_disabled : c.docks_disabled ≡ docks.broken

-- the counts of a station that is there, of its bicycles of these types
abbrev pub AreCountsOfTypes : Operator → List ℕ → Station → List (List ℕ) → Counts → Type 0
AreCountsOfTypes s station x = AreCountsWith s station (dock_numbers_of s station x)

-- The counts of a station that is there, each type's in the order of the types' identifiers.
pub record AreCountsOf (s : Operator) (station : List ℕ) (x : Station) (c : Counts) : Type 0 where
  pub available : c.available ≡ available s station
  pub by_type : c.by_type.items ≡ map (type_count s station) (fin.keys s.types)
  pub disabled : c.disabled ≡ disabled_bikes s station
  pub docks_available : c.docks_available ≡ docks_available s station x.row.docks
  pub docks_disabled : c.docks_disabled ≡ docks_broken s station x.row.docks

-- there where the station is
abbrev pub AreCountsFor : Operator → List ℕ → Option Station → Option Counts → Type 0
AreCountsFor s station None None = Unit {0}
AreCountsFor s station (Some x) (Some c) = AreCountsOf s station x c
AreCountsFor s station None (Some c) = ⊥
AreCountsFor s station (Some x) None = ⊥

abbrev pub AreCountsAt : Operator → List ℕ → Option Counts → Type 0
AreCountsAt s station = AreCountsFor s station (fin.get s.stations station)
