-- What is asked of the lines of names in further languages: by the
-- system and the names before them, and with what has them beside them.
use Rattle.std.specs.Prelude.{ℕ, suc, ◌+◌, nat_lt, List, [], ◌∷◌, take, Bool, true, false, not, ◌&&◌, if◌then◌else◌}
use Rattle.std.specs.Prelude.{Option, Some, None, is_some, option_map}
use Rattle.std.specs.Str.{bytes_eq}
use Rattle.sqlite_value.specs.Order.{Row}
use Rattle.bike_book.specs.declared.columns.plans.TheConstants as plans
use Rattle.bike_book.specs.declared.columns.types.TheConstants as types
use Rattle.bike_book.specs.declared.columns.regions.TheConstants as regions
use Rattle.bike_book.specs.declared.columns.stations.TheConstants as stations
use Rattle.bike_book.specs.declared.columns.more_names.TheConstants as more_names
use Rattle.bike_fields.specs.NameKinds.{kind_text}
use Rattle.bike_catalogue.specs.Rows.{SystemRow, MoreNameRow}
use Rattle.bike_fields.specs.declared.name_kind.NameKind.{NameKind}
use Rattle.bike_fields.specs.declared.name_kind.NameKind.TheVariants as named
use Rattle.bike_operator.specs.declared.limits.TheConstants.{MOST_FURTHER_NAMES}
use Rattle.bike_readings.specs.Readings.{system_read, plan_read, type_read, region_read, station_read, name_read}
use Rattle.bike_judges.specs.Lines.{part}
use Rattle.bike_catalogue_rules.specs.declared.names.SystemKey.{SystemKey}
use Rattle.bike_catalogue_rules.specs.declared.names.FirstSystem.{FirstSystem}

-- ---- the system

abbrev pub system_key : SystemRow → SystemKey
system_key x = record { id = x.system_id; language = x.language }

-- the first that was spelled
abbrev pub key_or : Option SystemKey → Option SystemRow → Option SystemKey
key_or None system = option_map system_key system
key_or (Some key) system = Some key

abbrev pub with_system : FirstSystem → Row → FirstSystem
with_system found line = record found { key = key_or found.key (system_read line) }

-- ---- names, each after those before it

-- what has the name, by its kind and identifier, and the name in its language
abbrev pub FurtherName : Type 0
FurtherName = NameKind × List ℕ × MoreNameRow

-- one thing has both
abbrev pub is_of_same : FurtherName → FurtherName → Bool
is_of_same a b = bytes_eq (kind_text a.0) (kind_text b.0) && bytes_eq a.1 b.1

-- how many names of the same thing stand just before, where the name before is the last of so many
abbrev pub names_since : Option FurtherName → ℕ → FurtherName → ℕ
names_since None run e = 0
names_since (Some last) run e = if is_of_same last e then run else 0

-- of kind system the identifier is the system's
abbrev pub is_own_id : SystemKey → NameKind → List ℕ → Bool
is_own_id own named.System id = bytes_eq own.id id
is_own_id own named.Station id = true
is_own_id own named.«Type» id = true
is_own_id own named.Plan id = true
is_own_id own named.Description id = true
is_own_id own named.Region id = true

-- a system is set, and it has another language
abbrev pub is_further : Option SystemKey → FurtherName → Bool
is_further None e = false
is_further (Some own) e = is_own_id own e.0 e.1 && not (bytes_eq own.language e.2.language)

-- behind so many names of the same thing there is room for it
abbrev pub may_follow : Option SystemKey → ℕ → FurtherName → Bool
may_follow own before e = nat_lt before MOST_FURTHER_NAMES && is_further own e

-- how many names of the same thing there are with this one, where it may follow
abbrev pub next_run : Option SystemKey → Option FurtherName → ℕ → Option FurtherName → Option ℕ
next_run own last run None = None
next_run own last run (Some e) =
    if may_follow own (names_since last run e) e then Some (suc (names_since last run e)) else None

abbrev pub misnamed_or : Row → Option ℕ → (ℕ → Option Row) → Option Row
misnamed_or line None rest = Some (take 3 line)
misnamed_or line (Some run) rest = rest run

-- the key of the first line that isn't a name which may follow those before it
unfoldable pub first_misnamed : Option SystemKey → Option FurtherName → ℕ → List Row → Option Row
first_misnamed own last run [] = None
first_misnamed own last run (x ∷ xs) =
    misnamed_or x (next_run own last run (name_read x)) (λ n. first_misnamed own (name_read x) n xs)

-- ---- names with what has them

-- a station or a region that has the name is there
abbrev pub is_place_there : NameKind → Row → Bool
is_place_there named.System line = true
is_place_there named.Station line = is_some (station_read (part more_names.COLUMNS stations.COLUMNS line))
is_place_there named.«Type» line = true
is_place_there named.Plan line = true
is_place_there named.Description line = true
is_place_there named.Region line =
    is_some (region_read (part (more_names.COLUMNS + stations.COLUMNS) regions.COLUMNS line))

-- so is a vehicle type or a plan
abbrev pub is_offer_there : NameKind → Row → Bool
is_offer_there named.System line = true
is_offer_there named.Station line = true
is_offer_there named.«Type» line = is_some (type_read (part more_names.COLUMNS types.COLUMNS line))
is_offer_there named.Plan line = is_some (plan_read (part (more_names.COLUMNS + types.COLUMNS) plans.COLUMNS line))
is_offer_there named.Description line =
    is_some (plan_read (part (more_names.COLUMNS + types.COLUMNS) plans.COLUMNS line))
is_offer_there named.Region line = true

-- the line spells a name, and this holds of its kind
abbrev pub of_kind : (NameKind → Row → Bool) → Row → Option FurtherName → Bool
of_kind test line None = false
of_kind test line (Some e) = test e.0 line

abbrev pub has_place : ℕ → Row → Bool
has_place before line = of_kind is_place_there line (name_read (part 0 more_names.COLUMNS line))

abbrev pub has_offer : ℕ → Row → Bool
has_offer before line = of_kind is_offer_there line (name_read (part 0 more_names.COLUMNS line))
