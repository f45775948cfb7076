-- Names in further languages: what has one, and in which.
use Rattle.std.specs.Prelude.{ℕ, List, [], map, filter, length, nat_le, Bool, false, ◌&&◌, ◌||◌, Option, Some, None}
use Rattle.std.specs.Prelude.{slice_index_or}
use Rattle.std.specs.Str.{bytes_eq}
use Rattle.std.specs.FinMap as finmap
use Rattle.bike_fields.specs.NameKinds.{kind_text}
use Rattle.bike_fields.specs.declared.name_kind.NameKind.{NameKind}
use Rattle.bike_fields.specs.declared.name_kind.NameKind.TheVariants as named
use Rattle.bike_catalogue.specs.Rows.{SystemRow, MoreNameRow}
use Rattle.bike_operator.specs.declared.limits.TheConstants.{MOST_FURTHER_NAMES}
use Rattle.bike_operator.specs.Operator.{Operator, NameKey, name_key}

-- the parts of the key of a further name
abbrev pub part_at : NameKey → ℕ → List ℕ
part_at key n = slice_index_or key n []

-- the system has this identifier, or this language
abbrev pub is_system : Option SystemRow → List ℕ → Bool
is_system None id = false
is_system (Some x) id = bytes_eq x.system_id id

abbrev pub is_own_language : Option SystemRow → List ℕ → Bool
is_own_language None language = false
is_own_language (Some x) language = bytes_eq x.language language

-- THE TABLE: what has a name. A plan's description has the plan's identifier.
abbrev pub has_named : Operator → NameKind → List ℕ → Bool
has_named s named.System id = is_system s.system id
has_named s named.Station id = finmap.contains_key s.stations id
has_named s named.Type id = finmap.contains_key s.types id
has_named s named.Plan id = finmap.contains_key s.plans id
has_named s named.Description id = finmap.contains_key s.plans id
has_named s named.Region id = finmap.contains_key s.regions id

-- it has a name in the language
abbrev pub has_language : Operator → NameKind → List ℕ → List ℕ → Bool
has_language s kind id language =
    is_own_language s.system language || finmap.contains_key s.more_names (name_key kind id language)

-- the further name is of that kind and identifier
abbrev pub is_name_of : NameKind → List ℕ → NameKey → Bool
is_name_of kind id key = bytes_eq (part_at key 0) (kind_text kind) && bytes_eq (part_at key 1) id

-- the further names of what has this kind and identifier, in byte order of their languages
abbrev pub further_names : Operator → NameKind → List ℕ → List MoreNameRow
further_names s kind id =
    map (λ e. record { language = part_at e.0 2; name = e.1 })
    (filter (λ e. is_name_of kind id e.0) (finmap.entries s.more_names))

-- it has as many as there may be
abbrev pub has_all_names : Operator → NameKind → List ℕ → Bool
has_all_names s kind id = nat_le MOST_FURTHER_NAMES (length (further_names s kind id))
