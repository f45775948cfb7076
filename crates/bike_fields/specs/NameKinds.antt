-- The words for what has names in further languages.
use Rattle.std.specs.Prelude.{ℕ, List, if◌then◌else◌, Option, Some, None, codes}
use Rattle.std.specs.Str.{bytes_eq}
use Rattle.bike_fields.specs.declared.name_kind.NameKind.{NameKind}
use Rattle.bike_fields.specs.declared.name_kind.NameKind.TheVariants.{System, Station, «Type», Plan, Description}
use Rattle.bike_fields.specs.declared.name_kind.NameKind.TheVariants.{Region}

abbrev pub kind_text : NameKind → List ℕ
kind_text System = codes "system"
kind_text Station = codes "station"
kind_text «Type» = codes "type"
kind_text Plan = codes "plan"
kind_text Description = codes "description"
kind_text Region = codes "region"

-- the kind of that word
unfoldable pub kind_of : List ℕ → Option NameKind
kind_of text =
    if bytes_eq text (codes "system") then Some System else (
    if bytes_eq text (codes "station") then Some Station else (
    if bytes_eq text (codes "type") then Some «Type» else (
    if bytes_eq text (codes "plan") then Some Plan else (
    if bytes_eq text (codes "description") then Some Description else (
    if bytes_eq text (codes "region") then Some Region else None)))))
