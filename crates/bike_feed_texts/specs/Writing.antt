-- What the writing functions write, and the texts between which the elements of a feed's list stand.
use Rattle.std.specs.Prelude.{ℕ, List, [], ◌∷◌, ◌++◌, true, false, codes}
use Rattle.bike_catalogue.specs.Rows.{MoreNameRow, SystemRow}
use Rattle.bike_json.specs.Outputs.{OutputState}
use Rattle.bike_json.specs.Escapes.{string_text}
use Rattle.bike_json.specs.Tree.{Tree, Members, comma, text_of, members_text}
use Rattle.bike_json.specs.State.{Place, Wrote, has_more}
use Rattle.bike_json.specs.declared.level.Level.{Level}
use Rattle.bike_json.specs.declared.level.Level.TheVariants.{Done, FilledObject}
use Rattle.bike_operator.specs.declared.station_info.Counts.{Counts}
use Rattle.bike_operator.specs.declared.station_info.StationInfo.{StationInfo}
use Rattle.bike_feed_texts.specs.Elements.{members, CountsRow, ReportRow}
use Rattle.bike_feed_texts.specs.Trees.{head_members, system_members, contact_members}

-- a value was written, behind a comma where it isn't the first
pub record WroteValue (from to : Place) (old new : OutputState) (value : Tree) : Type 0 where
  pub are : Wrote from to old new (comma (has_more from.top) ++ text_of value)

-- a member was written
pub record WroteMember (from to : Place) (old new : OutputState) (name : List ℕ) (value : Tree) : Type 0 where
  pub are : Wrote from to old new (comma (has_more from.top) ++ (string_text name ++ 58 ∷ text_of value))

-- members were written
pub record WroteMembers (from to : Place) (old new : OutputState) (all : Members) : Type 0 where
  pub are : Wrote from to old new (members_text (has_more from.top) all)

-- a feed up to its data
abbrev pub head_text : SystemRow → ℕ → List ℕ
head_text x seconds =
    123 ∷ (members_text false (members (head_members x seconds)) ++ 44 ∷ (string_text (codes "data") ++ 58 ∷ []))

-- a feed up to the first element of its list, and behind the last
abbrev pub list_head_text : SystemRow → ℕ → List ℕ → List ℕ
list_head_text x seconds name = head_text x seconds ++ 123 ∷ (string_text name ++ 58 ∷ 91 ∷ [])

abbrev pub list_end_text : List ℕ
list_end_text = 93 ∷ 125 ∷ 125 ∷ []

-- `system_information` up to the first of its languages, and behind the last
abbrev pub information_head_text : SystemRow → ℕ → List ℕ
information_head_text x seconds =
    head_text x seconds ++ 123 ∷ (members_text false (members (system_members x))
    ++ 44 ∷ (string_text (codes "languages") ++ 58 ∷ 91 ∷ []))

abbrev pub information_end_text : SystemRow → List MoreNameRow → List ℕ
information_end_text x names = 93 ∷ (members_text true (members (contact_members x names)) ++ 125 ∷ 125 ∷ [])

-- the levels round the data, and round the elements of a list
abbrev pub in_feed : List Level
in_feed = FilledObject ∷ Done ∷ []

abbrev pub in_list : List Level
in_list = FilledObject ∷ in_feed

-- what a status tells of a station, and its counts
abbrev pub report_row : StationInfo → ReportRow
report_row x = record {
  station_id = x.station.station_id;
  is_installed = x.is_installed;
  is_renting = x.is_renting;
  is_returning = x.is_returning;
  reported = x.reported;
}

abbrev pub counts_row : Counts → CountsRow
counts_row c = record {
  available = c.available;
  by_type = c.by_type.items;
  disabled = c.disabled;
  docks_available = c.docks_available;
  docks_disabled = c.docks_disabled;
}
