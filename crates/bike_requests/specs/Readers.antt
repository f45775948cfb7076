-- What is read of a command: a row of its word, the kinds of its fields, and the command that their values make.
use Rattle.std.specs.Prelude.{ℕ, List, [], ◌∷◌, Option, Some, None, option_map, if◌then◌else◌, codes}
use Rattle.std.specs.Str.{bytes_eq}
use Rattle.bike_fixed.specs.declared.micro.TheConstants.{GREATEST_COORDINATE}
use Rattle.bike_fields.specs.declared.limits.TheConstants.{GREATEST_LATITUDE}
use Rattle.bike_fields.specs.declared.numbers.TheConstants.{GREATEST_NUMBER, GREATEST_PAYMENT, GREATEST_PRICE}
use Rattle.bike_fields.specs.declared.numbers.TheConstants.{GREATEST_SERIAL, LONGEST_TIME_TO_LIVE, MOST_CARRIED}
use Rattle.bike_fields.specs.declared.numbers.TheConstants.{MOST_DOCKS}
use Rattle.bike_fields.specs.Values.{position_of_fields, position_within}
use Rattle.bike_catalogue.specs.Rows.{system_of_fields, plan_of_fields, plan_within, type_of_fields, type_within}
use Rattle.bike_catalogue.specs.Rows.{station_of_fields, station_within, region_of_fields, settings_of_fields}
use Rattle.bike_texts.specs.Parts.{Parts}
use Rattle.bike_texts.specs.Reading.{◌>>=◌, part_at}
use Rattle.bike_commands.specs.declared.command.Command.{Command}
use Rattle.bike_commands.specs.declared.command.Command.TheVariants as command
use Rattle.bike_texts.specs.Kinds.{Kind, Numbers, Idents, Languages, Currencies, Names, Asciis, Choices, Coordinates}
use Rattle.bike_texts.specs.Kinds.{Forms, Ranges, SegmentLists, Ends, IdentsOrNone, Sides, NameKinds, ◌&◌, Value}
use Rattle.bike_texts.specs.Kinds.{reads}
use Rattle.bike_requests.specs.Unread.{all_at}

-- truth values; riders, bicycles, trucks; docks, and 0 at the depot; rentals, orders; payments; bicycles on a truck
abbrev pub Flags : Kind
Flags = Choices (codes "true") (codes "false")

abbrev pub Numbereds : Kind
Numbereds = Numbers 1 GREATEST_NUMBER

abbrev pub Docks : Kind
Docks = Numbers 1 MOST_DOCKS

abbrev pub DocksOrDepot : Kind
DocksOrDepot = Numbers 0 MOST_DOCKS

abbrev pub Serials : Kind
Serials = Numbers 1 GREATEST_SERIAL

abbrev pub Payments : Kind
Payments = Numbers 1 GREATEST_PAYMENT

abbrev pub Few : Kind
Few = Numbers 1 MOST_CARRIED

abbrev pub Latitudes : Kind
Latitudes = Coordinates GREATEST_LATITUDE

abbrev pub Longitudes : Kind
Longitudes = Coordinates GREATEST_COORDINATE

-- the kinds of the longest row, and of those with a test across their fields
abbrev pub system_kind : Kind
system_kind =
    Idents & Languages & Names & Asciis & Asciis & Asciis & Currencies & Asciis & Numbers 0 LONGEST_TIME_TO_LIVE

abbrev pub plan_kind : Kind
plan_kind = Idents & Names & Numbers 0 GREATEST_PRICE & Flags & Names & SegmentLists

abbrev pub type_kind : Kind
type_kind = Idents & Names & Forms & Ranges & Idents

abbrev pub station_kind : Kind
station_kind = Idents & Names & Latitudes & Longitudes & Docks

abbrev pub position_kind : Kind
position_kind = Idents & Latitudes & Longitudes

-- a function of the values, one after the other
abbrev pub From : Kind → Type 0 → Type 0
From (k & l) R = From k (From l R)
From k R = Value k → R

-- .. at all of them
abbrev pub at_values : {R : Type 0} → (k : Kind) → From k R → Value k → R
at_values (k & l) f v = at_values l (at_values k f v.0) v.1
at_values k f v = f v

pub record Row : Type 0 where
  pub word : List ℕ
  pub kind : Kind
  pub made : Value kind → Option Command

-- a row whose fields make a command at all values, and one whose fields make one at some
abbrev pub row : List ℕ → (kind : Kind) → From kind Command → Row
row word kind make = record { word = word; kind = kind; made = λ v. Some (at_values kind make v) }

abbrev pub row_if : List ℕ → (kind : Kind) → From kind (Option Command) → Row
row_if word kind make = record { word = word; kind = kind; made = at_values kind make }

abbrev pub rows : List Row
rows =
    row (codes "set-system") system_kind
    (λ id language name hours email zone currency url ttl.
    command.SetSystem (system_of_fields id language name hours email zone currency url ttl))
    ∷ row_if (codes "add-plan") plan_kind
    (λ id name price taxable description segments.
    option_map command.AddPlan (plan_within (plan_of_fields id name price taxable description segments)))
    ∷ row_if (codes "add-type") type_kind
    (λ id name form range plan.
    option_map command.AddType (type_within (type_of_fields id name form range.0 range.1 plan)))
    ∷ row (codes "set-plan") (Idents & Idents) command.SetPlan
    ∷ row_if (codes "add-station") station_kind
    (λ id name lat lon docks. option_map command.AddStation (station_within (station_of_fields id name lat lon docks)))
    ∷ row (codes "set-station") (Idents & Flags & Flags & Flags) command.SetStation
    ∷ row (codes "mark-dock") (Idents & Docks & Choices (codes "broken") (codes "working")) command.MarkDock
    ∷ row (codes "add-bike") (Numbereds & Idents) command.AddBike
    ∷ row (codes "mark-bike") (Numbereds & Choices (codes "disabled") (codes "fit")) command.MarkBike
    ∷ row (codes "retire-bike") Numbereds command.RetireBike
    ∷ row (codes "add-truck") (Numbereds & Few) command.AddTruck
    ∷ row (codes "add-rider") Numbereds command.AddRider
    ∷ row (codes "set-rider") (Numbereds & Choices (codes "blocked") (codes "open")) command.SetRider
    ∷ row (codes "top-up") (Numbereds & Payments) command.TopUp
    ∷ row (codes "start") (Numbereds & Idents & Docks) command.Start
    ∷ row (codes "end") (Numbereds & Idents & Docks) command.End
    ∷ row (codes "recover") Serials command.Recover
    ∷ row (codes "refund") (Serials & Payments) command.Refund
    ∷ row (codes "open-order") (Numbereds & Ends & Ends & Idents & Few) command.OpenOrder
    ∷ row (codes "load") (Numbereds & Serials & Numbereds) command.Load
    ∷ row (codes "unload") (Numbereds & Serials & Numbereds & Sides & DocksOrDepot) command.Unload
    ∷ row (codes "close-order") Serials command.CloseOrder
    ∷ row (codes "add-region") (Idents & Names) (λ id name. command.AddRegion (region_of_fields id name))
    ∷ row (codes "set-region") (Idents & IdentsOrNone) command.SetRegion
    ∷ row (codes "add-name") (NameKinds & Idents & Languages & Names) command.AddName
    ∷ row (codes "set-name") (NameKinds & Idents & Languages & Names) command.SetName
    ∷ row (codes "remove-name") (NameKinds & Idents & Languages) command.RemoveName
    ∷ row (codes "change-system") (Names & Asciis & Asciis & Asciis & Asciis & Numbers 0 LONGEST_TIME_TO_LIVE)
    (λ name hours email zone url ttl. command.ChangeSystem (settings_of_fields name hours email zone url ttl))
    ∷ row_if (codes "move-station") position_kind
    (λ station lat lon. option_map (command.MoveStation station) (position_within (position_of_fields lat lon)))
    ∷ row (codes "add-docks") (Idents & Docks) command.AddDocks
    ∷ []

abbrev pub row_by : List Row → List ℕ → Option Row
row_by [] word = None
row_by (r ∷ rs) word = if bytes_eq word r.word then Some r else row_by rs word

-- what is read of a row's fields
abbrev pub made_at : Row → Parts → Option Command
made_at r ps = all_at (reads r.kind) ps >>= r.made

unfoldable pub command_by : List ℕ → Parts → Option Command
command_by word ps = row_by rows word >>= λ r. made_at r ps

unfoldable pub command_at : Parts → Option Command
command_at ps = do
  word ← part_at ps
  command_by word.0 word.1
