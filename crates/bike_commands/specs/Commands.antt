-- How a command is spelled.
use Rattle.std.specs.Prelude.{ℕ, List, [], ◌∷◌, ◌++◌, codes}
use Rattle.bike_fixed.specs.declared.micro.TheConstants.{GREATEST_COORDINATE}
use Rattle.bike_fields.specs.declared.numbers.TheConstants.{GREATEST_PRICE, LONGEST_TIME_TO_LIVE, MOST_CARRIED}
use Rattle.bike_fields.specs.declared.limits.TheConstants.{GREATEST_LATITUDE}
use Rattle.bike_fields.specs.Vehicle.{form_text, propulsion_text}
use Rattle.bike_fields.specs.NameKinds.{kind_text}
use Rattle.bike_texts.specs.Fields.{Field, Number, Fixed, Id, Language, Currency, Name, Ascii, Degrees, Metres}
use Rattle.bike_texts.specs.Fields.{Segments, End, Choice, Flag, Numbered, Dock, DockOrDepot, Serial, Payment, IdOrNone}
use Rattle.bike_texts.specs.Fields.{side_text, AreGood, IsSpelled, IsWritten, fields_text}
use Rattle.bike_commands.specs.declared.command.Command.{Command}
use Rattle.bike_commands.specs.declared.command.Command.TheVariants as command

-- THE TABLE: each command's word ..
abbrev pub word_of : Command → List ℕ
word_of (command.SetSystem s) = codes "set-system"
word_of (command.AddPlan p) = codes "add-plan"
word_of (command.AddType t) = codes "add-type"
word_of (command.SetPlan type_id plan) = codes "set-plan"
word_of (command.AddStation s) = codes "add-station"
word_of (command.SetStation station installed renting returning) = codes "set-station"
word_of (command.MarkDock station dock broken) = codes "mark-dock"
word_of (command.AddBike bike type_id) = codes "add-bike"
word_of (command.MarkBike bike disabled) = codes "mark-bike"
word_of (command.RetireBike bike) = codes "retire-bike"
word_of (command.AddTruck truck capacity) = codes "add-truck"
word_of (command.AddRider rider) = codes "add-rider"
word_of (command.SetRider rider blocked) = codes "set-rider"
word_of (command.TopUp rider amount) = codes "top-up"
word_of (command.Start rider station dock) = codes "start"
word_of (command.End bike station dock) = codes "end"
word_of (command.Recover rental) = codes "recover"
word_of (command.Refund rental amount) = codes "refund"
word_of (command.OpenOrder truck from_end to_end type_id count) = codes "open-order"
word_of (command.Load truck order bike) = codes "load"
word_of (command.Unload truck order bike side dock) = codes "unload"
word_of (command.CloseOrder order) = codes "close-order"
word_of (command.AddRegion r) = codes "add-region"
word_of (command.SetRegion station region) = codes "set-region"
word_of (command.AddName kind id language name) = codes "add-name"
word_of (command.SetName kind id language name) = codes "set-name"
word_of (command.RemoveName kind id language) = codes "remove-name"
word_of (command.ChangeSystem x) = codes "change-system"
word_of (command.MoveStation station p) = codes "move-station"
word_of (command.AddDocks station count) = codes "add-docks"

-- .. and its fields, in order
abbrev pub fields_of : Command → List Field
fields_of (command.SetSystem s) =
    Id s.system_id ∷ Language s.language ∷ Name s.name ∷ Ascii s.opening_hours ∷ Ascii s.feed_contact_email
    ∷ Ascii s.timezone ∷ Currency s.currency ∷ Ascii s.base_url ∷ Number 0 LONGEST_TIME_TO_LIVE s.ttl ∷ []
fields_of (command.AddPlan p) =
    Id p.plan_id ∷ Name p.name ∷ Number 0 GREATEST_PRICE p.price ∷ Flag p.taxable ∷ Name p.description
    ∷ Segments p.segments ∷ []
fields_of (command.AddType t) =
    Id t.type_id ∷ Name t.name ∷ Fixed (form_text t.form) ∷ Fixed (propulsion_text t.propulsion)
    ∷ Metres t.propulsion t.max_range ∷ Id t.plan_id ∷ []
fields_of (command.SetPlan type_id plan) = Id type_id ∷ Id plan ∷ []
fields_of (command.AddStation s) =
    Id s.station_id ∷ Name s.name ∷ Degrees GREATEST_LATITUDE s.lat ∷ Degrees GREATEST_COORDINATE s.lon ∷ Dock s.docks
    ∷ []
fields_of (command.SetStation station installed renting returning) =
    Id station ∷ Flag installed ∷ Flag renting ∷ Flag returning ∷ []
fields_of (command.MarkDock station dock broken) =
    Id station ∷ Dock dock ∷ Choice (codes "broken") (codes "working") broken ∷ []
fields_of (command.AddBike bike type_id) = Numbered bike ∷ Id type_id ∷ []
fields_of (command.MarkBike bike disabled) = Numbered bike ∷ Choice (codes "disabled") (codes "fit") disabled ∷ []
fields_of (command.RetireBike bike) = Numbered bike ∷ []
fields_of (command.AddTruck truck capacity) = Numbered truck ∷ Number 1 MOST_CARRIED capacity ∷ []
fields_of (command.AddRider rider) = Numbered rider ∷ []
fields_of (command.SetRider rider blocked) = Numbered rider ∷ Choice (codes "blocked") (codes "open") blocked ∷ []
fields_of (command.TopUp rider amount) = Numbered rider ∷ Payment amount ∷ []
fields_of (command.Start rider station dock) = Numbered rider ∷ Id station ∷ Dock dock ∷ []
fields_of (command.End bike station dock) = Numbered bike ∷ Id station ∷ Dock dock ∷ []
fields_of (command.Recover rental) = Serial rental ∷ []
fields_of (command.Refund rental amount) = Serial rental ∷ Payment amount ∷ []
fields_of (command.OpenOrder truck from_end to_end type_id count) =
    Numbered truck ∷ End from_end ∷ End to_end ∷ Id type_id ∷ Number 1 MOST_CARRIED count ∷ []
fields_of (command.Load truck order bike) = Numbered truck ∷ Serial order ∷ Numbered bike ∷ []
fields_of (command.Unload truck order bike side dock) =
    Numbered truck ∷ Serial order ∷ Numbered bike ∷ Fixed (side_text side) ∷ DockOrDepot dock ∷ []
fields_of (command.CloseOrder order) = Serial order ∷ []
fields_of (command.AddRegion r) = Id r.region_id ∷ Name r.name ∷ []
fields_of (command.SetRegion station region) = Id station ∷ IdOrNone region ∷ []
fields_of (command.AddName kind id language name) = Fixed (kind_text kind) ∷ Id id ∷ Language language ∷ Name name ∷ []
fields_of (command.SetName kind id language name) = Fixed (kind_text kind) ∷ Id id ∷ Language language ∷ Name name ∷ []
fields_of (command.RemoveName kind id language) = Fixed (kind_text kind) ∷ Id id ∷ Language language ∷ []
fields_of (command.ChangeSystem x) =
    Name x.name ∷ Ascii x.opening_hours ∷ Ascii x.feed_contact_email ∷ Ascii x.timezone ∷ Ascii x.base_url
    ∷ Number 0 LONGEST_TIME_TO_LIVE x.ttl ∷ []
fields_of (command.MoveStation station p) =
    Id station ∷ Degrees GREATEST_LATITUDE p.lat ∷ Degrees GREATEST_COORDINATE p.lon ∷ []
fields_of (command.AddDocks station count) = Id station ∷ Dock count ∷ []

-- the fields keep their bounds, as those of every command of the program do
abbrev pub IsCommand : Command → Type 0
IsCommand c = AreGood (fields_of c)

-- the text spells the command
abbrev pub IsSpelling : List ℕ → Command → Type 0
IsSpelling text c = IsSpelled text (word_of c) (fields_of c)

-- .. with its coordinates as they are written
abbrev pub IsWrittenSpelling : List ℕ → Command → Type 0
IsWrittenSpelling text c = IsWritten text (word_of c) (fields_of c)

-- the one text that is written for a command
abbrev pub text_of : Command → List ℕ
text_of c = word_of c ++ fields_text (fields_of c)
