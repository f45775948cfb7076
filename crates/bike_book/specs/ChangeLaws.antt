-- The rows that book each record that an accepted command puts, adds or removes.
use Rattle.std.specs.Prelude.{◌≡◌, ◌+◌, ℕ, suc, ℤ, pos, List, [], ◌∷◌, Bool, true, Option, None}
use Rattle.std.specs.Borrow.{Bor}
use Rattle.std.specs.FinMap as fin
use Rattle.bike_fields.specs.declared.name_kind.NameKind.{NameKind}
use Rattle.bike_fields.specs.Values.{SegmentRow, PositionRow}
use Rattle.bike_catalogue.specs.Rows.{PlanRow, TypeRow, RegionRow, StationRow, SettingsRow, SystemRow}
use Rattle.bike_ledger.specs.Ledger.{balance_of, refunded_of}
use Rattle.bike_texts.specs.declared.ends.OrderEnd.{OrderEnd}
use Rattle.bike_operator.specs.Operator.{Operator, name_key, last_number}
use Rattle.bike_operator.specs.Counts.{docks_broken}
use Rattle.bike_operator.specs.Sound.{AreNamesSound}
use Rattle.bike_laws.specs.SingleSteps.Numbers.{occupied_docks}
use Rattle.bike_accepted.specs.declared.change.Change.{Change}
use Rattle.bike_accepted.specs.declared.change.Change.TheVariants as change
use Rattle.bike_accepted.specs.Effects.{after_change}
use Rattle.bike_book.specs.Tables.{Segments}
use Rattle.bike_book.specs.Rows.{segment_row}
use Rattle.bike_book.specs.Stored.{Listed, IsListing}
use Rattle.bike_book.specs.ByType.{types_at}
use Rattle.bike_book.specs.Writes.{RowWrite, Add, record_write}
use Rattle.bike_book.specs.Between.{Leads}

-- the segments of a plan, each a row that is added, from a place on
abbrev pub segment_writes : List ℕ → ℕ → List SegmentRow → List RowWrite
segment_writes plan seq [] = []
segment_writes plan seq (g ∷ gs) = Add Segments (segment_row plan seq g) ∷ segment_writes plan (suc seq) gs

-- the rows of a plan's segments, beside its own
abbrev pub segments_of : Change → List RowWrite
segments_of (change.AddPlan p) = segment_writes p.now.plan_id 1 p.now.segments
segments_of c = []

abbrev pub change_writes : Change → List RowWrite
change_writes c = record_write c ∷ segments_of c

module _ (s : Operator) (m : Listed) where
  -- Its rows book the record, and the same rows are listed after it.
  abbrev pub BooksChange : Change → Type 0
  BooksChange c = Leads (change_writes c) s m (after_change c s) m

  -- ---- the catalogue

  -- the system, whether it was set or not
  abbrev pub SetSystemLaw : Type 0
  SetSystemLaw = (x : Bor SystemRow) → BooksChange (change.SetSystem x)

  -- other settings of the system, where it is set
  abbrev pub ChangeSystemLaw : Type 0
  ChangeSystemLaw = (x : Bor SettingsRow) → BooksChange (change.ChangeSystem x)

  -- a plan that isn't there
  abbrev pub AddPlanLaw : Type 0
  AddPlanLaw = (p : Bor PlanRow) → fin.get s.plans p.now.plan_id ≡ None → BooksChange (change.AddPlan p)

  -- a type, whether it was there or not
  abbrev pub AddTypeLaw : Type 0
  AddTypeLaw = (t : Bor TypeRow) → BooksChange (change.AddType t)

  -- the default plan of a type, where it is there
  abbrev pub SetPlanLaw : Type 0
  SetPlanLaw = (type_id plan : Bor (List ℕ)) → BooksChange (change.SetPlan type_id plan)

  -- a region, whether it was there or not
  abbrev pub AddRegionLaw : Type 0
  AddRegionLaw = (r : Bor RegionRow) → BooksChange (change.AddRegion r)

  -- a station that isn't there, with no bicycle in a dock of it and no broken dock
  abbrev pub AddStationLaw : Type 0
  AddStationLaw =
      (x : Bor StationRow) (reported : ℕ) → fin.get s.stations x.now.station_id ≡ None
      → occupied_docks s x.now.station_id ≡ 0 → docks_broken s x.now.station_id x.now.docks ≡ 0
      → types_at s x.now.station_id ≡ []
      → BooksChange (change.AddStation x reported)

  -- the flags of a station, where it is there, and its report
  abbrev pub SetStationLaw : Type 0
  SetStationLaw =
      (station : Bor (List ℕ)) (installed renting returning : Bool) (reported : ℕ)
      → BooksChange (change.SetStation station installed renting returning reported)

  -- another position of a station, where it is there
  abbrev pub MoveStationLaw : Type 0
  MoveStationLaw = (station : Bor (List ℕ)) (p : Bor PositionRow) → BooksChange (change.MoveStation station p)

  -- the region of a station, where it is there, or none
  abbrev pub SetRegionLaw : Type 0
  SetRegionLaw =
      (station : Bor (List ℕ)) (region : Option (Bor (List ℕ))) → BooksChange (change.SetRegion station region)

  -- a name in a further language, whether it was there or not, where those that are there stand under three texts
  abbrev pub AddNameLaw : Type 0
  AddNameLaw =
      (kind : NameKind) (id language name : Bor (List ℕ)) → AreNamesSound s
      → BooksChange (change.AddName kind id language name)

  -- a name in the system's language, where what has it is there
  abbrev pub SetOwnNameLaw : Type 0
  SetOwnNameLaw = (kind : NameKind) (id name : Bor (List ℕ)) → BooksChange (change.SetOwnName kind id name)

  -- a name in a further language that is there, where all stand under three texts
  abbrev pub SetFurtherNameLaw : Type 0
  SetFurtherNameLaw =
      (kind : NameKind) (id language name : Bor (List ℕ)) → AreNamesSound s
      → fin.contains_key s.more_names (name_key kind id.now language.now) ≡ true
      → BooksChange (change.SetFurtherName kind id language name)

  -- a name in a further language removed, whether it was there or not
  abbrev pub RemoveNameLaw : Type 0
  RemoveNameLaw =
      (kind : NameKind) (id language : Bor (List ℕ)) → AreNamesSound s
      → BooksChange (change.RemoveName kind id language)

  -- ---- bicycles, trucks and riders

  -- a bicycle that isn't there
  abbrev pub AddBikeLaw : Type 0
  AddBikeLaw =
      (bike : ℕ) (type_id : Bor (List ℕ)) → fin.get s.bikes bike ≡ None → BooksChange (change.AddBike bike type_id)

  -- a truck, whether it was there or not
  abbrev pub AddTruckLaw : Type 0
  AddTruckLaw = (truck capacity : ℕ) → BooksChange (change.AddTruck truck capacity)

  -- a rider whose balance is 0, as of one who isn't there
  abbrev pub AddRiderLaw : Type 0
  AddRiderLaw = (rider : ℕ) → balance_of rider s.entries.items ≡ pos 0 → BooksChange (change.AddRider rider)

  -- a rider who is there
  abbrev pub SetRiderLaw : Type 0
  SetRiderLaw =
      (rider : ℕ) (blocked : Bool) → fin.contains_key s.riders rider ≡ true
      → BooksChange (change.SetRider rider blocked)

  -- ---- rentals and orders

  -- the next rental, of which no refund is booked
  abbrev pub AddRentalLaw : Type 0
  AddRentalLaw =
      (rental rider bike : ℕ) (plan from_station : Bor (List ℕ)) (start : ℕ) → rental ≡ last_number s.rentals + 1
      → refunded_of rental s.entries.items ≡ pos 0
      → BooksChange (change.AddRental rental rider bike plan from_station start)

  -- a rental closed, where it is there
  abbrev pub CloseRentalLaw : Type 0
  CloseRentalLaw =
      (rental : ℕ) (to_station : Option (Bor (List ℕ))) (finish : ℕ) (fare : ℤ)
      → BooksChange (change.CloseRental rental to_station finish fare)

  -- the next order
  abbrev pub AddOrderLaw : Type 0
  AddOrderLaw =
      (order truck : ℕ) (from_end to_end : Bor OrderEnd) (type_id : Bor (List ℕ)) (count : ℕ)
      → order ≡ last_number s.orders + 1
      → BooksChange (change.AddOrder order truck from_end to_end type_id count)

  -- how many of an order are delivered, and whether it is open, where it is there
  abbrev pub SetOrderLaw : Type 0
  SetOrderLaw = (order delivered : ℕ) (is_open : Bool) → BooksChange (change.SetOrder order delivered is_open)

-- The law holds of each operator whose rows are listed right.
abbrev pub Everywhere : (Operator → Listed → Type 0) → Type 0
Everywhere Law = (s : Operator) (m : Listed) → IsListing s m → Law s m
