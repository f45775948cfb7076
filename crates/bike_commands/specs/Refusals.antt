-- The refusals, by number and name.
use Rattle.std.specs.Prelude.{ℕ, List, [], ◌∷◌, codes, Option, find, ◌==◌}
use Rattle.bike_commands.specs.declared.refusal.Refusal.{Refusal}
use Rattle.bike_commands.specs.declared.refusal.Refusal.TheVariants as r

-- the number that is printed
abbrev pub number_of : Refusal → ℕ
number_of r.UnknownStation = 1
number_of r.UnknownDock = 2
number_of r.UnknownBike = 3
number_of r.UnknownRider = 4
number_of r.UnknownRental = 5
number_of r.UnknownType = 6
number_of r.UnknownPlan = 7
number_of r.UnknownTruck = 8
number_of r.UnknownOrder = 9
number_of r.AlreadyThere = 10
number_of r.BadField = 11
number_of r.DockEmpty = 12
number_of r.DockFull = 13
number_of r.DockBroken = 14
number_of r.BikeDisabled = 15
number_of r.NotRenting = 16
number_of r.NotReturning = 17
number_of r.RiderBlocked = 18
number_of r.BalanceNegative = 19
number_of r.RiderIsRiding = 20
number_of r.NotRented = 21
number_of r.NotInDepot = 22
number_of r.BikeRetired = 23
number_of r.TruckTooSmall = 24
number_of r.WrongPlace = 25
number_of r.WrongType = 26
number_of r.OrderClosed = 27
number_of r.OrderFilled = 28
number_of r.BikesOnTruck = 29
number_of r.RefundTooLarge = 30
number_of r.RentalOpen = 31
number_of r.LimitReached = 32
number_of r.KeyReused = 33
number_of r.TruckFull = 34
number_of r.RentalClosed = 35
number_of r.WrongTruckOrEnds = 36
number_of r.UnknownRegion = 37
number_of r.SystemMissing = 38
number_of r.UnknownName = 39

-- the name that is printed
abbrev pub name_of : Refusal → List ℕ
name_of r.UnknownStation = codes "unknown_station"
name_of r.UnknownDock = codes "unknown_dock"
name_of r.UnknownBike = codes "unknown_bike"
name_of r.UnknownRider = codes "unknown_rider"
name_of r.UnknownRental = codes "unknown_rental"
name_of r.UnknownType = codes "unknown_type"
name_of r.UnknownPlan = codes "unknown_plan"
name_of r.UnknownTruck = codes "unknown_truck"
name_of r.UnknownOrder = codes "unknown_order"
name_of r.AlreadyThere = codes "already_there"
name_of r.BadField = codes "bad_field"
name_of r.DockEmpty = codes "dock_empty"
name_of r.DockFull = codes "dock_full"
name_of r.DockBroken = codes "dock_broken"
name_of r.BikeDisabled = codes "bike_disabled"
name_of r.NotRenting = codes "not_renting"
name_of r.NotReturning = codes "not_returning"
name_of r.RiderBlocked = codes "rider_blocked"
name_of r.BalanceNegative = codes "balance_negative"
name_of r.RiderIsRiding = codes "rider_is_riding"
name_of r.NotRented = codes "not_rented"
name_of r.NotInDepot = codes "not_in_depot"
name_of r.BikeRetired = codes "bike_retired"
name_of r.TruckTooSmall = codes "truck_too_small"
name_of r.WrongPlace = codes "wrong_place"
name_of r.WrongType = codes "wrong_type"
name_of r.OrderClosed = codes "order_closed"
name_of r.OrderFilled = codes "order_filled"
name_of r.BikesOnTruck = codes "bikes_on_truck"
name_of r.RefundTooLarge = codes "refund_too_large"
name_of r.RentalOpen = codes "rental_open"
name_of r.LimitReached = codes "limit_reached"
name_of r.KeyReused = codes "key_reused"
name_of r.TruckFull = codes "truck_full"
name_of r.RentalClosed = codes "rental_closed"
name_of r.WrongTruckOrEnds = codes "wrong_truck_or_ends"
name_of r.UnknownRegion = codes "unknown_region"
name_of r.SystemMissing = codes "system_missing"
name_of r.UnknownName = codes "unknown_name"

-- all refusals, by number
abbrev pub refusals : List Refusal
refusals =
    r.UnknownStation ∷ r.UnknownDock ∷ r.UnknownBike ∷ r.UnknownRider ∷ r.UnknownRental ∷ r.UnknownType ∷
    r.UnknownPlan ∷ r.UnknownTruck ∷ r.UnknownOrder ∷ r.AlreadyThere ∷ r.BadField ∷ r.DockEmpty ∷
    r.DockFull ∷ r.DockBroken ∷ r.BikeDisabled ∷ r.NotRenting ∷ r.NotReturning ∷ r.RiderBlocked ∷
    r.BalanceNegative ∷ r.RiderIsRiding ∷ r.NotRented ∷ r.NotInDepot ∷ r.BikeRetired ∷ r.TruckTooSmall ∷
    r.WrongPlace ∷ r.WrongType ∷ r.OrderClosed ∷ r.OrderFilled ∷ r.BikesOnTruck ∷ r.RefundTooLarge ∷
    r.RentalOpen ∷ r.LimitReached ∷ r.KeyReused ∷ r.TruckFull ∷ r.RentalClosed ∷ r.WrongTruckOrEnds ∷
    r.UnknownRegion ∷ r.SystemMissing ∷ r.UnknownName ∷ []

-- the refusal that has the number
unfoldable pub refusal_of : ℕ → Option Refusal
refusal_of number = find (λ refusal. number_of refusal == number) refusals
