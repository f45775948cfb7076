use Rattle.bike_core.proofs.Views.{finds_at, region_named}
use Rattle.bike_core.proofs.decision.decide.Goals as goal

pub returns-in-SetSystem-clause-decides : goal.returns-in-SetSystem-clause-decides
returns-in-SetSystem-clause-decides c = rw c.in-SetSystem.is (λ s e. c.decide_set_system.ensures.decides s c.args.now e)

pub returns-in-SetSystem-clause-found : goal.returns-in-SetSystem-clause-found
returns-in-SetSystem-clause-found c = finds_at c.args.view.now c.args.now c.args.command.now c.decide_set_system.result (rw c.in-SetSystem.is c.decide_set_system.ensures.found)

pub returns-in-AddPlan-clause-decides : goal.returns-in-AddPlan-clause-decides
returns-in-AddPlan-clause-decides c = rw c.in-AddPlan.is (λ s e. c.decide_add_plan.ensures.decides s c.args.now e)

pub returns-in-AddPlan-clause-found : goal.returns-in-AddPlan-clause-found
returns-in-AddPlan-clause-found c = finds_at c.args.view.now c.args.now c.args.command.now c.decide_add_plan.result (rw c.in-AddPlan.is c.decide_add_plan.ensures.found)

pub returns-in-AddType-clause-decides : goal.returns-in-AddType-clause-decides
returns-in-AddType-clause-decides c = rw c.in-AddType.is (λ s e. c.decide_add_type.ensures.decides s c.args.now e)

pub returns-in-AddType-clause-found : goal.returns-in-AddType-clause-found
returns-in-AddType-clause-found c = finds_at c.args.view.now c.args.now c.args.command.now c.decide_add_type.result (rw c.in-AddType.is c.decide_add_type.ensures.found)

pub returns-in-SetPlan-clause-decides : goal.returns-in-SetPlan-clause-decides
returns-in-SetPlan-clause-decides c = rw c.in-SetPlan.is (λ s e. c.decide_set_plan.ensures.decides s c.args.now e)

pub returns-in-SetPlan-clause-found : goal.returns-in-SetPlan-clause-found
returns-in-SetPlan-clause-found c = finds_at c.args.view.now c.args.now c.args.command.now c.decide_set_plan.result (rw c.in-SetPlan.is c.decide_set_plan.ensures.found)

pub returns-in-MarkDock-clause-decides : goal.returns-in-MarkDock-clause-decides
returns-in-MarkDock-clause-decides c = rw c.in-MarkDock.is (λ s e. c.decide_mark_dock.ensures.decides s c.args.now e)

pub returns-in-MarkDock-clause-found : goal.returns-in-MarkDock-clause-found
returns-in-MarkDock-clause-found c = finds_at c.args.view.now c.args.now c.args.command.now c.decide_mark_dock.result (rw c.in-MarkDock.is c.decide_mark_dock.ensures.found)

pub returns-in-AddBike-clause-decides : goal.returns-in-AddBike-clause-decides
returns-in-AddBike-clause-decides c = rw c.in-AddBike.is (λ s e. c.decide_add_bike.ensures.decides s c.args.now e)

pub returns-in-AddBike-clause-found : goal.returns-in-AddBike-clause-found
returns-in-AddBike-clause-found c = finds_at c.args.view.now c.args.now c.args.command.now c.decide_add_bike.result (rw c.in-AddBike.is c.decide_add_bike.ensures.found)

pub returns-in-MarkBike-clause-decides : goal.returns-in-MarkBike-clause-decides
returns-in-MarkBike-clause-decides c = rw c.in-MarkBike.is (λ s e. c.decide_mark_bike.ensures.decides s c.args.now e)

pub returns-in-MarkBike-clause-found : goal.returns-in-MarkBike-clause-found
returns-in-MarkBike-clause-found c = finds_at c.args.view.now c.args.now c.args.command.now c.decide_mark_bike.result (rw c.in-MarkBike.is c.decide_mark_bike.ensures.found)

pub returns-in-RetireBike-clause-decides : goal.returns-in-RetireBike-clause-decides
returns-in-RetireBike-clause-decides c = rw c.in-RetireBike.is (λ s e. c.decide_retire_bike.ensures.decides s c.args.now e)

pub returns-in-RetireBike-clause-found : goal.returns-in-RetireBike-clause-found
returns-in-RetireBike-clause-found c = finds_at c.args.view.now c.args.now c.args.command.now c.decide_retire_bike.result (rw c.in-RetireBike.is c.decide_retire_bike.ensures.found)

pub returns-in-AddTruck-clause-decides : goal.returns-in-AddTruck-clause-decides
returns-in-AddTruck-clause-decides c = rw c.in-AddTruck.is (λ s e. c.decide_add_truck.ensures.decides s c.args.now e)

pub returns-in-AddTruck-clause-found : goal.returns-in-AddTruck-clause-found
returns-in-AddTruck-clause-found c = finds_at c.args.view.now c.args.now c.args.command.now c.decide_add_truck.result (rw c.in-AddTruck.is c.decide_add_truck.ensures.found)

pub returns-in-AddRider-clause-decides : goal.returns-in-AddRider-clause-decides
returns-in-AddRider-clause-decides c = rw c.in-AddRider.is (λ s e. c.decide_add_rider.ensures.decides s c.args.now e)

pub returns-in-AddRider-clause-found : goal.returns-in-AddRider-clause-found
returns-in-AddRider-clause-found c = finds_at c.args.view.now c.args.now c.args.command.now c.decide_add_rider.result (rw c.in-AddRider.is c.decide_add_rider.ensures.found)

pub returns-in-SetRider-clause-decides : goal.returns-in-SetRider-clause-decides
returns-in-SetRider-clause-decides c = rw c.in-SetRider.is (λ s e. c.decide_set_rider.ensures.decides s c.args.now e)

pub returns-in-SetRider-clause-found : goal.returns-in-SetRider-clause-found
returns-in-SetRider-clause-found c = finds_at c.args.view.now c.args.now c.args.command.now c.decide_set_rider.result (rw c.in-SetRider.is c.decide_set_rider.ensures.found)

pub returns-in-OpenOrder-clause-decides : goal.returns-in-OpenOrder-clause-decides
returns-in-OpenOrder-clause-decides c = rw c.in-OpenOrder.is (λ s e. c.decide_open_order.ensures.decides s c.args.now e)

pub returns-in-OpenOrder-clause-found : goal.returns-in-OpenOrder-clause-found
returns-in-OpenOrder-clause-found c = finds_at c.args.view.now c.args.now c.args.command.now c.decide_open_order.result (rw c.in-OpenOrder.is c.decide_open_order.ensures.found)

pub returns-in-Load-clause-decides : goal.returns-in-Load-clause-decides
returns-in-Load-clause-decides c = rw c.in-Load.is (λ s e. c.decide_load.ensures.decides s c.args.now e)

pub returns-in-Load-clause-found : goal.returns-in-Load-clause-found
returns-in-Load-clause-found c = finds_at c.args.view.now c.args.now c.args.command.now c.decide_load.result (rw c.in-Load.is c.decide_load.ensures.found)

pub returns-in-Unload-clause-decides : goal.returns-in-Unload-clause-decides
returns-in-Unload-clause-decides c = rw c.in-Unload.is (λ s e. c.decide_unload.ensures.decides s c.args.now e)

pub returns-in-Unload-clause-found : goal.returns-in-Unload-clause-found
returns-in-Unload-clause-found c = finds_at c.args.view.now c.args.now c.args.command.now c.decide_unload.result (rw c.in-Unload.is c.decide_unload.ensures.found)

pub returns-in-CloseOrder-clause-decides : goal.returns-in-CloseOrder-clause-decides
returns-in-CloseOrder-clause-decides c = rw c.in-CloseOrder.is (λ s e. c.decide_close_order.ensures.decides s c.args.now e)

pub returns-in-CloseOrder-clause-found : goal.returns-in-CloseOrder-clause-found
returns-in-CloseOrder-clause-found c = finds_at c.args.view.now c.args.now c.args.command.now c.decide_close_order.result (rw c.in-CloseOrder.is c.decide_close_order.ensures.found)

pub returns-in-AddRegion-clause-decides : goal.returns-in-AddRegion-clause-decides
returns-in-AddRegion-clause-decides c = rw c.in-AddRegion.is (λ s e. c.decide_add_region.ensures.decides s c.args.now e)

pub returns-in-AddRegion-clause-found : goal.returns-in-AddRegion-clause-found
returns-in-AddRegion-clause-found c = finds_at c.args.view.now c.args.now c.args.command.now c.decide_add_region.result (rw c.in-AddRegion.is c.decide_add_region.ensures.found)

pub returns-in-SetRegion-clause-decides : goal.returns-in-SetRegion-clause-decides
returns-in-SetRegion-clause-decides c = rw (c.in-SetRegion.is, region_named c.as_ref.result c.in-SetRegion.region c.as_ref.ensures.value) (λ s e. c.decide_set_region.ensures.decides s c.args.now e)

pub returns-in-SetRegion-clause-found : goal.returns-in-SetRegion-clause-found
returns-in-SetRegion-clause-found c =
    finds_at c.args.view.now c.args.now c.args.command.now c.decide_set_region.result
    (rw (c.in-SetRegion.is, region_named c.as_ref.result c.in-SetRegion.region c.as_ref.ensures.value) c.decide_set_region.ensures.found)

pub returns-in-AddName-clause-decides : goal.returns-in-AddName-clause-decides
returns-in-AddName-clause-decides c = rw c.in-AddName.is (λ s e. c.decide_add_name.ensures.decides s c.args.now e)

pub returns-in-AddName-clause-found : goal.returns-in-AddName-clause-found
returns-in-AddName-clause-found c = finds_at c.args.view.now c.args.now c.args.command.now c.decide_add_name.result (rw c.in-AddName.is c.decide_add_name.ensures.found)

pub returns-in-SetName-clause-decides : goal.returns-in-SetName-clause-decides
returns-in-SetName-clause-decides c = rw c.in-SetName.is (λ s e. c.decide_set_name.ensures.decides s c.args.now e)

pub returns-in-SetName-clause-found : goal.returns-in-SetName-clause-found
returns-in-SetName-clause-found c = finds_at c.args.view.now c.args.now c.args.command.now c.decide_set_name.result (rw c.in-SetName.is c.decide_set_name.ensures.found)

pub returns-in-RemoveName-clause-decides : goal.returns-in-RemoveName-clause-decides
returns-in-RemoveName-clause-decides c = rw c.in-RemoveName.is (λ s e. c.decide_remove_name.ensures.decides s c.args.now e)

pub returns-in-RemoveName-clause-found : goal.returns-in-RemoveName-clause-found
returns-in-RemoveName-clause-found c = finds_at c.args.view.now c.args.now c.args.command.now c.decide_remove_name.result (rw c.in-RemoveName.is c.decide_remove_name.ensures.found)

pub returns-in-ChangeSystem-clause-decides : goal.returns-in-ChangeSystem-clause-decides
returns-in-ChangeSystem-clause-decides c = rw c.in-ChangeSystem.is (λ s e. c.decide_change_system.ensures.decides s c.args.now e)

pub returns-in-ChangeSystem-clause-found : goal.returns-in-ChangeSystem-clause-found
returns-in-ChangeSystem-clause-found c = finds_at c.args.view.now c.args.now c.args.command.now c.decide_change_system.result (rw c.in-ChangeSystem.is c.decide_change_system.ensures.found)

pub returns-in-MoveStation-clause-decides : goal.returns-in-MoveStation-clause-decides
returns-in-MoveStation-clause-decides c = rw c.in-MoveStation.is (λ s e. c.decide_move_station.ensures.decides s c.args.now e)

pub returns-in-MoveStation-clause-found : goal.returns-in-MoveStation-clause-found
returns-in-MoveStation-clause-found c = finds_at c.args.view.now c.args.now c.args.command.now c.decide_move_station.result (rw c.in-MoveStation.is c.decide_move_station.ensures.found)

pub returns-in-AddDocks-clause-decides : goal.returns-in-AddDocks-clause-decides
returns-in-AddDocks-clause-decides c = rw c.in-AddDocks.is (λ s e. c.decide_add_docks.ensures.decides s c.args.now e)

pub returns-in-AddDocks-clause-found : goal.returns-in-AddDocks-clause-found
returns-in-AddDocks-clause-found c = finds_at c.args.view.now c.args.now c.args.command.now c.decide_add_docks.result (rw c.in-AddDocks.is c.decide_add_docks.ensures.found)
