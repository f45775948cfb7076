use Rattle.bike_requests.proofs.reading.read_fields.Goals as goal

pub returns-in-text-5 : goal.returns-in-text-5
returns-in-text-5 c = rw c.in-text-5.is c.read_add_station.ensures

pub returns-in-text-6 : goal.returns-in-text-6
returns-in-text-6 c = rw c.in-text-6.is c.read_set_station.ensures

pub returns-in-text-10 : goal.returns-in-text-10
returns-in-text-10 c = rw c.in-text-10.is c.read_retire_bike.ensures

pub returns-in-text-16 : goal.returns-in-text-16
returns-in-text-16 c = rw c.in-text-16.is c.read_close_order.ensures

pub returns-in-text-21 : goal.returns-in-text-21
returns-in-text-21 c = rw c.in-text-21.is c.read_remove_name.ensures

pub returns-in-text-22 : goal.returns-in-text-22
returns-in-text-22 c = rw c.in-text-22.is c.read_change_system.ensures

pub returns-in-text-23 : goal.returns-in-text-23
returns-in-text-23 c = rw c.in-text-23.is c.read_move_station.ensures
