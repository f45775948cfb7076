use Rattle.bike_book.proofs.CatalogueBooks.{set_system, add_type, set_plan, add_region, add_station, set_station, set_region, add_name, change_system, move_station}
use Rattle.bike_book.proofs.NameBooks.{set_own_name, set_further_name, remove_name}
use Rattle.bike_book.proofs.PlanBooks.{add_plan}
use Rattle.bike_book.proofs.laws.books_catalogue.Goals as goal

pub returns-clause-set_system : goal.returns-clause-set_system
returns-clause-set_system c = set_system

pub returns-clause-add_plan : goal.returns-clause-add_plan
returns-clause-add_plan c = add_plan

pub returns-clause-add_type : goal.returns-clause-add_type
returns-clause-add_type c = add_type

pub returns-clause-set_plan : goal.returns-clause-set_plan
returns-clause-set_plan c = set_plan

pub returns-clause-add_region : goal.returns-clause-add_region
returns-clause-add_region c = add_region

pub returns-clause-add_station : goal.returns-clause-add_station
returns-clause-add_station c = add_station

pub returns-clause-set_station : goal.returns-clause-set_station
returns-clause-set_station c = set_station

pub returns-clause-set_region : goal.returns-clause-set_region
returns-clause-set_region c = set_region

pub returns-clause-add_name : goal.returns-clause-add_name
returns-clause-add_name c = add_name

pub returns-clause-set_own_name : goal.returns-clause-set_own_name
returns-clause-set_own_name c = set_own_name

pub returns-clause-set_further_name : goal.returns-clause-set_further_name
returns-clause-set_further_name c = set_further_name

pub returns-clause-remove_name : goal.returns-clause-remove_name
returns-clause-remove_name c = remove_name

pub returns-clause-change_system : goal.returns-clause-change_system
returns-clause-change_system c = change_system

pub returns-clause-move_station : goal.returns-clause-move_station
returns-clause-move_station c = move_station
