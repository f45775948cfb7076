use Rattle.std.proofs.Common.{[], ◌∷◌}
use Rattle.sqlite_value.specs.declared.value.Value.TheVariants.{Text}
use Rattle.bike_accepted.specs.declared.change.Change.TheVariants as change
use Rattle.bike_book.specs.Writes.{record_write}
use Rattle.bike_schema.proofs.MakesLemmas.{writes_told}
use Rattle.bike_writes.proofs.TextLemmas.{Makes, bindings}
use Rattle.bike_writes.proofs.NameTexts.{sets_system_name, sets_station_name, sets_type_name, sets_plan_name, sets_plan_description, sets_region_name}
use Rattle.bike_writes.proofs.names.set_own_name.Goals as goal
use Rattle.bike_writes.proofs.names.set_own_name.Goals.{in-Station, in-Type, in-Plan, in-Description, in-Region}

pub returns-in-System : goal.returns-in-System
returns-in-System g c = rw c.in-System.is (writes_told (sets_system_name c.args.id c.args.name) c.run.ensures (search bindings))

pub returns : goal.returns
returns g c =
    let id = c.args.id in
    let name = c.args.name in
    let makes : Makes c.match-kind.sql.now (Text id.now ∷ Text name.now ∷ []) (record_write (change.SetOwnName c.args.kind id name)) = elim c.match-kind.branch [
      | in-Station w ↦ rw (w.in-Station.is, w.sql-is) (sets_station_name id name)
      | in-Type w ↦ rw (w.in-Type.is, w.sql-is) (sets_type_name id name)
      | in-Plan w ↦ rw (w.in-Plan.is, w.sql-is) (sets_plan_name id name)
      | in-Description w ↦ rw (w.in-Description.is, w.sql-is) (sets_plan_description id name)
      | in-Region w ↦ rw (w.in-Region.is, w.sql-is) (sets_region_name id name)
    ] in
    writes_told makes c.run-2.ensures (search bindings)
