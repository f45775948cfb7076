-- The texts of a row's columns.
use Rattle.std.specs.Prelude.{◌∷◌, []}
use Rattle.bike_batch.specs.Rows.{Record}
use Rattle.bike_batch.specs.declared.table.Columns.{Columns}

abbrev pub texts_of : Columns → Record
texts_of row = row.station_id.now ∷ row.name.now ∷ row.lat.now ∷ row.lon.now ∷ row.docks.now ∷ []
