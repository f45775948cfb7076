use Rattle.std.proofs.Common.{sym}
use Rattle.bike_readings.specs.Views.{system_of}
use Rattle.bike_readings.proofs.CatalogueRows.{system_reading}
use Rattle.bike_catalogue_rules.proofs.names.FirstSystemLineFold.add.Goals as goal

pub of-requires : goal.of-requires
of-requires c = (system_reading.sound c.whole.result (system_of c.in-Some.system) (sym c.in-Some.ensures)).1.system_id

pub of-requires-2 : goal.of-requires-2
of-requires-2 c = (system_reading.sound c.whole.result (system_of c.in-Some.system) (sym c.in-Some.ensures)).1.language
