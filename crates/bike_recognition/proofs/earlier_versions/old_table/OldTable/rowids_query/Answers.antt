use Rattle.bike_recognition.proofs.EarlierVersions.OldTexts.{counts_rowids, riders_rowids}
use Rattle.bike_recognition.proofs.earlier_versions.old_table.OldTable.rowids_query.Goals as goal

pub returns-in-Stations : goal.returns-in-Stations
returns-in-Stations c = rw c.in-Stations.is c.stations_rowids.ensures

pub returns-in-Counts : goal.returns-in-Counts
returns-in-Counts c = rw c.in-Counts.is counts_rowids

pub returns-in-Riders : goal.returns-in-Riders
returns-in-Riders c = rw c.in-Riders.is riders_rowids
