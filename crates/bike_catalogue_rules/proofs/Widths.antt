-- How many columns the rows have that the rules of the catalogue read with others beside them.
use Rattle.std.proofs.Common.{◌≡◌, length}
use Rattle.sqlite_value.specs.Order.{Row}
use Rattle.sqlite_rules.specs.Lists.{Has}
use Rattle.sqlite.specs.Effect.{Database}
use Rattle.bike_book.specs.Tables.{Tables, Plans, Segments, Types, Regions, Stations, MoreNames}
use Rattle.bike_book.specs.declared.columns.plans.TheConstants as plans
use Rattle.bike_book.specs.declared.columns.segments.TheConstants as segments
use Rattle.bike_book.specs.declared.columns.types.TheConstants as types
use Rattle.bike_book.specs.declared.columns.regions.TheConstants as regions
use Rattle.bike_book.specs.declared.columns.stations.TheConstants as stations
use Rattle.bike_book.specs.declared.columns.more_names.TheConstants as more_names
use Rattle.bike_schema.specs.Tables.{HasTables, tables_of}
use Rattle.bike_judges.proofs.QueryLaws.{stored_width}

-- The rows have all columns of their tables.
pub record AreWide (t : Tables) : Type 0 where
  pub plans : (r : Row) → Has t.plans r → length r ≡ plans.COLUMNS
  pub segments : (r : Row) → Has t.segments r → length r ≡ segments.COLUMNS
  pub types : (r : Row) → Has t.types r → length r ≡ types.COLUMNS
  pub regions : (r : Row) → Has t.regions r → length r ≡ regions.COLUMNS
  pub stations : (r : Row) → Has t.stations r → length r ≡ stations.COLUMNS
  pub more_names : (r : Row) → Has t.more_names r → length r ≡ more_names.COLUMNS

pub are_wide : (db : Database) → HasTables db → AreWide (tables_of db)
are_wide db has = record {
  plans = stored_width db has Plans;
  segments = stored_width db has Segments;
  types = stored_width db has Types;
  regions = stored_width db has Regions;
  stations = stored_width db has Stations;
  more_names = stored_width db has MoreNames;
}
