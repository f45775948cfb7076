-- The statements on stations and docks.
use Rattle.std.proofs.Common.{List, ℕ, pos, Bool, Option, [], ◌∷◌, codes, refl}
use Rattle.std.specs.Borrow.{Bor}
use Rattle.sqlite_value.specs.declared.value.Value.TheVariants.{Int, Text}
use Rattle.sqlite.specs.Values.{or_null}
use Rattle.bike_sql.proofs.ParamLemmas.{text_suits}
use Rattle.bike_fields.specs.Values.{PositionRow}
use Rattle.bike_catalogue.specs.Rows.{StationRow}
use Rattle.bike_operator.specs.Steps.{new_station}
use Rattle.bike_operator.specs.Changes.{text_in}
use Rattle.bike_book.specs.Tables.{Stations, Docks}
use Rattle.bike_book.specs.Rows.{truth, number_value, station_row, dock_row}
use Rattle.bike_writes.proofs.TextLemmas.{Makes}
use Rattle.sqlite_tied.specs.Compute.{everything}
use Rattle.bike_sql.proofs.WriteLaws.{row_put, row_updated}
use Rattle.bike_accepted.specs.declared.change.Change.TheVariants as change
use Rattle.bike_book.specs.declared.row_change.RowChange.TheVariants as row
use Rattle.bike_book.specs.Writes.{record_write, write_of}
use Rattle.bike_writes.specs.RowChanges.{bikes_write}
use Rattle.bike_schema.proofs.InsertTexts.{insert_text}
use Rattle.bike_schema.proofs.KeyLemmas.{unique_key}
use Rattle.bike_schema.proofs.MakesLemmas.{adds_row, sets_columns}

pub adds_station : (x : Bor StationRow) (reported : ℕ) → Makes (insert_text Stations) (station_row x.now.station_id (new_station x.now reported) (pos x.now.docks) 0 (codes "-"))
    (record_write (change.AddStation x reported))
unfolding everything
adds_station x reported = adds_row Stations (row_put (unique_key Stations) (λ s tree. (refl, refl, refl, λ base. refl)) refl refl (λ rows. refl))

pub sets_station : (station : Bor (List ℕ)) (installed renting returning : Bool) (reported : ℕ)
    → Makes (codes "UPDATE stations_4 SET installed = ?2, renting = ?3, \"returning\" = ?4, reported = ?5 WHERE station_id = ?1")
    (Text station.now ∷ Int (truth installed) ∷ Int (truth renting) ∷ Int (truth returning) ∷ number_value reported ∷ [])
    (record_write (change.SetStation station installed renting returning reported))
unfolding everything
sets_station station installed renting returning reported =
    sets_columns Stations _ _ (row_updated (unique_key Stations) 0 ((5, 1) ∷ (6, 2) ∷ (7, 3) ∷ (8, 4) ∷ []) _ (λ tree. (refl, refl, refl), refl) refl refl refl (λ r. refl) (λ r. refl))

pub sets_docks_reported : (station : Bor (List ℕ)) (free broken reported : ℕ)
    → Makes (codes "UPDATE stations_4 SET free = ?2, broken = ?3, reported = ?4 WHERE station_id = ?1") (Text station.now ∷ number_value free ∷ number_value broken ∷ number_value reported ∷ [])
    (write_of (row.SetDocksReported station free broken reported))
unfolding everything
sets_docks_reported station free broken reported =
    sets_columns Stations _ _ (row_updated (unique_key Stations) 0 ((9, 1) ∷ (10, 2) ∷ (8, 3) ∷ []) _ (λ tree. (refl, refl, refl), refl) refl refl refl (λ r. refl) (λ r. refl))

pub sets_bikes_reported : (station : List ℕ) (free broken : ℕ) (by_type : List ℕ) (reported : ℕ)
    → Makes (codes "UPDATE stations_4 SET free = ?2, broken = ?3, by_type = ?4, reported = ?5 WHERE station_id = ?1")
    (Text station ∷ number_value free ∷ number_value broken ∷ Text by_type ∷ number_value reported ∷ []) (bikes_write station free broken by_type reported)
unfolding everything
sets_bikes_reported station free broken by_type reported =
    sets_columns Stations _ _ (row_updated (unique_key Stations) 0 ((9, 1) ∷ (10, 2) ∷ (12, 3) ∷ (8, 4) ∷ []) _ (λ tree. (refl, refl, refl), refl) refl refl refl (λ r. refl) (λ r. refl))

pub moves_station : (station : Bor (List ℕ)) (p : Bor PositionRow) → Makes (codes "UPDATE stations_4 SET lat = ?2, lon = ?3 WHERE station_id = ?1")
    (Text station.now ∷ Int p.now.lat ∷ Int p.now.lon ∷ []) (record_write (change.MoveStation station p))
unfolding everything
moves_station station p = sets_columns Stations _ _ (row_updated (unique_key Stations) 0 ((2, 1) ∷ (3, 2) ∷ []) _ (λ tree. (refl, refl, refl), refl) refl refl refl (λ r. refl) (λ r. refl))

pub sets_dock_count : (station : Bor (List ℕ)) (docks free : ℕ) → Makes (codes "UPDATE stations_4 SET docks = ?2, free = ?3 WHERE station_id = ?1")
    (Text station.now ∷ number_value docks ∷ number_value free ∷ []) (write_of (row.SetDockCount station docks free))
unfolding everything
sets_dock_count station docks free =
    sets_columns Stations _ _ (row_updated (unique_key Stations) 0 ((4, 1) ∷ (9, 2) ∷ []) _ (λ tree. (refl, refl, refl), refl) refl refl refl (λ r. refl) (λ r. refl))

pub sets_region : (station : Bor (List ℕ)) (region : Option (Bor (List ℕ)))
    → Makes (codes "UPDATE stations_4 SET region_id = ?2 WHERE station_id = ?1") (Text station.now ∷ or_null Text (text_in region) ∷ []) (record_write (change.SetRegion station region))
unfolding everything
sets_region station region =
    sets_columns Stations _ _ (row_updated (unique_key Stations) 0 ((11, 1) ∷ []) _ (λ tree. (refl, refl, refl), refl) refl refl (rw (text_suits (text_in region))) (λ r. refl) (λ r. refl))

pub adds_dock : (station : Bor (List ℕ)) (dock : ℕ) (broken : Bool) → Makes (insert_text Docks) (dock_row station.now dock broken) (write_of (row.AddDock station dock broken))
unfolding everything
adds_dock station dock broken = adds_row Docks (row_put (unique_key Docks) (λ s tree. (refl, refl, refl, λ base. refl)) refl refl (λ rows. refl))

pub sets_dock : (station : Bor (List ℕ)) (dock : ℕ) (broken : Bool) → Makes (codes "UPDATE docks SET broken = ?3 WHERE station_id = ?1 AND dock = ?2") (dock_row station.now dock broken)
    (write_of (row.SetDock station dock broken))
unfolding everything
sets_dock station dock broken = sets_columns Docks _ _ (row_updated (unique_key Docks) 0 ((2, 2) ∷ []) _ (λ tree. (refl, refl, refl), refl) refl refl refl (λ r. refl) (λ r. refl))
