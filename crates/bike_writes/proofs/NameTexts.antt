-- The statements on names.
use Rattle.std.proofs.Common.{List, ℕ, pos, [], ◌∷◌, codes, refl}
use Rattle.std.specs.Borrow.{Bor}
use Rattle.sqlite_value.specs.declared.value.Value.TheVariants.{Int, Text}
use Rattle.bike_fields.specs.NameKinds.{kind_text}
use Rattle.bike_fields.specs.declared.name_kind.NameKind.{NameKind}
use Rattle.bike_fields.specs.declared.name_kind.NameKind.TheVariants as named
use Rattle.bike_operator.specs.Operator.{name_key}
use Rattle.bike_book.specs.Tables.{System, Plans, Types, Regions, Stations, MoreNames}
use Rattle.bike_book.specs.Rows.{name_row}
use Rattle.bike_writes.proofs.TextLemmas.{Makes}
use Rattle.sqlite_tied.specs.Compute.{everything}
use Rattle.bike_sql.proofs.WriteLaws.{row_put, row_updated, row_removed}
use Rattle.bike_accepted.specs.declared.change.Change.TheVariants as change
use Rattle.bike_book.specs.Writes.{record_write}
use Rattle.bike_schema.proofs.InsertTexts.{insert_text}
use Rattle.bike_schema.proofs.KeyLemmas.{table_key, unique_key}
use Rattle.bike_schema.proofs.MakesLemmas.{adds_row, sets_columns, removes_row}

pub sets_system_name : (id name : Bor (List ℕ)) → Makes (codes "UPDATE system SET name = ?2 WHERE one = ?1") (Int (pos 1) ∷ Text name.now ∷ []) (record_write (change.SetOwnName named.System id name))
unfolding everything
sets_system_name id name = sets_columns System _ _ (row_updated (unique_key System) 0 ((3, 1) ∷ []) _ (λ tree. (refl, refl, refl), refl) refl refl refl (λ r. refl) (λ r. refl))

pub sets_station_name : (id name : Bor (List ℕ)) → Makes (codes "UPDATE stations_4 SET name = ?2 WHERE station_id = ?1") (Text id.now ∷ Text name.now ∷ [])
    (record_write (change.SetOwnName named.Station id name))
unfolding everything
sets_station_name id name = sets_columns Stations _ _ (row_updated (unique_key Stations) 0 ((1, 1) ∷ []) _ (λ tree. (refl, refl, refl), refl) refl refl refl (λ r. refl) (λ r. refl))

pub sets_type_name : (id name : Bor (List ℕ)) → Makes (codes "UPDATE types SET name = ?2 WHERE type_id = ?1") (Text id.now ∷ Text name.now ∷ []) (record_write (change.SetOwnName named.«Type» id name))
unfolding everything
sets_type_name id name = sets_columns Types _ _ (row_updated (unique_key Types) 0 ((1, 1) ∷ []) _ (λ tree. (refl, refl, refl), refl) refl refl refl (λ r. refl) (λ r. refl))

pub sets_plan_name : (id name : Bor (List ℕ)) → Makes (codes "UPDATE plans SET name = ?2 WHERE plan_id = ?1") (Text id.now ∷ Text name.now ∷ []) (record_write (change.SetOwnName named.Plan id name))
unfolding everything
sets_plan_name id name = sets_columns Plans _ _ (row_updated (unique_key Plans) 0 ((1, 1) ∷ []) _ (λ tree. (refl, refl, refl), refl) refl refl refl (λ r. refl) (λ r. refl))

pub sets_plan_description : (id name : Bor (List ℕ)) → Makes (codes "UPDATE plans SET description = ?2 WHERE plan_id = ?1") (Text id.now ∷ Text name.now ∷ [])
    (record_write (change.SetOwnName named.Description id name))
unfolding everything
sets_plan_description id name = sets_columns Plans _ _ (row_updated (unique_key Plans) 0 ((4, 1) ∷ []) _ (λ tree. (refl, refl, refl), refl) refl refl refl (λ r. refl) (λ r. refl))

pub sets_region_name : (id name : Bor (List ℕ)) → Makes (codes "UPDATE regions SET name = ?2 WHERE region_id = ?1") (Text id.now ∷ Text name.now ∷ [])
    (record_write (change.SetOwnName named.Region id name))
unfolding everything
sets_region_name id name = sets_columns Regions _ _ (row_updated (unique_key Regions) 0 ((1, 1) ∷ []) _ (λ tree. (refl, refl, refl), refl) refl refl refl (λ r. refl) (λ r. refl))

pub adds_name : (kind : NameKind) (id language name : Bor (List ℕ)) → Makes (insert_text MoreNames) (name_row (name_key kind id.now language.now) name.now)
    (record_write (change.AddName kind id language name))
unfolding everything
adds_name kind id language name = adds_row MoreNames (row_put (unique_key MoreNames) (λ s tree. (refl, refl, refl, λ base. refl)) refl refl (λ rows. refl))

pub sets_further_name : (kind : NameKind) (id language name : Bor (List ℕ)) → Makes (codes "UPDATE more_names SET name = ?4 WHERE kind = ?1 AND id = ?2 AND language = ?3")
    (Text (kind_text kind) ∷ Text id.now ∷ Text language.now ∷ Text name.now ∷ []) (record_write (change.SetFurtherName kind id language name))
unfolding everything
sets_further_name kind id language name =
    sets_columns MoreNames _ _ (row_updated (unique_key MoreNames) 0 ((3, 3) ∷ []) _ (λ tree. (refl, refl, refl), refl) refl refl refl (λ r. refl) (λ r. refl))

pub removes_name : (kind : NameKind) (id language : Bor (List ℕ)) → Makes (codes "DELETE FROM more_names WHERE kind = ?1 AND id = ?2 AND language = ?3")
    (Text (kind_text kind) ∷ Text id.now ∷ Text language.now ∷ []) (record_write (change.RemoveName kind id language))
unfolding everything
removes_name kind id language = removes_row MoreNames _ (row_removed (table_key MoreNames) 0 (λ tree. (refl, refl, refl), refl) refl)
