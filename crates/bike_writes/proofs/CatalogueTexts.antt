-- The statements on the catalogue.
use Rattle.std.proofs.Common.{List, ℕ, pos, [], ◌∷◌, codes, refl}
use Rattle.std.specs.Borrow.{Bor}
use Rattle.sqlite_value.specs.declared.value.Value.TheVariants.{Int, Text}
use Rattle.bike_fields.specs.Values.{SegmentRow}
use Rattle.bike_catalogue.specs.Rows.{PlanRow, TypeRow, RegionRow, SettingsRow, SystemRow}
use Rattle.bike_book.specs.Tables.{System, Plans, Segments, Types, Regions}
use Rattle.bike_book.specs.Rows.{number_value, system_row, plan_row, segment_row, type_row, region_row}
use Rattle.bike_writes.proofs.TextLemmas.{Makes, number_suits}
use Rattle.sqlite_tied.specs.Compute.{everything}
use Rattle.bike_sql.proofs.WriteLaws.{row_put, row_updated}
use Rattle.bike_accepted.specs.declared.change.Change.TheVariants as change
use Rattle.bike_book.specs.declared.row_change.RowChange.TheVariants as row
use Rattle.bike_book.specs.Writes.{record_write, write_of}
use Rattle.bike_schema.proofs.InsertTexts.{insert_text}
use Rattle.bike_schema.proofs.KeyLemmas.{unique_key}
use Rattle.bike_schema.proofs.MakesLemmas.{adds_row, sets_columns}

pub sets_system : (x : Bor SystemRow) → Makes (insert_text System) (system_row x.now) (record_write (change.SetSystem x))
unfolding everything
sets_system x = adds_row System (row_put (unique_key System) (λ s tree. (refl, refl, refl, λ base. refl)) refl refl (λ rows. refl))

pub changes_system : (x : Bor SettingsRow) → Makes (codes "UPDATE system SET name = ?2, hours = ?3, contact = ?4, zone = ?5, base_url = ?6, ttl = ?7 WHERE one = ?1")
    (Int (pos 1) ∷ Text x.now.name ∷ Text x.now.opening_hours ∷ Text x.now.feed_contact_email ∷ Text x.now.timezone ∷ Text x.now.base_url ∷ number_value x.now.ttl ∷ [])
    (record_write (change.ChangeSystem x))
unfolding everything
changes_system x =
    sets_columns System _ _ (row_updated (unique_key System) 0 ((3, 1) ∷ (4, 2) ∷ (5, 3) ∷ (6, 4) ∷ (8, 5) ∷ (9, 6) ∷ []) _ (λ tree. (refl, refl, refl), refl) refl refl refl (λ r. refl)
    (λ r. refl))

pub adds_plan : (p : Bor PlanRow) → Makes (insert_text Plans) (plan_row p.now.plan_id p.now) (record_write (change.AddPlan p))
unfolding everything
adds_plan p = adds_row Plans (row_put (unique_key Plans) (λ s tree. (refl, refl, refl, λ base. refl)) refl refl (λ rows. refl))

pub adds_segment : (plan : Bor (List ℕ)) (seq : ℕ) (g : Bor SegmentRow) → Makes (insert_text Segments) (segment_row plan.now seq g.now) (write_of (row.AddSegment plan seq g))
unfolding everything
adds_segment plan seq g = adds_row Segments (row_put (unique_key Segments) (λ s tree. (refl, refl, refl, λ base. refl)) refl (rw (number_suits g.now.end)) (λ rows. refl))

pub adds_type : (t : Bor TypeRow) → Makes (insert_text Types) (type_row t.now.type_id t.now) (record_write (change.AddType t))
unfolding everything
adds_type t = adds_row Types (row_put (unique_key Types) (λ s tree. (refl, refl, refl, λ base. refl)) refl refl (λ rows. refl))

pub sets_plan : (type_id plan : Bor (List ℕ)) → Makes (codes "UPDATE types SET plan_id = ?2 WHERE type_id = ?1") (Text type_id.now ∷ Text plan.now ∷ []) (record_write (change.SetPlan type_id plan))
unfolding everything
sets_plan type_id plan = sets_columns Types _ _ (row_updated (unique_key Types) 0 ((5, 1) ∷ []) _ (λ tree. (refl, refl, refl), refl) refl refl refl (λ r. refl) (λ r. refl))

pub adds_region : (r : Bor RegionRow) → Makes (insert_text Regions) (region_row r.now.region_id r.now) (record_write (change.AddRegion r))
unfolding everything
adds_region r = adds_row Regions (row_put (unique_key Regions) (λ s tree. (refl, refl, refl, λ base. refl)) refl refl (λ rows. refl))
