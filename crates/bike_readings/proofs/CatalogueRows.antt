-- The rows of the system, the catalogue and the stations are read exactly.
use Rattle.std.proofs.Common.{◌≡◌, ℕ, ℤ, pos, neg_ℤ, ◌≤◌, List, [], Bool, true, leb, Option, Some, None, refl, sym, ap, ◌∙◌, arith, codes}
use Rattle.std.proofs.lemmas.Bool.{le-leb, eqb-true}
use Rattle.std.proofs.lemmas.Bool.Decides.{nat_tests}
use Rattle.bike_fields.specs.declared.numbers.TheConstants.{MOST_DOCKS}
use Rattle.bike_fields.specs.Bytes.{is_ident}
use Rattle.bike_fields.proofs.Lengths.{both_hold}
use Rattle.bike_fields.specs.declared.vehicle.Propulsion.{Propulsion}
use Rattle.bike_fields.specs.declared.vehicle.Propulsion.TheVariants.{Human, ElectricAssist}
use Rattle.bike_fields.specs.declared.name_kind.NameKind.{NameKind}
use Rattle.bike_fields.specs.Values.{SegmentRow, IsEnd, is_after, IsRange, is_range}
use Rattle.bike_catalogue.specs.Rows.{PlanRow, TypeRow, RegionRow, MoreNameRow, IsSystem}
use Rattle.sqlite_value.specs.declared.value.Value.TheVariants.{Int, Text}
use Rattle.sqlite.specs.Values.{or_null}
use Rattle.bike_operator.specs.Operator.{Station, name_key}
use Rattle.bike_book.specs.Rows.{number_value, meta_row, system_row, plan_row, segment_row, type_row, region_row, station_row, dock_row, name_row}
use Rattle.bike_schema.specs.Columns.{number_in, or_none}
use Rattle.bike_readings.specs.Bounds.{IsWithin, IsStoredMeta, IsStoredPlan, IsStoredSegment, IsStoredType, IsStoredRegion, IsStoredStation, IsStoredDock, IsStoredName}
use Rattle.bike_readings.specs.BothWays.{MetaReading, SystemReading, PlanReading, SegmentReading, TypeReading, RegionReading, StationReading, DockReading, NameReading}
use Rattle.bike_readings.proofs.ColumnLaws.{IsColumn, IfAny, whole_column, number_column, moment_column, flag_column, signed_column, text_column, word_column, word_utf8, ident_column, name_column, ascii_column}
use Rattle.bike_readings.proofs.ColumnLaws.{language_column, currency_column, form_column, propulsion_column, named_kind_column, or_none_column, ident_or_none_column}
use Rattle.bike_readings.proofs.ChainLaws.{wide, takes, ends, ends_if, gives, gives_if}

-- an identifier that is that of the record
same_ident : (id of : List ℕ) → id ≡ of → is_ident of ≡ true → is_ident id ≡ true
same_ident id of is good = ap is_ident is ∙ good

pub meta_reading : MetaReading
meta_reading = record {
  sound = λ row x e.
      wide 6 row e (λ width e.
      takes _ (number_column 1 1) e (λ one one_is one_good e.
      takes _ (word_column (codes "bikeshare") (word_utf8 (codes "bikeshare") refl)) e (λ app app_is app_good e.
      takes _ (number_column 1 _) e (λ version version_is version_good e.
      takes _ moment_column e (λ now now_is now_good e.
      takes _ whole_column e (λ cash cash_is _ e.
      takes _ whole_column e (λ revenue revenue_is _ e.
      let one_one : one ≡ 1 = omega (arith, one_good.0, one_good.1) in
      ends (λ (x : ℕ × ℕ × ℤ × ℤ). meta_row x.0 x.1 x.2 x.3) (λ x. IsStoredMeta x.0 x.1) x e width
      (one_is ∙ ap (λ n. Int (pos n)) one_one, (app_is ∙ ap Text app_good, (version_is, (now_is, (cash_is, (revenue_is, tt))))))
      (record { good_version = version_good; good_now = now_good }))))))));
  full = λ x g.
      gives _ (codes "bikeshare") (word_column (codes "bikeshare") (word_utf8 (codes "bikeshare") refl)) refl (
      gives _ x.0 (number_column 1 _) g.good_version (
      gives _ x.1 moment_column g.good_now refl));
}

pub system_reading : SystemReading
system_reading = record {
  sound = λ row x e.
      wide 10 row e (λ width e.
      takes _ (number_column 1 1) e (λ one one_is one_good e.
      takes _ ident_column e (λ system_id system_id_is system_id_good e.
      takes _ language_column e (λ language language_is language_good e.
      takes _ name_column e (λ name name_is name_good e.
      takes _ ascii_column e (λ hours hours_is hours_good e.
      takes _ ascii_column e (λ contact contact_is contact_good e.
      takes _ ascii_column e (λ zone zone_is zone_good e.
      takes _ currency_column e (λ currency currency_is currency_good e.
      takes _ ascii_column e (λ url url_is url_good e.
      takes _ (number_column 0 86400) e (λ ttl ttl_is ttl_good e.
      let one_one : one ≡ 1 = omega (arith, one_good.0, one_good.1) in
      ends system_row IsSystem x e width (one_is ∙ ap (λ n. Int (pos n)) one_one, (system_id_is, (language_is, (name_is, (hours_is, (contact_is, (zone_is, (currency_is, (url_is, (ttl_is, tt))))))))))
      (record {
        system_id = system_id_good;
        language = language_good;
        name = name_good;
        opening_hours = hours_good;
        feed_contact_email = contact_good;
        timezone = zone_good;
        currency = currency_good;
        base_url = url_good;
        ttl = ttl_good.1;
      }))))))))))));
  full = λ x g.
      gives _ x.system_id ident_column g.system_id (
      gives _ x.language language_column g.language (
      gives _ x.name name_column g.name (
      gives _ x.opening_hours ascii_column g.opening_hours (
      gives _ x.feed_contact_email ascii_column g.feed_contact_email (
      gives _ x.timezone ascii_column g.timezone (
      gives _ x.currency currency_column g.currency (
      gives _ x.base_url ascii_column g.base_url (
      gives _ x.ttl (number_column 0 86400) (omega arith, g.ttl) refl))))))));
}

pub plan_reading : PlanReading
plan_reading = record {
  sound = λ row x e.
      wide 5 row e (λ width e.
      takes _ ident_column e (λ id id_is id_good e.
      takes _ name_column e (λ name name_is name_good e.
      takes _ (number_column 0 1000000) e (λ price price_is price_good e.
      takes _ flag_column e (λ taxable taxable_is _ e.
      takes _ name_column e (λ description description_is description_good e.
      ends (λ (x : List ℕ × PlanRow). plan_row x.0 x.1) (λ x. IsStoredPlan x.0 x.1 × (x.1.segments ≡ [])) x e width (id_is, (name_is, (price_is, (taxable_is, (description_is, tt)))))
      (record { id_is = refl; good = record { plan_id = id_good; name = name_good; price = price_good.1; description = description_good; segments = omega arith } }, refl)))))));
  full = λ x g.
      gives _ x.0 ident_column (same_ident _ _ g.0.id_is g.0.good.plan_id) (
      gives _ x.1.name name_column g.0.good.name (
      gives _ x.1.price (number_column 0 1000000) (omega arith, g.0.good.price) (
      gives _ x.1.taxable flag_column tt (
      gives _ x.1.description name_column g.0.good.description
      (λ i. Some (x.0, record { plan_id = g.0.id_is i; name = x.1.name; price = x.1.price; taxable = x.1.taxable; description = x.1.description; segments = sym g.1 i }))))));
}

end_test : (start : ℕ) (end : Option ℕ) → IfAny (IsWithin 0 100000) end → is_after start end ≡ true → IsEnd start end
end_test start None g h = tt
end_test start (Some end) g h = (g.1, grind (arith, nat_tests, h))

end_tested : (start : ℕ) (end : Option ℕ) → IsEnd start end → (is_after start end ≡ true) × IfAny (IsWithin 0 100000) end
end_tested start None g = (refl, tt)
end_tested start (Some end) g = (grind (arith, nat_tests, g.1), (omega arith, g.0))

end_column : IsColumn (or_none (number_in 0 100000)) (or_null number_value) (IfAny (IsWithin 0 100000))
end_column = or_none_column (number_column 0 100000) (λ n. refl)

pub segment_reading : SegmentReading
segment_reading = record {
  sound = λ row x e.
      wide 6 row e (λ width e.
      takes _ ident_column e (λ id id_is id_good e.
      takes _ (number_column 1 8) e (λ seq seq_is seq_good e.
      takes _ (number_column 0 100000) e (λ start start_is start_good e.
      takes _ (signed_column (neg_ℤ (pos 100000)) (pos 100000)) e (λ rate rate_is rate_good e.
      takes _ (number_column 0 100000) e (λ interval interval_is interval_good e.
      takes _ end_column e (λ end end_is end_good e.
      ends_if (λ (x : List ℕ × ℕ × SegmentRow). segment_row x.0 x.1 x.2) (λ x. IsStoredSegment x.0 x.1 x.2) x (is_after start end) e width
      (id_is, (seq_is, (start_is, (rate_is, (interval_is, (end_is, tt))))))
      (λ after. record {
        good_plan = id_good;
        good_seq = seq_good;
        good = record
            { start = start_good.1; rate = rate_good; interval = interval_good.1; end = end_test start end end_good after };
      }))))))));
  full = λ x g.
      let end = end_tested x.2.start x.2.end g.good.end in
      gives _ x.0 ident_column g.good_plan (
      gives _ x.1 (number_column 1 8) g.good_seq (
      gives _ x.2.start (number_column 0 100000) (omega arith, g.good.start) (
      gives _ x.2.rate (signed_column (neg_ℤ (pos 100000)) (pos 100000)) g.good.rate (
      gives _ x.2.interval (number_column 0 100000) (omega arith, g.good.interval) (
      gives _ x.2.end end_column end.1
      (gives_if (is_after x.2.start x.2.end) end.0 refl))))));
}

range_test : (propulsion : Propulsion) (n : ℕ) → is_range propulsion n ≡ true → IsRange propulsion n
range_test Human n h = eqb-true n 0 h
range_test ElectricAssist n h = let b = both_hold (leb 1 n) (leb n 1000000) h in (grind (arith, nat_tests, b.0), grind (arith, nat_tests, b.1))

range_tested : (propulsion : Propulsion) (n : ℕ) → IsRange propulsion n → (is_range propulsion n ≡ true) × (n ≤ 1000000)
range_tested Human n h = (rw h refl, omega (arith, h))
range_tested ElectricAssist n h = (rw (le-leb _ _ h.0, le-leb _ _ h.1) refl, h.1)

pub type_reading : TypeReading
type_reading = record {
  sound = λ row x e.
      wide 6 row e (λ width e.
      takes _ ident_column e (λ id id_is id_good e.
      takes _ name_column e (λ name name_is name_good e.
      takes _ form_column e (λ form form_is _ e.
      takes _ propulsion_column e (λ propulsion propulsion_is _ e.
      takes _ (number_column 0 1000000) e (λ range range_is _ e.
      takes _ ident_column e (λ plan plan_is plan_good e.
      ends_if (λ (x : List ℕ × TypeRow). type_row x.0 x.1) (λ x. IsStoredType x.0 x.1) x (is_range propulsion range) e width (id_is, (name_is, (form_is, (propulsion_is, (range_is, (plan_is, tt))))))
      (λ suits. record { id_is = refl; good = record { type_id = id_good; name = name_good; max_range = range_test propulsion range suits; plan_id = plan_good } }))))))));
  full = λ x g.
      let range = range_tested x.1.propulsion x.1.max_range g.good.max_range in
      gives _ x.0 ident_column (same_ident _ _ g.id_is g.good.type_id) (
      gives _ x.1.name name_column g.good.name (
      gives _ x.1.form form_column tt (
      gives _ x.1.propulsion propulsion_column tt (
      gives _ x.1.max_range (number_column 0 1000000) (omega arith, range.1) (
      gives _ x.1.plan_id ident_column g.good.plan_id
      (gives_if (is_range x.1.propulsion x.1.max_range) range.0
      (λ i. (x.0, record { type_id = g.id_is i; name = x.1.name; form = x.1.form; propulsion = x.1.propulsion; max_range = x.1.max_range; plan_id = x.1.plan_id }))))))));
}

pub region_reading : RegionReading
region_reading = record {
  sound = λ row x e.
      wide 2 row e (λ width e.
      takes _ ident_column e (λ id id_is id_good e.
      takes _ name_column e (λ name name_is name_good e.
      ends (λ (x : List ℕ × RegionRow). region_row x.0 x.1) (λ x. IsStoredRegion x.0 x.1) x e width (id_is, (name_is, tt))
      (record { id_is = refl; good = record { region_id = id_good; name = name_good } }))));
  full = λ x g.
      gives _ x.0 ident_column (same_ident _ _ g.id_is g.good.region_id) (
      gives _ x.1.name name_column g.good.name
      (λ i. Some (x.0, record { region_id = g.id_is i; name = x.1.name })));
}

pub station_reading : StationReading
station_reading = record {
  sound = λ row x e.
      wide 13 row e (λ width e.
      takes _ ident_column e (λ id id_is id_good e.
      takes _ name_column e (λ name name_is name_good e.
      takes _ (signed_column (neg_ℤ (pos 90000000)) (pos 90000000)) e (λ lat lat_is lat_good e.
      takes _ (signed_column (neg_ℤ (pos 180000000)) (pos 180000000)) e (λ lon lon_is lon_good e.
      takes _ (number_column 1 MOST_DOCKS) e (λ docks docks_is docks_good e.
      takes _ flag_column e (λ installed installed_is _ e.
      takes _ flag_column e (λ renting renting_is _ e.
      takes _ flag_column e (λ returning returning_is _ e.
      takes _ moment_column e (λ reported reported_is reported_good e.
      takes _ whole_column e (λ free free_is _ e.
      takes _ (number_column 0 _) e (λ broken broken_is broken_good e.
      takes _ ident_or_none_column e (λ region region_is region_good e.
      takes _ text_column e (λ by_type by_type_is by_type_good e.
      ends (λ (x : List ℕ × Station × ℤ × ℕ × List ℕ). station_row x.0 x.1 x.2 x.3 x.4) (λ x. IsStoredStation x.0 x.1 x.3 x.4) x e width
      (id_is, (name_is, (lat_is, (lon_is, (docks_is, (installed_is, (renting_is, (returning_is, (reported_is, (free_is, (broken_is, (region_is, (by_type_is, tt)))))))))))))
      (record {
        id_is = refl;
        good = record { station_id = id_good; name = name_good; lat = lat_good; lon = lon_good; some_docks = docks_good.0; few_docks = docks_good.1 };
        reported = reported_good;
        good_broken = broken_good.1;
        region = region_good;
        good_by_type = by_type_good;
      })))))))))))))));
  full = λ x g.
      gives _ x.0 ident_column (same_ident _ _ g.id_is g.good.station_id) (
      gives _ x.1.row.name name_column g.good.name (
      gives _ x.1.row.lat (signed_column (neg_ℤ (pos 90000000)) (pos 90000000)) g.good.lat (
      gives _ x.1.row.lon (signed_column (neg_ℤ (pos 180000000)) (pos 180000000)) g.good.lon (
      gives _ x.1.row.docks (number_column 1 MOST_DOCKS) (g.good.some_docks, g.good.few_docks) (
      gives _ x.1.is_installed flag_column tt (
      gives _ x.1.is_renting flag_column tt (
      gives _ x.1.is_returning flag_column tt (
      gives _ x.1.reported moment_column g.reported (
      gives _ x.3 (number_column 0 _) (omega arith, g.good_broken) (
      gives _ x.1.region ident_or_none_column g.region (
      gives _ x.4 text_column g.good_by_type
      (λ i. Some (
        x.0,
        record {
          row = record { station_id = g.id_is i; name = x.1.row.name; lat = x.1.row.lat; lon = x.1.row.lon; docks = x.1.row.docks };
          is_installed = x.1.is_installed;
          is_renting = x.1.is_renting;
          is_returning = x.1.is_returning;
          reported = x.1.reported;
          region = x.1.region;
        },
        x.2,
        x.3,
        x.4,
      )))))))))))));
}

pub dock_reading : DockReading
dock_reading = record {
  sound = λ row x e.
      wide 3 row e (λ width e.
      takes _ ident_column e (λ station station_is station_good e.
      takes _ (number_column 1 MOST_DOCKS) e (λ dock dock_is dock_good e.
      takes _ flag_column e (λ broken broken_is _ e.
      ends (λ (x : List ℕ × ℕ × Bool). dock_row x.0 x.1 x.2) (λ x. IsStoredDock x.0 x.1) x e width (station_is, (dock_is, (broken_is, tt)))
      (record { good_station = station_good; good_dock = dock_good })))));
  full = λ x g.
      gives _ x.0 ident_column g.good_station (
      gives _ x.1 (number_column 1 MOST_DOCKS) g.good_dock (
      gives _ x.2 flag_column tt refl));
}

pub name_reading : NameReading
name_reading = record {
  sound = λ row x e.
      wide 4 row e (λ width e.
      takes _ named_kind_column e (λ kind kind_is _ e.
      takes _ ident_column e (λ id id_is id_good e.
      takes _ language_column e (λ language language_is language_good e.
      takes _ name_column e (λ name name_is name_good e.
      ends (λ (x : NameKind × List ℕ × MoreNameRow). name_row (name_key x.0 x.1 x.2.language) x.2.name) (λ x. IsStoredName x.1 x.2) x e width (kind_is, (id_is, (language_is, (name_is, tt))))
      (record { good_id = id_good; good = record { language = language_good; name = name_good } }))))));
  full = λ x g.
      gives _ x.0 named_kind_column tt (
      gives _ x.1 ident_column g.good_id (
      gives _ x.2.language language_column g.good.language (
      gives _ x.2.name name_column g.good.name refl)));
}
