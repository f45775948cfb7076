-- What the queries of docks and stations tell of their tables.
use Rattle.std.proofs.Common.{◌≡◌, ℕ, ℤ, List, [], false, Option, Some, None, refl, sym, ap, subst, ◌∙◌}
use Rattle.std.specs.Prelude.{take, replicate, option_map}
use Rattle.sqlite_value.specs.Order.{Row, column}
use Rattle.bike_operator.specs.Operator.{Station}
use Rattle.bike_readings.specs.Readings.{station_read}
use Rattle.bike_readings.specs.ReadOff.{moment_of}
use Rattle.sqlite.specs.Effect.{Database}
use Rattle.bike_book.specs.Tables.{Docks, Stations}
use Rattle.bike_book.specs.declared.columns.stations.TheConstants as stations
use Rattle.bike_schema.specs.Tables.{tables_of, IsOurs}
use Rattle.bike_readings.proofs.RulesLaws.{stored_in_order}
use Rattle.bike_judges.specs.Judging.{key_row}
use Rattle.bike_judges.specs.Lines.{lines_of, part, station_line, station_dock_line, station_bike_line}
use Rattle.bike_judges.specs.Passes.{first_failing, pass, Demands}
use Rattle.bike_judges.specs.Verdicts.{IsTableVerdict, JudgesTable}
use Rattle.bike_judges.specs.declared.key.BadKey.{BadKey}
use Rattle.bike_judges.specs.declared.query.Query.TheVariants as query
use Rattle.bike_judges.specs.declared.pass.Opening.TheVariants.{Head, Item}
use Rattle.bike_judges.specs.Least.{least_key}
use Rattle.bike_judges.proofs.LineLaw.{lines_verdict}
use Rattle.bike_judges.proofs.StretchLaw.{AreAccounts, AreItems}
use Rattle.bike_judges.proofs.QueryLaws.{stations_verdict, stored_whole}
use Rattle.bike_judges.proofs.LeastLaw.{least_verdict}
use Rattle.bike_station_rules.specs.StationRows.{is_good_station}
use Rattle.bike_station_rules.specs.Stations.{begins, more, good, key, owner, station_opening}
use Rattle.bike_station_rules.specs.StationVerdicts.{FindsByRow, FindsByNumber, with_region, is_good_row, is_accounted}
use Rattle.bike_station_rules.specs.declared.account.StationAccount.{StationAccount}
use Rattle.bike_station_rules.specs.declared.dock_set.TheConstants.{PLACES}
use Rattle.bike_station_rules.proofs.Folds.{others_same}
use Rattle.bike_station_rules.proofs.RegionLines.{station_key}
use Rattle.bike_station_rules.proofs.StationVerdict.{station_verdict}
use Rattle.bike_station_rules.specs.Docks.{is_good_dock}
use Rattle.bike_station_rules.proofs.Widths.{wide}
use Rattle.bike_station_rules.proofs.DockTest.{dock_verdict, dock_key, joined_dock}

-- what is found where the lines of docks are tested
pub docks_judged : (db : Database) → IsOurs db → (found : Option BadKey) (before : ℕ) → before ≡ 0
    → ((verdict : Option Row) → first_failing (λ n line. is_good_dock line) (take 2) before (lines_of query.Docks (tables_of db)) ≡ verdict → option_map key_row found ≡ verdict)
    → JudgesTable Docks db found
docks_judged db ours found before zero told earlier =
    let t = tables_of db in
    let up = stored_in_order db in
    let widths = wide db ours.has in
    let verdict : first_failing (λ n line. is_good_dock line) (take 2) 0 (lines_of query.Docks t) ≡ option_map key_row found =
    ap (λ (n : ℕ). first_failing (λ n line. is_good_dock line) (take 2) n (lines_of query.Docks t)) (sym zero) ∙ sym (told _ refl) in
    dock_verdict t up widths (option_map key_row found)
    (lines_verdict t Docks up (joined_dock t up widths) (λ n line. is_good_dock line) (take 2) (λ row has. dock_key t up widths row has) (option_map key_row found) verdict)

-- ---- stations

-- what is found where stations are tested by their rows
pub rows_judged : (db : Database) → IsOurs db → (now asked : ℕ) → asked ≡ now → (found : Option BadKey) (before : ℕ) → before ≡ 0
    → ((verdict : Option Row) → first_failing (is_good_station asked) (take 1) before (lines_of query.StationRows (tables_of db)) ≡ verdict → option_map key_row found ≡ verdict)
    → FindsByRow now db found
rows_judged db ours now asked same found before zero told =
    let t = tables_of db in
    let up = stored_in_order db in
    let widths = wide db ours.has in
    let verdict : first_failing (is_good_station now) (take 1) 0 (lines_of query.StationRows t) ≡ option_map key_row found =
    (λ i. first_failing (is_good_station (sym same i)) (take 1) (sym zero i) (lines_of query.StationRows t)) ∙ sym (told _ refl) in
    lines_verdict t Stations up (with_region t) (is_good_station now) (take 1) (λ row has. station_key t up widths row has) (option_map key_row found) verdict

are_accounts : AreAccounts begins more good key owner 0
are_accounts = record {
  heads = λ row. not_item row (station_read (part 3 stations.COLUMNS (station_line row)));
  owner_is = λ row a. opens row (station_read (part 3 stations.COLUMNS (station_line row))) a;
  key_is = λ a. refl;
  keeps = λ a x. refl;
  others = others_same;
}
  where
    not_item : (row : Row) (o : Option (List ℕ × Station × ℤ × ℕ × List ℕ)) → station_opening (station_line row) o ≡ Item → ⊥
    not_item row None e = cc
    not_item row (Some x) e = cc

    opens : (row : Row) (o : Option (List ℕ × Station × ℤ × ℕ × List ℕ)) (a : StationAccount) → station_opening (station_line row) o ≡ Head a → owner a ≡ column row 0
    opens row None a e = absurd cc
    opens row (Some x) a e =
        let same : a ≡ record {
          head = station_line row;
          docks = x.1.row.docks;
          free = x.2;
          broken = x.3;
          is_broken = replicate PLACES false;
          is_taken = replicate PLACES false;
          by_type = record { text = x.4; types = [] };
        } = cc in
        ap owner same

dock_items : AreItems begins more good key owner station_dock_line
dock_items = record { item = λ row. refl; place = λ row. (0, refl) }

bike_items : AreItems begins more good key owner station_bike_line
bike_items = record { item = λ row. refl; place = λ row. (1, refl) }

-- what is found where the accounts of stations are closed
pub numbers_judged : (db : Database) → IsOurs db → (found : Option BadKey) (account : Option StationAccount) → account ≡ None → (closed : ℕ) → closed ≡ 0
    → ((verdict : Option Row) → pass begins more good key (take 1) account closed (lines_of query.Stations (tables_of db)) ≡ verdict → option_map key_row found ≡ verdict)
    → FindsByNumber db found
numbers_judged db ours found account none closed zero told =
    let t = tables_of db in
    stations_verdict begins more good key owner t (stored_in_order db) (stored_whole db ours.has) are_accounts dock_items bike_items (option_map key_row found)
    ((λ i. pass begins more good key (take 1) (sym none i) (sym zero i) (lines_of query.Stations t)) ∙ sym (told _ refl))

-- the moment that was read, and what both passes found
pub record AreFound (now : ℕ) (row : Option BadKey) (db : Database) (number : Option BadKey) : Type 0 where
  pub ours : IsOurs db
  pub now_is : now ≡ moment_of (tables_of db)
  pub by_row : FindsByRow now db row
  pub by_number : FindsByNumber db number

-- the lesser of the two keys that were found is the verdict
pub stations_judged : (db : Database) (now : ℕ) (row number least : Option BadKey) → option_map key_row least ≡ least_key (option_map key_row row) (option_map key_row number)
    → AreFound now row db number → JudgesTable Stations db least
stations_judged db now row number least least_is found earlier =
    let t = tables_of db in
    let up = stored_in_order db in
    subst (IsTableVerdict t Stations) (sym least_is)
    (station_verdict t up (wide db found.ours.has) now found.now_is (least_key (option_map key_row row) (option_map key_row number))
    (least_verdict t Stations (Demands t Stations (is_good_row now t)) (Demands t Stations (is_accounted t)) (option_map key_row row) (option_map key_row number) found.by_row found.by_number))
