-- The verdict on bicycles, by their lines.
use Rattle.std.proofs.Common.{◌≡◌, ℕ, Bool, Option, Some, None, refl, sym, ◌∙◌, subst}
use Rattle.std.specs.Prelude.{option_map}
use Rattle.std.specs.Option.{IsSomeAnd}
use Rattle.std.proofs.lemmas.Option.{same_Some}
use Rattle.sqlite_value.specs.Order.{Row}
use Rattle.sqlite_rules.specs.Lists.{Has}
use Rattle.bike_operator.specs.declared.records.Bike.{Bike}
use Rattle.bike_operator.specs.Operator.{Operator}
use Rattle.bike_book.specs.Tables.{Tables, Bikes}
use Rattle.bike_readings.specs.Readings.{bike_read}
use Rattle.bike_readings.specs.ReadOff.{operator_of}
use Rattle.bike_readings.specs.Rules.{AreInOrder, IsGoodKey}
use Rattle.bike_readings.specs.Demands.{IsGoodBike, IsAloneInDock}
use Rattle.bike_judges.specs.declared.query.Query.TheVariants as query
use Rattle.bike_judges.specs.Lines.{lines_of}
use Rattle.bike_judges.specs.Passes.{first_failing, Demands}
use Rattle.bike_judges.specs.Verdicts.{IsTableVerdict}
use Rattle.bike_judges.specs.Least.{least_key}
use Rattle.bike_judges.proofs.LineLaw.{lines_verdict}
use Rattle.bike_judges.proofs.LeastLaw.{least_verdict}
use Rattle.bike_fleet_rules.specs.Docks.{dock_pass, number_row}
use Rattle.bike_fleet_rules.specs.Tests.{first_key, bike_names, bike_uses, bike_trucks}
use Rattle.bike_fleet_rules.proofs.Parts.{AreWide}
use Rattle.bike_fleet_rules.proofs.CountedRows.{counted_read}
use Rattle.bike_fleet_rules.proofs.OfRows.{OfEach, demanded, demands_of, SaysGood, good_key, of_good_key, same_verdict}
use Rattle.bike_fleet_rules.proofs.OrderLaw.{key_of_line}
use Rattle.bike_fleet_rules.proofs.BikeLaw.{names_line, uses_line, trucks_line, IsGoodAlone, AreTests, good_of_tests, tests_of_good, unread_fails}
use Rattle.bike_fleet_rules.proofs.DockLaw.{IsAloneRow, docks_verdict}

module _ (t : Tables) (up : AreInOrder t) (wide : AreWide t) where
  abbrev s : Operator
  s = operator_of t

  abbrev names_test : ℕ → Row → Bool
  names_test n row = bike_names n (names_line t up wide row)

  abbrev uses_test : ℕ → Row → Bool
  uses_test n row = bike_uses n (uses_line t up wide row)

  abbrev trucks_test : ℕ → Row → Bool
  trucks_test n row = bike_trucks n (trucks_line t up wide row)

  abbrev IsGoodLine : ℕ → Row → Type 0
  IsGoodLine n row = AreTests t up wide n row × IsAloneRow t up wide n row

  says : SaysGood t Bikes IsGoodLine
  says = record {
    good = λ n row has it. go_good n row has it (bike_read row) refl;
    says = λ n row has good. go_says n row has (bike_read row) refl good;
  }
    where
      go_good : (n : ℕ) (row : Row) → Has t.bikes row → IsGoodLine n row → (o : Option (ℕ × Bike)) → bike_read row ≡ o → IsSomeAnd o (IsGoodBike t s n)
      go_good n row has it None e = absurd (unread_fails t up wide n row has e it.0.named)
      go_good n row has it (Some x) e =
          let good = good_of_tests t up wide n row has x e it.0 in
          record { room = good.room; low = good.low; high = good.high; type_is = good.type_is; placed = good.placed; retired = good.retired; alone = it.1 x (counted_read row x e) }

      go_says : (n : ℕ) (row : Row) → Has t.bikes row → (o : Option (ℕ × Bike)) → bike_read row ≡ o → IsSomeAnd o (IsGoodBike t s n) → IsGoodLine n row
      go_says n row has None e good = absurd good
      go_says n row has (Some x) e good =
          let own : IsGoodAlone t up wide n x = record { room = good.room; low = good.low; high = good.high; type_is = good.type_is; placed = good.placed; retired = good.retired } in
          (tests_of_good t up wide n row has x e own, λ y is. subst (λ (z : ℕ × Bike). IsAloneInDock s z.0 z.1) (same_Some x y (sym (counted_read row x e) ∙ is)) good.alone)

  abbrev AreTested : Row → Type 0
  AreTested key = (Demands t Bikes names_test key × Demands t Bikes uses_test key) × Demands t Bikes trucks_test key

  -- THE VERDICT on bicycles
  pub bikes_verdict : (a b c : Option Row) (n : Option ℕ) → first_failing bike_names first_key 0 (lines_of query.BikeNames t) ≡ a → first_failing bike_uses first_key 0 (lines_of query.BikeUses t) ≡ b
      → first_failing bike_trucks first_key 0 (lines_of query.BikeTrucks t) ≡ c → dock_pass None None (lines_of query.BikeDocks t) ≡ n
      → IsTableVerdict t Bikes (least_key (least_key (least_key a b) c) (option_map number_row n))
  bikes_verdict a b c n named used borne docked =
      let names = lines_verdict t Bikes up (names_line t up wide) bike_names first_key (λ row has. key_of_line row _ 7 (wide Bikes row has)) a named in
      let uses = lines_verdict t Bikes up (uses_line t up wide) bike_uses first_key (λ row has. key_of_line row _ 7 (wide Bikes row has)) b used in
      let trucks = lines_verdict t Bikes up (trucks_line t up wide) bike_trucks first_key (λ row has. key_of_line row _ 7 (wide Bikes row has)) c borne in
      let docks = docks_verdict t up wide n docked in
      let two = least_verdict t Bikes (Demands t Bikes names_test) (Demands t Bikes uses_test) a b names uses in
      let three = least_verdict t Bikes (λ key. Demands t Bikes names_test key × Demands t Bikes uses_test key) (Demands t Bikes trucks_test) (least_key a b) c two trucks in
      let four = least_verdict t Bikes AreTested (OfEach t Bikes (IsAloneRow t up wide)) (least_key (least_key a b) c) (option_map number_row n) three docks in
      same_verdict t Bikes (λ key. AreTested key × OfEach t Bikes (IsAloneRow t up wide) key) (IsGoodKey t Bikes)
      (λ key it. good_key t Bikes IsGoodLine says (λ k. tt) key (λ row is.
      (record { named = demanded t Bikes names_test key it.0.0.0 row is; used = demanded t Bikes uses_test key it.0.0.1 row is; borne = demanded t Bikes trucks_test key it.0.1 row is }, it.1 row is)))
      (λ key good.
      let each = of_good_key t Bikes IsGoodLine says (λ k. tt) key good in (
        (
          (demands_of t Bikes names_test key (λ row is. (each row is).0.named), demands_of t Bikes uses_test key (λ row is. (each row is).0.used)),
          demands_of t Bikes trucks_test key
              (λ row is. (each row is).0.borne),
        ),
        λ row is. (each row is).1,
      ))
      (least_key (least_key (least_key a b) c) (option_map number_row n)) four
