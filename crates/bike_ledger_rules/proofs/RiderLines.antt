-- The line of a rider holds the rider's row in front, and the rider's own plan behind it.
use Rattle.std.proofs.Common.{◌≡◌, ℕ, ℤ, List, [], ◌∷◌, length, map, take, Option, Some, None, is_some, refl, ap, ◌∙◌}
use Rattle.std.specs.Prelude.{option_and_then}
use Rattle.std.specs.Bool.{Decides}
use Rattle.std.specs.FinMap as fin
use Rattle.std.specs.List.{fold}
use Rattle.std.proofs.lemmas.List.{take_at}
use Rattle.sqlite_value.specs.declared.value.Value.{Value}
use Rattle.sqlite_value.specs.declared.value.Value.TheVariants.{Text}
use Rattle.sqlite_value.specs.Order.{Row, column}
use Rattle.sqlite.specs.Values.{or_null}
use Rattle.sqlite_rules.specs.Lists.{Has}
use Rattle.bike_operator.specs.Operator.{Operator, Rider}
use Rattle.bike_operator.specs.Sound.{IsPlanOrNone}
use Rattle.bike_sql.specs.View.{partner, row_with}
use Rattle.bike_book.specs.Tables.{Tables, Plans}
use Rattle.bike_book.specs.declared.columns.plans.TheConstants as plans
use Rattle.bike_book.specs.declared.columns.riders.TheConstants as riders
use Rattle.bike_book.proofs.Keys.{text_key}
use Rattle.bike_readings.specs.Readings.{plan_read, rider_read}
use Rattle.bike_readings.proofs.LedgerRows.{rider_reading}
use Rattle.bike_readings.specs.ReadOff.{operator_of}
use Rattle.bike_readings.specs.Rules.{AreInOrder}
use Rattle.bike_judges.specs.Lines.{or_nulls, part}
use Rattle.bike_ledger_rules.specs.Riders.{line_rider, rider_line, has_own_plan}
use Rattle.bike_ledger_rules.proofs.Earlier.{AreGood, plan_under}
use Rattle.bike_ledger_rules.proofs.KnownFolds.{fold_shown}
use Rattle.bike_ledger_rules.proofs.Parts.{partner_wide, partner_of_one}
use Rattle.bike_ledger_rules.proofs.RiderFolds.{AreWide}
use Rattle.bike_ledger_rules.proofs.Tests.{is_true}

module _ (t : Tables) (wide : AreWide riders.COLUMNS t.riders) where
  pub own_row : (r : Row) → Has t.riders r → part 0 riders.COLUMNS (rider_line t r) ≡ r
  own_row r has = take_at r (or_nulls plans.COLUMNS (partner 1 (column r 4 ∷ []) t.plans)) riders.COLUMNS (wide r has)

  pub spelled : (r : Row) → Has t.riders r → line_rider (rider_line t r) ≡ rider_read r
  spelled r has = ap rider_read (own_row r has)

  -- what is folded over the lines is folded over what the rows spell
  pub fold_riders : {A : Type 0} (f : A → Option (ℕ × Rider × ℤ) → A) (a : A)
      → fold (λ b line. f b (line_rider line)) a (map (rider_line t) t.riders) ≡ fold (λ b r. f b (rider_read r)) a t.riders
  fold_riders {A} f a =
      fold_shown (rider_line t) (λ (b : A) line. f b (line_rider line)) (λ (b : A) r. f b (rider_read r)) t.riders (λ b r has. ap (f b) (spelled r has)) a

-- a line begins with its row's key
pub line_begins : (t : Tables) (r : Row) → length r ≡ riders.COLUMNS → take 1 (rider_line t r) ≡ take 1 r
line_begins t [] wide = absurd cc
line_begins t (v ∷ r) wide = refl

-- ---- the plan

module _ (t : Tables) (up : AreInOrder t) (good : AreGood t up Plans) (wide : AreWide plans.COLUMNS t.plans) where
  abbrev s : Operator
  s = operator_of t

  pub plan_decides : (r : Row) → length r ≡ riders.COLUMNS → (e : ℕ × Rider × ℤ) → rider_read r ≡ Some e
      → Decides (has_own_plan e.1.plan (rider_line t r)) (IsPlanOrNone s e.1.plan)
  plan_decides r width e is = go e.1.plan (ap (λ (x : Row). column x 4) (rider_reading.sound r e is).0) where
    read : (o : Option Row) → is_some (plan_read (or_nulls 5 o)) ≡ is_some (option_and_then plan_read o)
    read None = refl
    read (Some x) = refl

    go : (o : Option (List ℕ)) → column r 4 ≡ or_null Text o → Decides (has_own_plan o (rider_line t r)) (IsPlanOrNone s o)
    go None names = (λ h. tt, λ h. refl)
    go (Some id) names =
        is_true (has_own_plan (Some id) (rider_line t r)) (fin.contains_key s.plans id)
        (ap (λ (x : Row). is_some (plan_read x)) (partner_of_one r 5 5 (partner 1 (column r 4 ∷ []) t.plans) width (partner_wide 5 1 (column r 4 ∷ []) t.plans wide))
        ∙ ap (λ (v : Value). is_some (plan_read (or_nulls 5 (partner 1 (v ∷ []) t.plans)))) names
        ∙ read (row_with 1 (text_key id) t.plans) ∙ plan_under t up good id)
