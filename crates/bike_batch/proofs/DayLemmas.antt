-- A day's table, from the table of the span of its bounds.
use Rattle.std.proofs.Common.{◌≡◌, ℕ, List, Option, Result, Ok, Err, refl, sym, ap, subst}
use Rattle.std.specs.Result.{IsErrAnd}
use Rattle.std.proofs.KnownBytes.{Keeps-refl}
use Rattle.sqlite_trees.specs.declared.store.Store.{Ghosts}
use Rattle.bike_fixed.specs.Day.{NamesDate, date_parts, HasBadZone, IsOutOfRange, HasBounds}
use Rattle.bike_fixed.specs.declared.day.DayFault.{DayFault}
use Rattle.bike_fixed.specs.declared.day.DayFault.TheVariants as day
use Rattle.bike_operator.specs.Operator.{Operator}
use Rattle.bike_day_texts.specs.declared.table.DayTable.{DayTable}
use Rattle.bike_desk.specs.Desk.{DeskValue}
use Rattle.bike_batch.specs.declared.day_fault.DayTableFault.{DayTableFault}
use Rattle.bike_batch.specs.declared.day_fault.DayTableFault.TheVariants.{Day, Write, Desk}
use Rattle.bike_batch.specs.Days.{span_text}
use Rattle.bike_batch.specs.Ends.{IsRefused, EndsByDay, WritesDay, LeavesDesk}
use Rattle.bike_batch.specs.Walking.{WritesText, IsOfDay}
use Rattle.bike_batch.proofs.DeskLemmas.{leaves_unasked}

-- ---- a day that is refused

module _ (date zone : List ℕ) (fault : DayFault) where
  -- the four reasons, as the bounds of a day are refused
  pub refused : ((fault ≡ day.BadDate) → NamesDate (date_parts date) → ⊥) → ((fault ≡ day.BadZone) → HasBadZone date zone)
      → ((fault ≡ day.OutOfRange) → IsOutOfRange date zone) → ((fault ≡ day.NoMemory) → ⊥) → IsRefused date zone fault
  refused = by fault refl where
    by : (f : DayFault) → fault ≡ f → ((f ≡ day.BadDate) → NamesDate (date_parts date) → ⊥) → ((f ≡ day.BadZone) → HasBadZone date zone)
        → ((f ≡ day.OutOfRange) → IsOutOfRange date zone) → ((f ≡ day.NoMemory) → ⊥) → IsRefused date zone f
    by day.BadDate is a b c d = a refl
    by day.BadZone is a b c d = b refl
    by day.OutOfRange is a b c d = c refl
    by day.NoMemory is a b c d = d refl

module _ {A : Type 0} (fault : DayFault) (result : Result A DayTableFault) (is : IsErrAnd result (λ told. told ≡ Day fault)) where
  is_day : result ≡ Err (Day fault)
  is_day = go result is where
    go : (r : Result A DayTableFault) → IsErrAnd r (λ told. told ≡ Day fault) → r ≡ Err (Day fault)
    go (Ok x) is = absurd is
    go (Err told) is = ap Err is

  pub day_refused : (date zone : List ℕ) (a : Option (List ℕ)) → IsRefused date zone fault → EndsByDay date zone a a result
  day_refused date zone a why = subst (EndsByDay date zone a a) (sym is_day) (why, Keeps-refl a)

  pub day_leaves : {S : Type 0} (g : Ghosts S) (d : DeskValue S) → LeavesDesk g d d result
  day_leaves g d = subst (LeavesDesk g d d) (sym is_day) (leaves_unasked g d fault)

  pub day_writes : (s : Operator) (table : DayTable) (date zone : List ℕ) (a : Option (List ℕ)) → WritesDay s table date zone a a result
  day_writes s table date zone a = subst (WritesDay s table date zone a a) (sym is_day) (Keeps-refl a)

-- ---- a day that has bounds

module _ {A : Type 0} (date zone : List ℕ) (begin until : ℕ) (bounds : HasBounds date zone begin until) (old new : Option (List ℕ)) where
  pub day_ends : (result : Result A DayTableFault) → IsOfDay result → EndsByDay date zone old new result
  day_ends (Ok x) of = (begin, until, bounds)
  day_ends (Err (Day fault)) of = absurd of
  day_ends (Err Write) of = (begin, until, bounds)
  day_ends (Err (Desk fault)) of = (begin, until, bounds)

  pub day_written : (s : Operator) (table kind : DayTable) → table ≡ kind → (result : Result A DayTableFault)
      → WritesText old new (span_text s kind begin until) result
      → WritesDay s table date zone old new result
  day_written s table kind is result wrote =
      by result (subst (λ (which : DayTable). WritesText old new (span_text s which begin until) result) (sym is) wrote) where
        by : (r : Result A DayTableFault) → WritesText old new (span_text s table begin until) r → WritesDay s table date zone old new r
        by (Ok x) h = (begin, until, bounds, h)
        by (Err (Day fault)) h = absurd h
        by (Err Write) h = (begin, until, bounds, h)
        by (Err (Desk fault)) h = (begin, until, bounds, h)
