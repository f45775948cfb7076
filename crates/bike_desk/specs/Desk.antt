-- What contracts see of a desk, and when it stands for an operator.
use Rattle.std.specs.Prelude.{◌≡◌, ◌⊎◌, ℕ, Bool, false, IsTrue, Option, None, IfSome, refl}
use Rattle.std.specs.Coded.{Coded, code_by, coded×, coded_bool, coded_option, coded_ℕ}
use Rattle.sqlite_trees.specs.Tree.{Trees}
use Rattle.sqlite_trees.specs.declared.store.Store.{Ghosts}
use Rattle.sqlite.specs.State.{State, HasCleanDisk}
use Rattle.sqlite.specs.Held.{Held, held_code, state}
use Rattle.bike_operator.specs.Operator.{Operator}
use Rattle.bike_booking.specs.declared.figures.Figures.{Figures}
use Rattle.bike_booking.specs.Figures.{figures_of}
use Rattle.bike_schema.specs.Stands.{Keeps, TreesStandFor}
use Rattle.bike_office_reads.specs.Newest.{NewestTells}
use Rattle.bike_desk.specs.declared.remembered.DeskMemory.{DeskMemory}

-- a connection, whether the desk serves no more, and what it remembers of its operator
pub record DeskValue (S : Type 0) : Type 0 where
  pub conn : Held S
  pub is_stopped : Bool
  pub remembered : DeskMemory

-- nothing was found yet
abbrev pub nothing_remembered : DeskMemory
nothing_remembered = record { newest_tells = false; figures = None }

abbrev figures_code : Coded Figures
figures_code =
    code_by (ℕ × (ℕ × (ℕ × (ℕ × ℕ)))) (coded× coded_ℕ (coded× coded_ℕ (coded× coded_ℕ (coded× coded_ℕ coded_ℕ))))
    (λ f. (f.now, (f.rentals, (f.orders, (f.entries, f.requests)))))
    (λ p. record {
      now = p.0;
      rentals = p.1.0;
      orders = p.1.1.0;
      entries = p.1.1.1.0;
      requests = p.1.1.1.1;
    }) (λ _. refl)

abbrev remembered_code : Coded DeskMemory
remembered_code =
    code_by (Bool × Option Figures) (coded× coded_bool (coded_option figures_code)) (λ r. (r.newest_tells, r.figures))
    (λ p. record { newest_tells = p.0; figures = p.1 }) (λ _. refl)

abbrev pub desk_code : {S : Type 0} → Coded S → Coded (DeskValue S)
desk_code {S} store =
    code_by ((Held S × Bool) × DeskMemory) (coded× (coded× (held_code store) coded_bool) remembered_code)
    (λ d. ((d.conn, d.is_stopped), d.remembered))
    (λ p. record { conn = p.0.0; is_stopped = p.0.1; remembered = p.1 }) (λ _. refl)

-- a desk over the connection, as it begins
abbrev pub desk_over : {S : Type 0} → Held S → DeskValue S
desk_over c = record { conn = c; is_stopped = c.in_transaction; remembered = nothing_remembered }

-- what the desk's connection shows
abbrev pub desk_state : {S : Type 0} → Ghosts S → DeskValue S → State
desk_state g d = state g d.conn

-- the trees stand for the one operator or the other
abbrev pub TreesStandForEither : Operator → Operator → Trees → Type 0
TreesStandForEither s next trees = TreesStandFor s trees ⊎ TreesStandFor next trees

-- figures that were read are the operator's
abbrev pub AreFigures : Option Figures → Operator → Type 0
AreFigures figures s = IfSome figures (λ f. f ≡ figures_of s)

-- What is remembered is so of the operator.
pub record IsRemembered (s : Operator) (r : DeskMemory) : Type 0 where
  pub newest : IsTrue r.newest_tells → NewestTells s
  pub figures : AreFigures r.figures s

-- The desk goes on; its tables and all that a crash may leave stand
-- for the operator. What it remembers is so of that operator.
pub record IsAt {S : Type 0} (g : Ghosts S) (d : DeskValue S) (s : Operator) : Type 0 where
  pub goes_on : d.is_stopped ≡ false
  pub keeps : Keeps (state g d.conn) s
  pub remembers : IsRemembered s d.remembered

-- So it is of the operator at which the desk was, where the disk is clean afterwards.
abbrev pub OfOperator : {S : Type 0} → Ghosts S → DeskValue S → DeskValue S → (Operator → Type 0) → Type 0
OfOperator g old new says = HasCleanDisk (desk_state g new) → (s : Operator) → IsAt g old s → says s

-- The whole database is as it was.
abbrev pub KeepsDatabase : {S : Type 0} → Ghosts S → DeskValue S → DeskValue S → Type 0
KeepsDatabase g old new = (desk_state g new).now ≡ (desk_state g old).now

-- So it is where the desk goes on.
abbrev pub KeepsWhereGoing : {S : Type 0} → Ghosts S → DeskValue S → DeskValue S → Type 0
KeepsWhereGoing g old new = OfOperator g old new (λ s. new.is_stopped ≡ false → KeepsDatabase g old new)
