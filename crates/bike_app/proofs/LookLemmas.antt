-- What is so of a database that was looked at, after a desk over it was asked.
use Rattle.std.proofs.Common.{◌≡◌, ◌≤◌, ◌∙◌, IsTrue, Ok, ap, sym, subst}
use Rattle.sqlite.specs.Store.{Ghosts}
use Rattle.sqlite.specs.State.{HasCleanDisk}
use Rattle.sqlite.specs.Held.{Held, state}
use Rattle.sqlite_trees.specs.View.{doubt}
use Rattle.bike_operator.specs.Operator.{Operator}
use Rattle.bike_schema.specs.Stands.{AllLeft, IsOf, Stores, TreesStandFor}
use Rattle.bike_desk.specs.Desk.{DeskValue, desk_over, desk_state, IsAt}
use Rattle.bike_desk.proofs.KeepLemmas.{kept_stores}
use Rattle.bike_audit.specs.declared.looking.Inspection.{Inspection}
use Rattle.bike_audit.specs.declared.looking.Inspection.TheVariants.{Sound}
use Rattle.bike_audit.specs.Adoption.{IsSeen, Looks}
use Rattle.bike_app.proofs.ProgramLemmas.{began_clean}

-- what was found is what it was matched as
pub matched : {S : Type 0} {g : Ghosts S} {first : Held S} {found is : Inspection S} → found ≡ is → Looks g first (Ok found) → Looks g first (Ok is)
matched {g = g} {first = first} same it = subst (λ l. Looks g first (Ok l)) same it

module _ {S : Type 0} (g : Ghosts S) {first conn last : Held S} (looks : Looks g first (Ok (Sound conn))) {desk : DeskValue S} (over : desk ≡ desk_over conn) (new : DeskValue S)
    (same : last ≡ new.conn) (clean : HasCleanDisk (state g last)) (falls : doubt (desk_state g desk).is_clean ≤ doubt (desk_state g new).is_clean) where
  looked_clean : HasCleanDisk (state g conn)
  looked_clean = subst (λ (d : DeskValue S). HasCleanDisk (desk_state g d)) over (began_clean g new same clean desk falls)

  seen : IsSeen g first (Sound conn)
  seen = looks.seen looked_clean

  pub seen_at : (s : Operator) → TreesStandFor s (state g first).now.trees → IsAt g desk s
  seen_at s stands = subst (λ (d : DeskValue S). IsAt g d s) (sym over) (seen.2 s stands)

  -- the database is as it was
  pub seen_same : (desk_state g desk).now ≡ (state g first).now
  seen_same = ap (λ (d : DeskValue S). (desk_state g d).now) over ∙ seen.0.0.now_is

  pub seen_operator : (s : Operator) × IsOf (state g first).now s × IsAt g desk s
  seen_operator = let it = seen.1 in (it.0, it.1, subst (λ (d : DeskValue S). IsAt g d it.0) (sym over) it.2)

  -- and it has the operator's tables
  pub seen_tables : (s : Operator) × Stores (state g first).now s
  seen_tables = let it = seen_operator in (it.0, subst (λ db. Stores db it.0) seen_same (kept_stores (desk_state g desk) it.0 it.2.keeps))

  module _ (leaves : (s : Operator) → IsAt g desk s → AllLeft (desk_state g new) (desk_state g desk).may_leave) where
    -- a crash leaves no more than it could before the desk was asked
    no_more : AllLeft (state g last) (state g conn).may_leave
    no_more =
        let it = seen_operator in
        subst (λ (h : Held S). AllLeft (state g h) (state g conn).may_leave) (sym same)
        (subst (λ (d : DeskValue S). AllLeft (desk_state g new) (desk_state g d).may_leave) over (leaves it.0 it.2))

    pub looked_stays : AllLeft (state g last) (state g first).may_leave
    looked_stays db h = looks.stays looked_clean db (no_more db h)

    pub looked_kept : (s : Operator) → TreesStandFor s (state g first).now.trees → IsTrue (state g first).is_open → AllLeft (state g last) (TreesStandFor s)
    looked_kept s stands live db h = looks.left s stands live looked_clean db (no_more db h)
