-- Tables of other names stay.
use Rattle.std.proofs.Common.{◌≡◌, ◌≢◌, Some, refl, sym, subst, ◌∙◌}
use Rattle.sqlite_trees.specs.declared.store.Store.{Ghosts}
use Rattle.sqlite.specs.Effect.{Database}
use Rattle.bike_schema.specs.Makes.{OthersStay}
use Rattle.bike_desk.specs.declared.fault.DeskFault.{DeskFault}
use Rattle.bike_desk.specs.declared.fault.DeskFault.TheVariants.{NoMemory, StoreFailed, Stopped}
use Rattle.bike_desk.specs.Desk.{DeskValue, desk_state}

pub others_same : (old new : Database) → new ≡ old → OthersStay old new
others_same old new same = subst (OthersStay old) (sym same) (λ keys layout other stands. record { stands = stands; rows = refl })

pub others_then : (a b c : Database) → OthersStay a b → OthersStay b c → OthersStay a c
others_then a b c first second keys layout other stands =
    let one = first keys layout other stands in
    let two = second keys layout other one.stands in
    record { stands = two.stands; rows = two.rows ∙ one.rows }

-- so after any fault but a failed store
pub others_after : {S : Type 0} (g : Ghosts S) (first old new : DeskValue S) (fault : DeskFault) → OthersStay (desk_state g first).now (desk_state g old).now → Some fault ≢ Some StoreFailed
    → (fault ≡ NoMemory → new ≡ old) → (fault ≡ Stopped → new ≡ old) → OthersStay (desk_state g first).now (desk_state g new).now
others_after g first old new NoMemory stay other none stopped = subst (λ (d : DeskValue _). OthersStay (desk_state g first).now (desk_state g d).now) (sym (none refl)) stay
others_after g first old new StoreFailed stay other none stopped = absurd (other refl)
others_after g first old new Stopped stay other none stopped = subst (λ (d : DeskValue _). OthersStay (desk_state g first).now (desk_state g d).now) (sym (stopped refl)) stay
