-- Why a store isn't open, and what an adoption tells of trees of which only is known that a stop left them.
use Rattle.std.proofs.Common.{arith}
use Rattle.std.proofs.Math.Logic.{∥∥₁_elim}
use Rattle.sqlite_trees.specs.declared.store.Store.{Ghosts}
use Rattle.sqlite.specs.Held.{Held}
use Rattle.bike_audit.specs.declared.adoption.AdoptFault.{AdoptFault}
use Rattle.bike_audit.specs.declared.adoption.AdoptCause.{AdoptCause}
use Rattle.bike_audit.specs.declared.adoption.AdoptCause.TheVariants.{Foreign, Unsound, Older, Newer, NoMemory, StoreFailed}
use Rattle.bike_audit.specs.Adoption.{IsWant, IsWantFor}
use Rattle.bike_recovery.specs.declared.reopening.Shut.{Shut}
use Rattle.bike_recovery.specs.declared.reopening.Shut.TheVariants as shut
use Rattle.bike_recovery.specs.Reopening.{IsShut}
use Rattle.bike_recovery.specs.Losses.{IsShutOnlyFor}

-- a disk that had one more fault had one
pub shut_only : {S : Type 0} (g : Ghosts S) (conn : Held S) (e : Shut S) → IsShut g conn e → IsShutOnlyFor g e
shut_only g conn (shut.NoMemory left) is = tt
shut_only g conn (shut.StoreFailed left) is = λ clean. let more = is clean in omega (arith, more)

-- a fault that is somehow a want is one
want_for : (cause : AdoptCause) → ∥ IsWantFor cause ∥₁ → IsWantFor cause
want_for Foreign is = ∥∥₁_elim is (λ x y. absurd x) (λ x. x)
want_for (Unsound bad) is = ∥∥₁_elim is (λ x y. absurd x) (λ x. x)
want_for (Older version) is = ∥∥₁_elim is (λ x y. absurd x) (λ x. x)
want_for (Newer version) is = ∥∥₁_elim is (λ x y. absurd x) (λ x. x)
want_for NoMemory is = tt
want_for StoreFailed is = tt

pub want_somehow : {S : Type 0} (e : AdoptFault S) → ∥ IsWant e ∥₁ → IsWant e
want_somehow e is = want_for e.cause is
