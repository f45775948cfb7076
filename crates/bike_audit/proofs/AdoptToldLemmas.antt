-- What the watch is told of.
use Rattle.std.proofs.Common.{inl, inr, List, [], ◌++◌, Ok, Err, Result, IfErr, refl, sym, ap, subst}
use Rattle.sqlite_trees.specs.declared.store.Store.{Ghosts}
use Rattle.sqlite.specs.Held.{Held, state}
use Rattle.bike_schema.specs.Tables.{HasNone}
use Rattle.bike_schema.specs.declared.fault.StatementFault.{StatementFault}
use Rattle.bike_schema.specs.declared.fault.StatementFault.TheVariants as statement
use Rattle.bike_recognition.specs.declared.table.TableName.{TableName as Table}
use Rattle.bike_recognition.specs.declared.stands.TheConstants.{EVERY_TABLE}
use Rattle.bike_audit.specs.Watching.{IsFront, AreToldOf}
use Rattle.bike_audit.specs.declared.finding.Finding.{Finding}
use Rattle.bike_audit.specs.declared.finding.Finding.TheVariants as finding
use Rattle.bike_desk.specs.Desk.{DeskValue}
use Rattle.bike_audit.specs.declared.adoption.AdoptFault.{AdoptFault}
use Rattle.bike_audit.specs.Adoption.{failure, found_as, AreToldBefore, IsOfStatement, AreToldBy}

pub told_failed : (f : StatementFault) (told : List Table) → IsFront EVERY_TABLE told → AreToldBefore (failure f) told
told_failed statement.NoMemory told front = front
told_failed statement.StoreFailed told front = front

module _ {S : Type 0} (g : Ghosts S) (old : Held S) where
  pub told_begun : HasNone (state g old).now.schema → (result : Result (DeskValue S) (AdoptFault S)) → IfErr result IsOfStatement → AreToldBy g old result []
  told_begun none (Ok d) it = inr (none, refl)
  told_begun none (Err e) it = subst (λ cause. AreToldBefore cause []) (sym it.1) (told_failed it.0 [] (EVERY_TABLE, refl))

  pub told_found : (c : Held S) (found : Finding) (told : List Table) → AreToldOf (Ok found) told → AreToldBy g old (found_as c found) told
  told_found c finding.Sound told are = inl are
  told_found c finding.Foreign told are = are
  told_found c (finding.Unsound bad) told are = are
  told_found c (finding.Older version) told are = are
  told_found c (finding.Newer version) told are = are
  told_found c finding.Empty told are = (EVERY_TABLE, ap (λ (xs : List Table). xs ++ EVERY_TABLE) (sym are))
