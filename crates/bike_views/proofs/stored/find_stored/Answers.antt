use Rattle.std.proofs.Common.{sym, subst}
use Rattle.std.specs.Prelude.{IfSome}
use Rattle.bike_booking.specs.Stored.{IsMovedStored}
use Rattle.bike_views.proofs.OpenLaws.{open_none, open_weaker}
use Rattle.bike_views.proofs.DockLemmas.{are_docks}
use Rattle.bike_views.proofs.stored.find_stored.Goals as goal

pub returns-in-None : goal.returns-in-None
returns-in-None g c = open_none _ (λ s m command is. subst (λ o. IfSome o (IsMovedStored s m c.untouched.result)) (sym c.in-None.is) tt)

pub returns-in-Some : goal.returns-in-Some
returns-in-Some g c = open_weaker c.find_moved.ensures (λ s m x it command is. subst (λ o. IfSome o (IsMovedStored s m x)) (sym c.in-Some.is) (it (are_docks s m c.args.docks command is)))
