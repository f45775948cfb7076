use Rattle.std.proofs.Common.{◌≡◌, subst}
use Rattle.std.specs.Prelude.{IfSome}
use Rattle.bike_booking.specs.Figures.{figures_of}
use Rattle.bike_schema.proofs.AnswerLemmas.{reads_weaker}
use Rattle.bike_views.proofs.OpenLaws.{open_none, open_of}
use Rattle.bike_views.proofs.figures.know_figures.Goals as goal

pub returns-in-Some : goal.returns-in-Some
returns-in-Some g c = open_none _ (λ s m are. subst (λ o. IfSome o (λ f. f ≡ figures_of s)) c.in-Some.is are)

pub returns-in-None : goal.returns-in-None
returns-in-None g c = open_of (reads_weaker c.find_figures.ensures (λ db x it s h are. it s h))
