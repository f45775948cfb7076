-- What is known of the operator when a request is read.
use Rattle.std.specs.Prelude.{◌≡◌, IsTrue}
use Rattle.bike_operator.specs.Operator.{Operator}
use Rattle.bike_office_reads.specs.Newest.{NewestTells}
use Rattle.bike_booking.specs.Figures.{figures_of}
use Rattle.bike_views.specs.declared.figures.KnownFigures.{KnownFigures}

pub record IsKnown (s : Operator) (k : KnownFigures) : Type 0 where
  pub figures : k.figures ≡ figures_of s
  pub newest : IsTrue k.newest_tells → NewestTells s
