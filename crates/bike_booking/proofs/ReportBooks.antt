-- The rows that are listed, where a station reports.
use Rattle.std.proofs.Common.{ℕ, List, refl, arith}
use Rattle.bike_operator.specs.Operator.{Operator}
use Rattle.bike_operator.specs.Steps.{with_report}
use Rattle.bike_laws.proofs.SingleSteps.CatalogueLemmas.{docks_changed}
use Rattle.bike_laws.proofs.SingleSteps.Moment.{reports}
use Rattle.bike_book.specs.Stored.{Listed, IsListing}
use Rattle.bike_book.proofs.ListingLemmas.{listing_same}

pub report_listed : (s : Operator) (m : Listed) (now : ℕ) (station : List ℕ) → IsListing s m → IsListing (with_report station now s) m
report_listed s m now station = listing_same s (with_report station now s) m (docks_changed s (with_report station now s) station (reports now) (λ x. omega arith) refl) refl refl refl
