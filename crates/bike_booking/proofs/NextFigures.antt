-- The figures with one request more.
use Rattle.std.proofs.Common.{◌≡◌, ◌+◌, ℕ, Bool, true, false, if◌then◌else◌, Some, None, sym}
use Rattle.std.specs.Prelude.{nat_lt, option_map}
use Rattle.std.proofs.lemmas.Option.{same_Some}
use Rattle.bike_book.specs.Numbers.{next_count, most_requests}
use Rattle.bike_accepted.specs.declared.accepted.Accepted.{Accepted}
use Rattle.bike_booking.specs.declared.figures.Figures.{Figures}
use Rattle.bike_booking.specs.Figures.{figures_with, figures_after}

next_is : (n : ℕ) {x : Figures} (f : ℕ → Figures) → option_map f (next_count n) ≡ Some x → x ≡ f (n + 1)
next_is n {x} f is = go (nat_lt n most_requests) is where
  go : (b : Bool) → option_map f (if b then Some (n + 1) else None) ≡ Some x → x ≡ f (n + 1)
  go true e = sym (same_Some _ _ e)
  go false e = absurd cc

-- where the next request can be numbered, its number is one more
pub figures_next : (f : Figures) (now : ℕ) (a : Accepted) {later : Figures} → figures_after f now a ≡ Some later → later ≡ figures_with f now a (f.requests + 1)
figures_next f now a is = next_is f.requests (figures_with f now a) is
