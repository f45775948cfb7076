-- When connections end.
use Rattle.std.specs.Prelude.{◌≡◌, ℕ, ◌-◌, ◌≤◌, leb, not, List, All, filter, map, Option, Some, None, if◌then◌else◌}
use Rattle.std.specs.Duration.{as_nanos}
use Rattle.slab.specs.Slab.{Slab, get, Updates}
use Rattle.bike_http_connection.specs.Connected.{Connected}
use Rattle.bike_http_connections.specs.declared.limits.TheConstants.{MOST_OPEN}
use Rattle.bike_http_connections.specs.Ahead.{open_in}
use Rattle.bike_http_connections.specs.Kept.{Kept, blocks_in}
use Rattle.bike_http_connections.specs.Turns.{HasCome}

-- the clients of those in slots
abbrev pub clients_in : List (Option Kept) → List Connected
clients_in slots = map (λ one. one.who) (open_in slots)

-- none is given up before the soonest moment
abbrev pub NoneSooner : Option ℕ → Slab Kept → Type 0
NoneSooner soonest slab = (key : ℕ) (one : Kept) → get slab key ≡ Some one → HasCome soonest (as_nanos one.end)

-- .. which, if there is one, is that of one of them
abbrev pub IsOfOne : Option ℕ → Slab Kept → Type 0
IsOfOne soonest slab =
    (moment : ℕ) → soonest ≡ Some moment → (key : ℕ) × (one : Kept) × (get slab key ≡ Some one)
    × (moment ≡ as_nanos one.end)

-- itself, unless its time is over
abbrev pub unless_late : ℕ → Option Kept → Option Kept
unless_late now None = None
unless_late now (Some one) = if leb (as_nanos one.end) now then None else Some one

-- those whose time is over ended, and the others are as they were; and so with the one at this key alone
abbrev pub EndsLate : ℕ → Slab Kept → Slab Kept → Type 0
EndsLate now old new = (key : ℕ) → get new key ≡ unless_late now (get old key)

abbrev pub EndsLateAt : ℕ → Slab Kept → Slab Kept → ℕ → Type 0
EndsLateAt now old new key = Updates old new key (unless_late now (get old key))

-- those whose time isn't over, as they were
abbrev pub in_time : ℕ → List Kept → List Kept
in_time now opened = filter (λ one. not (leb (as_nanos one.end) now)) opened

-- a moment comes no later than any of these is given up, and so does the end of a wait that begins now
abbrev pub ComesFirst : Option ℕ → List Kept → Type 0
ComesFirst moment opened = All (λ one. HasCome moment (as_nanos one.end)) opened

abbrev pub EndsFirst : Option ℕ → ℕ → List Kept → Type 0
EndsFirst wait now opened = All (λ one. HasCome wait (as_nanos one.end - now)) opened

-- What is noted of those that are kept: a moment no later than any of them is given up, how many blocks are counted of
-- them, and that as many as may be open have a place with no more memory.
pub record IsNoted (moment : Option ℕ) (held : ℕ) (slab : Slab Kept) : Type 0 where
  pub soonest : NoneSooner moment slab
  pub counted : held ≡ blocks_in slab
  pub places : MOST_OPEN ≤ slab.capacity
