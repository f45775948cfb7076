-- For how long is waited, and what is to be done without waiting.
use Rattle.std.specs.Prelude.{ℕ, min, ◌<◌, ◌≤◌, ◌-◌, ◌⊎◌, Option, Some, None, option_map}
use Rattle.std.specs.Duration.{as_nanos}
use Rattle.std.specs.declared.time.Duration.{Duration}

-- a time in nanoseconds; none where that is for ever
abbrev pub nanos : Option Duration → Option ℕ
nanos time = option_map as_nanos time

-- the sooner of two moments, either of which may be never
abbrev pub sooner_of : Option ℕ → Option ℕ → Option ℕ
sooner_of None other = other
sooner_of (Some moment) None = Some moment
sooner_of (Some moment) (Some other) = Some (min moment other)

-- a moment, which may be never, has come
abbrev pub HasCome : Option ℕ → ℕ → Type 0
HasCome None now = ⊥
HasCome (Some moment) now = moment ≤ now

-- how long it is until a moment, which may be never
abbrev pub time_until : Option ℕ → ℕ → Option ℕ
time_until end now = option_map (λ moment. moment - now) end

-- one goes on at once: its request is there, it was put off, or it may ask for a feed, and there is room for one
abbrev pub IsDue : ℕ → ℕ → ℕ → Type 0 → Type 0
IsDue ready going feeds FitsFeed = (0 < ready) ⊎ ((0 < going) ⊎ ((0 < feeds) × FitsFeed))
