-- A connection that is kept while it is open.
use Rattle.std.specs.Prelude.{ℕ, ◌≤◌, Bool, List, ◌∷◌, sum_by, IsPermutation}
use Rattle.std.specs.Duration.{as_nanos}
use Rattle.std.specs.declared.time.Duration.{Duration}
use Rattle.slab.specs.Slab.{Slab}
use Rattle.bike_http_connection.specs.Connected.{Connected, Opened}
use Rattle.bike_http_connections.specs.Ahead.{Loses, open_in}

-- Its client, when it is given up, whether its request is there and may ask for a feed, and how many blocks are counted
-- as those of its answer.
pub record Kept : Type 0 where
  pub who : Connected
  pub end : Duration
  pub may_be_feed : Bool
  pub blocks : ℕ

-- a connection of which so many blocks are counted, and the connection that is kept
abbrev pub kept_as : Opened → ℕ → Kept
kept_as one blocks = record { who = one.who; end = one.end; may_be_feed = one.may_be_feed; blocks = blocks }

abbrev pub opened_of : Kept → Opened
opened_of one = record { who = one.who; end = one.end; may_be_feed = one.may_be_feed }

-- how many blocks are counted of all of these
abbrev pub blocks_of : List Kept → ℕ
blocks_of all = sum_by (λ one. one.blocks) all

abbrev pub blocks_in : Slab Kept → ℕ
blocks_in slab = blocks_of (open_in slab.slots)

-- this connection goes out as it was, and comes in as it is, unless one is lost
abbrev pub GivesOut : Opened → List Kept → List Kept → Type 0
GivesOut one old new = (blocks : ℕ) × IsPermutation old (kept_as one blocks ∷ new)

abbrev pub TakesIn : Opened → List Kept → List Kept → Type 0
TakesIn one old new = (blocks : ℕ) × Loses (kept_as one blocks ∷ old) new

-- this connection comes in as it is, and the others are those that were there, as they were
abbrev pub ComesIn : Opened → List Kept → List Kept → Type 0
ComesIn one old new = GivesOut one new old

-- it comes in with no more time than it had
abbrev pub TakesInBy : Opened → List Kept → List Kept → Type 0
TakesInBy first old new = (one : Opened) × TakesIn one old new × (as_nanos one.end ≤ as_nanos first.end)
