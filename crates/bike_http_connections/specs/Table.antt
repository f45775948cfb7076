-- The connections that are open, and what is noted of them.
use Rattle.std.specs.Prelude.{◌≡◌, ℕ, ◌+◌, ◌<◌, ◌≤◌, ⊤, Bool, List, map, length, Option, if◌then◌else◌}
use Rattle.bike_http_connection.specs.Connected.{Connected}
use Rattle.bike_http_connection.specs.declared.connection.Step.{Step}
use Rattle.bike_http_connection.specs.declared.connection.Step.TheVariants.{Waits, GoesOn, Settled, Sent, Rests, Over}
use Rattle.bike_http_connections.specs.declared.limits.TheConstants.{MOST_OPEN}
use Rattle.bike_http_connections.specs.declared.room.TheConstants.{MOST_BLOCKS, FEED_BLOCKS}
use Rattle.bike_http_connections.specs.Kept.{Kept, blocks_of}
use Rattle.bike_http_connections.specs.Turns.{IsDue}

-- The connections that are open, by rising key; the soonest of the deadlines that are noted; and the keys of those
-- whose request is there and asks for no feed, of those that may ask for one, and of those that were put off.
pub record Table : Type 0 where
  pub opened : List Kept
  pub soonest : Option ℕ
  pub ready : List ℕ
  pub feeds : List ℕ
  pub going : List ℕ

-- the clients of those that are open
abbrev pub clients_of : Table → List Connected
clients_of table = map (λ one. one.who) table.opened

-- all of it stays but for the keys that wait
abbrev pub KeepsOpened : Table → Table → Type 0
KeepsOpened old new = new ≡ record old { ready = new.ready; feeds = new.feeds; going = new.going }

-- A connection that got so far is sure to be kept: one that has nothing to do, and one that goes on or whose request is
-- there, while fewer wait than may be open. Whether a socket can be waited for isn't known.
abbrev pub HasTurn : Step → Table → Type 0
HasTurn Waits table = ⊥
HasTurn GoesOn table = length table.going < MOST_OPEN
HasTurn Settled table = (length table.ready < MOST_OPEN) × (length table.feeds < MOST_OPEN)
HasTurn Sent table = ⊥
HasTurn Rests table = ⊤
HasTurn Over table = ⊥

-- the keys of those that may ask for a feed, or of the others whose request is there
abbrev pub queue_of : Bool → Table → List ℕ
queue_of is_feed table = if is_feed then table.feeds else table.ready

-- beside so many blocks there is room for a feed
abbrev pub FitsFeed : ℕ → Type 0
FitsFeed held = held + FEED_BLOCKS ≤ MOST_BLOCKS

-- one of them goes on without waiting
abbrev pub HasWork : Table → Type 0
HasWork table = IsDue (length table.ready) (length table.going) (length table.feeds) (FitsFeed (blocks_of table.opened))
