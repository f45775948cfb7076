-- What is waited for of a request.
use Rattle.std.specs.Prelude.{◌≡◌, ℕ, ◌<◌, ◌≤◌, List, ◌++◌, length, Bool, true, false, ◌||◌, ◌==◌, ⊤, Some, IsTrue}
use Rattle.std.specs.List.{list_any}
use Rattle.httparse.specs.Ascii.{line_feed, carriage_return}
use Rattle.httparse.specs.Grammar.{RequestHead}
use Rattle.bike_http_head.specs.Head.{HasHead, HasNoHead}
use Rattle.bike_http_head.specs.Table.{path_of, route_at}
use Rattle.bike_http_head.specs.declared.routes.Route.TheVariants as route
use Rattle.bike_http_connection.specs.declared.stage.Stage.{Stage}
use Rattle.bike_http_connection.specs.declared.stage.Stage.TheVariants.{Head, Body, Unreadable}
use Rattle.bike_http_connection.specs.Settled.{IsWhole}

-- an LF is among them
abbrev pub has_line_end : List ℕ → Bool
has_line_end bytes = list_any (λ b. b == line_feed) bytes

-- a byte of a line end
abbrev pub is_line_byte : ℕ → Bool
is_line_byte b = (b == line_feed) || (b == carriage_return)

-- its head is there, or none can come
abbrev pub KnowsHead : Stage → Type 0
KnowsHead (Head most) = ⊥
KnowsHead (Body end may_ask_feed) = ⊤
KnowsHead Unreadable = ⊤

-- without a line end, bytes that follow make these no whole request
abbrev pub AwaitsLineEnd : Bool → List ℕ → Type 0
AwaitsLineEnd came bytes = (more : List ℕ) → IsWhole (bytes ++ more) → (came || has_line_end more) ≡ true

-- with bytes that follow these are a whole request exactly where they are so many
abbrev pub AwaitsBytes : ℕ → List ℕ → Type 0
AwaitsBytes end bytes =
    (more : List ℕ) → (IsWhole (bytes ++ more) → end ≤ length (bytes ++ more))
    × ((IsWhole (bytes ++ more) → ⊥) → length (bytes ++ more) < end)

-- no head comes, whatever follows
abbrev pub AwaitsNothing : List ℕ → Type 0
AwaitsNothing bytes = (more : List ℕ) → HasNoHead (bytes ++ more)

-- what is waited for at each stage; whether a line end came since the bytes were looked at
abbrev pub Awaits : Stage → Bool → List ℕ → Type 0
Awaits stage came bytes =
    ((most : ℕ) → stage ≡ Head most → AwaitsLineEnd came bytes)
    × ((end : ℕ) (may_ask_feed : Bool) → stage ≡ Body end may_ask_feed → AwaitsBytes end bytes)
    × (stage ≡ Unreadable → AwaitsNothing bytes)

-- it is known that it may ask for a feed
abbrev pub shows_feed : Stage → Bool
shows_feed (Head most) = false
shows_feed (Body end may_ask_feed) = may_ask_feed
shows_feed Unreadable = false

-- the path in its head takes the route of a feed
abbrev pub AsksFeed : List ℕ → Type 0
AsksFeed bytes =
    (head : RequestHead) × (rest : List ℕ) × HasHead bytes head rest
    × (feed : _) × (route_at (path_of head.target) ≡ Some (route.Publish feed))

-- where these bytes, with others that follow, ask for a feed, it is known that they may
abbrev pub ShowsFeeds : Stage → List ℕ → Type 0
ShowsFeeds stage bytes = KnowsHead stage → (more : List ℕ) → AsksFeed (bytes ++ more) → IsTrue (shows_feed stage)
