-- For how long is waited, and whether there is work.
use Rattle.std.proofs.Common.{◌≡◌, ℕ, ◌↔◌, length, Option, Some, Bool, true, false, IsTrue, if◌then◌else◌, inl, inr, refl}
use Rattle.bike_http_connections.specs.Kept.{blocks_of}
use Rattle.bike_http_connections.specs.Turns.{IsDue}
use Rattle.bike_http_connections.specs.Table.{Table, FitsFeed, HasWork}

due_where : {P Q : Type 0} (ready going feeds : ℕ) → (P → Q) → IsDue ready going feeds P → IsDue ready going feeds Q
due_where {P} {Q} ready going feeds leads (inl some) = inl some
due_where {P} {Q} ready going feeds leads (inr (inl some)) = inr (inl some)
due_where {P} {Q} ready going feeds leads (inr (inr some)) = inr (inr (some.0, leads some.1))

pub has_work_is : (table : Table) (told fits : Bool)
    → (IsTrue told ↔ IsDue (length table.ready) (length table.going) (length table.feeds) (IsTrue fits)) → (IsTrue fits ↔ FitsFeed (blocks_of table.opened))
    → IsTrue told ↔ HasWork table
has_work_is table told fits is room = (
  λ some. due_where (length table.ready) (length table.going) (length table.feeds) room.0 (is.0 some),
  λ due. is.1 (due_where (length table.ready) (length table.going) (length table.feeds) room.1 due),
)

pub waits_not : (wait other : Option ℕ) (has_work : Bool) → wait ≡ (if has_work then Some 0 else other) → IsTrue has_work → wait ≡ Some 0
waits_not wait other true is some = is
waits_not wait other false is some = absurd (cc)

pub waits_for : (wait other : Option ℕ) (has_work : Bool) → wait ≡ (if has_work then Some 0 else other) → (IsTrue has_work → ⊥) → wait ≡ other
waits_for wait other true is none = absurd (none refl)
waits_for wait other false is none = is
