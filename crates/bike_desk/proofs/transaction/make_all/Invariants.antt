use Rattle.std.proofs.Common.{◌≡◌, true, IsTrue, take}
use Rattle.sqlite.specs.State.{HasCleanDisk, Survives}
use Rattle.sqlite.specs.Held.{state}
use Rattle.bike_book.specs.Writes.{writes_of}
use Rattle.bike_schema.specs.Makes.{Puts}
use Rattle.bike_schema.specs.Tables.{IsOurs}
use Rattle.bike_desk.proofs.transaction.make_all.Given as goal

-- so many changes are put, and what a crash may leave is what it was
abbrev pub invariant-changes : goal.invariant-changes
invariant-changes g l = record {
  same : l.staged.conn.ghost_name ≡ l.initial.staged.conn.ghost_name;
  made : HasCleanDisk (state g.S.Store l.staged.conn.now) → IsTrue (state g.S.Store l.fn.conn).is_open → IsOurs (state g.S.Store l.fn.conn).now
      → Puts (writes_of (take l.change-index l.changes)) (state g.S.Store (record l.fn.conn { in_transaction = true })) (state g.S.Store l.staged.conn.now);
  calm : Survives (state g.S.Store (record l.fn.conn { in_transaction = true })) (state g.S.Store l.staged.conn.now) (λ _. ⊥);
}
