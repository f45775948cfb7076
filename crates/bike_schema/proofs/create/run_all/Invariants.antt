use Rattle.std.proofs.Common.{◌≡◌, IsTrue, map, take}
use Rattle.sqlite.specs.State.{HasCleanDisk, Survives}
use Rattle.sqlite.specs.Held.{state}
use Rattle.bike_schema.specs.Creates.{RanAll}
use Rattle.bike_schema.proofs.create.run_all.Given as goal

-- so many statements ran, and what a crash may leave is what it was
abbrev pub invariant-loop-sql : goal.invariant-loop-sql
invariant-loop-sql g l = record {
  same : l.staged.conn.ghost_name ≡ l.fn.staged.conn.ghost_name;
  ran : HasCleanDisk (state g.S.Store l.staged.conn.now) → IsTrue l.fn.staged.conn.now.in_transaction
      → RanAll g.S.Store (map (λ text. text.now) (take l.sql-index l.texts)) l.fn.staged.conn.now l.staged.conn.now;
  calm : Survives (state g.S.Store l.fn.staged.conn.now) (state g.S.Store l.staged.conn.now) (λ _. ⊥);
}
