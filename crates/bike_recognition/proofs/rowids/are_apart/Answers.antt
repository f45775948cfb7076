use Rattle.std.proofs.Common.{rules, true, Ok, IsTrue, subst}
use Rattle.bike_sql.specs.Calls.{ReadsWhere}
use Rattle.bike_recognition.specs.Rowids.{AsksRowids, AreApart}
use Rattle.bike_recognition.proofs.PassLemmas.{passes_on, pass_ends}
use Rattle.bike_recognition.proofs.rowids.are_apart.Goals as goal

pub returns-in-End : goal.returns-in-End
returns-in-End g c =
    let text = c.args.sql.now in
    let ended = pass_ends g.S.Store text c.args.conn.now c.rows.rows.conn.now c.next_rowid.new.rows.conn.now c.rows.last c.rows.invariant.passing (rw c.in-End.is at c.in_ok-id.ensures.steps) in
    subst (λ h. ReadsWhere g.S.Store (λ db. AsksRowids db text) c.args.conn.now h (Ok true) (λ db apart. IsTrue apart → (it : AsksRowids db text) → AreApart (db.trees it.tree))) (search rules) ended

pub rows-preserved : goal.rows-preserved
rows-preserved g c = record {
  same = search rules;
  passing =
      passes_on g.S.Store c.args.sql.now c.args.conn.now c.rows.rows.conn.now c.next_rowid.new.rows.conn.now c.rows.last c.rows.invariant.passing c.in-Number.id
      (rw c.in-Number.is at c.in_ok-id.ensures.steps) (search rules);
}
