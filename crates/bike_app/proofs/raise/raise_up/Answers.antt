use Rattle.std.proofs.Common.{inl, inr, ap, Err, rules}
use Rattle.bike_app.proofs.raise.raise_up.Goals as goal

pub returns-in-Ok-clause-told : goal.returns-in-Ok-clause-told
returns-in-Ok-clause-told g c clean =
    let it = c.in-Ok.ensures.only clean in
    inr (record { version = it.0; operator = it.1; was = it.2; holds = it.3 }, c.write_line.ensures)

pub returns-in-Ok-clause-left : goal.returns-in-Ok-clause-left
returns-in-Ok-clause-left g c clean v s stands live db h = inr ((c.in-Ok.ensures.found v s stands clean).left db h)

pub returns-in-Err-clause-told : goal.returns-in-Err-clause-told
returns-in-Err-clause-told g c clean =
    let now = rw c.taken_from_raise-conn.ensures.conn at clean in
    inl (record {
      fault = c.in-Err.fault;
      told = ap Err c.taken_from_raise-conn.ensures.told;
      why = c.in-Err.ensures.told now;
      want = λ v s stands. c.in-Err.ensures.refused v s stands now;
      conn = c.taken_from_raise-conn.ensures.conn;
      written = search rules;
    })

pub returns-in-Err-clause-left : goal.returns-in-Err-clause-left
returns-in-Err-clause-left g c clean v s stands live =
    rw c.taken_from_raise-conn.ensures.conn (λ db h. c.in-Err.ensures.left v s stands live (rw c.taken_from_raise-conn.ensures.conn at clean) db h)
