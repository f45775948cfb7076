use Rattle.std.proofs.Common.{rules, ◌≡◌, ◌∷◌, ◌++◌, [], Ok, Err, refl, sym, subst}
use Rattle.bike_schema.specs.declared.fault.StatementFault.TheVariants.{NoMemory, StoreFailed}
use Rattle.bike_office_reads.proofs.CollectLaws.{ReadSoFar, none_read, next_read, goes_on, ends, fails, gives_up}
use Rattle.bike_office_reads.proofs.collect.collect_rows.Goals as goal

pub rows-init : goal.rows-init
rows-init g c =
    let now = c.args.rows.now.conn.now in
    record { same = refl; read = subst (ReadSoFar g.S.Store g.R.ReadRow.reads now now) (sym c.new-all.ensures.items) (none_read g.S.Store g.R.ReadRow.reads now) }

pub returns-in-None-clause-read : goal.returns-in-None-clause-read
returns-in-None-clause-read g c first all begun =
    let it = c.in_ok-value.ensures in
    let reads = g.R.ReadRow.reads in
    let mid = c.rows.rows.conn.now in
    let new = c.read_next.new.rows.conn.now in
    ends g.S.Store reads c.args.rows.now.conn.now mid new c.rows.all.items c.rows.invariant.read (λ xs. xs.items) first all begun c.in_ok-value.field-0
    (next_read g.S.Store reads mid new (Ok c.in_ok-value.field-0) it.next it.same it.failed it.mode it.survives) c.in-None.is c.rows.all refl

pub rows-preserved : goal.rows-preserved
rows-preserved g c =
    let it = c.in_ok-value.ensures in
    let reads = g.R.ReadRow.reads in
    let begun = c.args.rows.now.conn.now in
    let mid = c.rows.rows.conn.now in
    let new = c.read_next.new.rows.conn.now in
    let pushed : c.push.new.self.items ≡ c.rows.all.items ++ c.in-Some.value ∷ [] = search rules in
    record {
      same = search rules;
      read = subst (ReadSoFar g.S.Store reads begun new) (sym pushed)
          (goes_on g.S.Store reads begun mid new c.rows.all.items c.rows.invariant.read c.in_ok-value.field-0
          (next_read g.S.Store reads mid new (Ok c.in_ok-value.field-0) it.next it.same it.failed it.mode it.survives) c.in-Some.value c.in-Some.is);
    }

pub returns-in_err-value-clause-read : goal.returns-in_err-value-clause-read
returns-in_err-value-clause-read g c first all begun =
    let it = c.in_err-value.ensures in
    let reads = g.R.ReadRow.reads in
    let mid = c.rows.rows.conn.now in
    let new = c.read_next.new.rows.conn.now in
    fails g.S.Store reads c.args.rows.now.conn.now mid new c.rows.all.items c.rows.invariant.read (λ xs. xs.items) first all begun _
    (next_read g.S.Store reads mid new (Err c.in_err-value.field-0.0) it.next it.same it.failed it.mode it.survives) c.from_residual.result (search rules)

pub returns-then-is_err-clause-read : goal.returns-then-is_err-clause-read
returns-then-is_err-clause-read g c first all begun =
    let it = c.in_ok-value.ensures in
    let reads = g.R.ReadRow.reads in
    let mid = c.rows.rows.conn.now in
    let new = c.read_next.new.rows.conn.now in
    fails g.S.Store reads c.args.rows.now.conn.now mid new c.rows.all.items c.rows.invariant.read (λ xs. xs.items) first all begun _
    (next_read g.S.Store reads mid new (Ok c.in_ok-value.field-0) it.next it.same it.failed it.mode it.survives) (Err NoMemory) refl

pub returns-clause-read : goal.returns-clause-read
returns-clause-read g c first all begun =
    let now = c.rows.rows.conn.now in
    gives_up g.S.Store g.R.ReadRow.reads c.args.rows.now.conn.now now now c.rows.all.items c.rows.invariant.read (λ xs. xs.items) first all begun (Err StoreFailed) refl refl
