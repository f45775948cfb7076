use Rattle.std.proofs.Common.{Ok, Err, ap, ◌∙◌, arith}
use Rattle.bike_batch.proofs.WalkLemmas.{text, walk_begins, walk_writes, walk_goes, walk_ends, walk_runs_out, first_failed, next_failed, header_failed, row_failed, table_told}
use Rattle.bike_batch.proofs.Sources.{entries, few_entries, entry_asks}
use Rattle.bike_batch.proofs.day_tables.write_entries.Goals as goal

pub returns-in_err-next : goal.returns-in_err-next
returns-in_err-next g c =
    let of = entries c.args.begin c.args.until in
    table_told g.S.Store (text of) _ _ c.from_residual.ensures.1
    (first_failed g.S.Store of c.in_err-next.field-0.0 (λ is. c.in_err-next.ensures.takes_none (ap Err is)) c.in_err-next.ensures.query)

pub returns-in_err-write_header : goal.returns-in_err-write_header
returns-in_err-write_header g c =
    let of = entries c.args.begin c.args.until in
    table_told g.S.Store (text of) _ _ c.from_residual-in_err-write_header.ensures.1
    (header_failed g.S.Store of c.in_ok-next.next c.in_err-write_header.field-0.0 c.in_ok-next.ensures.query c.in_err-write_header.ensures)

pub entries-init : goal.entries-init
entries-init g c =
    walk_begins g.S.Store (entries c.args.begin c.args.until) c.in_ok-next.next c.in_ok-next.ensures.query c.in_ok-write_header.ensures

pub returns-in_default : goal.returns-in_default
returns-in_default g c = walk_ends g.S.Store (entries c.args.begin c.args.until) tt (rw c.in_default.is at c.entries.invariant)

pub returns-in_err-write_entry : goal.returns-in_err-write_entry
returns-in_err-write_entry g c =
    let of = entries c.args.begin c.args.until in
    table_told g.S.Store (text of) _ _ c.from_residual-in_err-write_entry.ensures.1
    (row_failed g.S.Store of c.in-Some.entry c.in_err-write_entry.field-0.0 (rw c.in-Some.is at c.entries.invariant)
    (entry_asks c.args.begin c.args.until c.in-Some.entry (g.W.Write.contents c.entries.out) (g.W.Write.contents c.write_entry.new.out)
    (Err c.in_err-write_entry.field-0.0) c.in_err-write_entry.ensures))

pub returns-in_err-next-2 : goal.returns-in_err-next-2
returns-in_err-next-2 g c =
    let of = entries c.args.begin c.args.until in
    table_told g.S.Store (text of) _ _ c.from_residual-in_err-next-2.ensures.1
    (next_failed g.S.Store of c.from.result c.in_err-next-2.field-0.0 (λ is. c.in_err-next-2.ensures.takes_none (ap Err is))
    (walk_writes g.S.Store of c.in-Some.entry (rw c.in-Some.is at c.entries.invariant)
    (entry_asks c.args.begin c.args.until c.in-Some.entry (g.W.Write.contents c.entries.out) (g.W.Write.contents c.write_entry.new.out)
    (Ok tt) c.in_ok-write_entry.ensures)) c.in_err-next-2.ensures.query)

pub entries-preserved : goal.entries-preserved
entries-preserved g c =
    let of = entries c.args.begin c.args.until in
    walk_goes g.S.Store of c.from.result c.in_ok-next-2.next
    (walk_writes g.S.Store of c.in-Some.entry (rw c.in-Some.is at c.entries.invariant)
    (entry_asks c.args.begin c.args.until c.in-Some.entry (g.W.Write.contents c.entries.out) (g.W.Write.contents c.write_entry.new.out)
    (Ok tt) c.in_ok-write_entry.ensures)) c.in_ok-next-2.ensures.query
    (λ s x same. c.from.ensures ∙ (c.get.ensures.value ∙ (c.number.ensures ∙ ap (λ e. e.number) same)))

pub returns : goal.returns
returns g c = walk_runs_out g.S.Store (entries c.args.begin c.args.until) few_entries c.entries.invariant (omega (arith, c.entries-test.false))
