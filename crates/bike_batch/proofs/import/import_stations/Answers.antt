use Rattle.std.proofs.Common.{Ok, Err, ap, refl, sym, subst, ◌∙◌, arith}
use Rattle.sqlite.specs.State.{HasCleanDisk}
use Rattle.csv.specs.Records.{fields_of}
use Rattle.bike_operator.specs.Runs.{after}
use Rattle.bike_desk.specs.Desk.{desk_state}
use Rattle.bike_batch.specs.declared.import_fault.ImportFault.TheVariants.{TooManyRows}
use Rattle.bike_batch.specs.Imports.{Imports}
use Rattle.bike_batch.proofs.ImportServingLemmas.{err_is, told_other}
use Rattle.bike_batch.proofs.Importing.{importing_begins, lacks_header, importing_ends, importing_most, importing_unread, importing_more, importing_none, importing_rests, importing_refused, left_of}
use Rattle.bike_batch.proofs.import.import_stations.Goals as goal

pub returns-in_err-take_header-clause-imports : goal.returns-in_err-take_header-clause-imports
returns-in_err-take_header-clause-imports g c clean s at =
    let input = g.R.Read.remaining c.args.reader.now in
    subst (Imports g.S.Store c.args.desk.now s c.args.moment c.args.name.now input) (sym (err_is _ _ c.from_residual.ensures.1)) (
    lacks_header g.S.Store
    (λ input. g.R.Read.remaining input.reader.now) s c.args.moment c.args.name.now input c.args.desk.now c.open_table-table.result c.take_header.new.table c.open_table-table.ensures.start at c.in_err-take_header.field-0.0
    c.in_err-take_header.ensures.fault
    )

pub returns-in_err-take_header-clause-left : goal.returns-in_err-take_header-clause-left
returns-in_err-take_header-clause-left g c clean s at = left_of g.S.Store c.args.desk.now s _ _ _ _ (returns-in_err-take_header-clause-imports g c clean s at)

pub rows-init : goal.rows-init
rows-init g c =
    let input = g.R.Read.remaining c.args.reader.now in
    record {
      clean = omega arith;
      goes_on = sym c.stopped.ensures ∙ c.if-stopped.false;
      plain = c.in_ok-take_header.ensures.plain;
      so_far = λ clean s at.
          importing_begins g.S.Store
          (λ input. g.R.Read.remaining input.reader.now) s c.args.moment c.args.name.now input c.args.desk.now c.open_table-table.result c.take_header.new.table c.open_table-table.ensures.start
          c.in_ok-take_header.ensures.takes at;
      rests = λ clean s at none. record { at = at; same = refl };
    }

pub returns-in_err-next_record-clause-imports : goal.returns-in_err-next_record-clause-imports
returns-in_err-next_record-clause-imports g c clean s at =
    let input = g.R.Read.remaining c.args.reader.now in
    subst (Imports g.S.Store c.rows.desk s c.args.moment c.args.name.now input) (sym (err_is _ _ c.from_residual-in_err-next_record.ensures.1)) (
    importing_unread g.S.Store (λ input. g.R.Read.remaining input.reader.now) s c.args.moment c.args.name.now input c.rows.desk c.rows.table c.next_record.new.table c.rows.count
    (c.rows.invariant.so_far clean s at)
    c.in_err-next_record.field-0.0 c.in_err-next_record.ensures.fault
    )

pub returns-in_err-next_record-clause-left : goal.returns-in_err-next_record-clause-left
returns-in_err-next_record-clause-left g c clean s at = left_of g.S.Store c.rows.desk s _ _ _ _ (returns-in_err-next_record-clause-imports g c clean s at)

pub returns-in_err-next_record-clause-rests : goal.returns-in_err-next_record-clause-rests
returns-in_err-next_record-clause-rests g c clean s at none other = (c.rows.invariant.rests clean s at none).same

pub returns-then-not-branch-clause-imports : goal.returns-then-not-branch-clause-imports
returns-then-not-branch-clause-imports g c clean s at =
    let input = g.R.Read.remaining c.args.reader.now in
    importing_ends g.S.Store (λ input. g.R.Read.remaining input.reader.now) s c.args.moment c.args.name.now input c.rows.desk c.rows.table c.next_record.new.table c.rows.count
    (c.rows.invariant.so_far clean s at)
    (c.in_ok-next_record.ensures.none (ap Ok c.if-not-branch.true))

pub returns-then-not-branch-clause-left : goal.returns-then-not-branch-clause-left
returns-then-not-branch-clause-left g c clean s at = left_of g.S.Store c.rows.desk s _ _ _ (Ok c.rows.count) (returns-then-not-branch-clause-imports g c clean s at)

pub returns-then-not-branch-clause-rests : goal.returns-then-not-branch-clause-rests
returns-then-not-branch-clause-rests g c clean s at none other = (c.rows.invariant.rests clean s at none).same

pub returns-in_err-import_row-clause-imports : goal.returns-in_err-import_row-clause-imports
returns-in_err-import_row-clause-imports g c clean s at =
    let it = c.in_err-import_row.ensures in
    let early : HasCleanDisk (desk_state g.S.Store c.rows.desk) = omega (arith, clean, it.clean) in
    let so_far = c.rows.invariant.so_far early s at in
    let input = g.R.Read.remaining c.args.reader.now in
    subst (Imports g.S.Store c.import_row.new.desk s c.args.moment c.args.name.now input) (sym (err_is _ _ c.from_residual-in_err-import_row.ensures.1)) (
    importing_refused g.S.Store (λ input. g.R.Read.remaining input.reader.now) s c.args.moment c.args.name.now input c.rows.desk c.rows.table c.next_record.new.table c.rows.count so_far
    c.import_row.new.desk (fields_of c.next_record.new.row) (c.in_ok-next_record.ensures.takes (ap Ok c.if-not-branch.false)) c.in_ok-next_record.ensures.text c.in_err-import_row.field-0.0
    (it.served clean (after s so_far.calls) so_far.at)
    )

pub returns-in_err-import_row-clause-left : goal.returns-in_err-import_row-clause-left
returns-in_err-import_row-clause-left g c clean s at = left_of g.S.Store c.import_row.new.desk s _ _ _ _ (returns-in_err-import_row-clause-imports g c clean s at)

pub returns-in_err-import_row-clause-rests : goal.returns-in_err-import_row-clause-rests
returns-in_err-import_row-clause-rests g c clean s at none other =
    let it = c.in_err-import_row.ensures in
    let early : HasCleanDisk (desk_state g.S.Store c.rows.desk) = omega (arith, clean, it.clean) in
    let so_far = c.rows.invariant.so_far early s at in
    let was = c.rows.invariant.rests early s at none in
    let input = g.R.Read.remaining c.args.reader.now in
    let idle = importing_none g.S.Store (λ input. g.R.Read.remaining input.reader.now) s c.args.moment c.args.name.now input c.rows.desk c.rows.table c.next_record.new.table c.rows.count so_far c.import_row.new.desk (fields_of c.next_record.new.row) (c.in_ok-next_record.ensures.takes (ap Ok c.if-not-branch.false)) none in
    it.rests clean s was.at idle
    (told_other _ c.in_err-import_row.field-0.0 (Err c.in_err-import_row.field-0.0) (err_is _ _ c.from_residual-in_err-import_row.ensures.1) refl other) ∙ was.same

pub rows-preserved : goal.rows-preserved
rows-preserved g c =
    let it = c.in_ok-import_row.ensures in
    let before = c.rows.invariant in
    let input = g.R.Read.remaining c.args.reader.now in
    record {
      clean = omega (arith, before.clean, it.clean);
      goes_on = it.goes_on before.goes_on;
      plain = c.in_ok-next_record.ensures.plain;
      so_far = λ clean s at.
          let so_far = before.so_far (omega (arith, clean, it.clean)) s at in
          importing_more g.S.Store (λ input. g.R.Read.remaining input.reader.now) s c.args.moment c.args.name.now input c.rows.desk c.rows.table c.next_record.new.table c.rows.count so_far
          c.import_row.new.desk (fields_of c.next_record.new.row) (c.in_ok-next_record.ensures.takes (ap Ok c.if-not-branch.false)) c.in_ok-import_row.field-0
          (it.served clean (after s so_far.calls) so_far.at);
      rests = λ clean s at none.
          let early : HasCleanDisk (desk_state g.S.Store c.rows.desk) = omega (arith, clean, it.clean) in
          let so_far = before.so_far early s at in
          let was = before.rests early s at none in
          let takes = c.in_ok-next_record.ensures.takes (ap Ok c.if-not-branch.false) in
          let idle = importing_none g.S.Store (λ input. g.R.Read.remaining input.reader.now) s c.args.moment c.args.name.now input c.rows.desk c.rows.table c.next_record.new.table c.rows.count so_far c.import_row.new.desk (fields_of c.next_record.new.row) takes none in
          importing_rests g.S.Store (λ input. g.R.Read.remaining input.reader.now) s c.args.moment c.args.name.now input c.rows.desk c.rows.table c.next_record.new.table c.rows.count so_far
          c.import_row.new.desk (fields_of c.next_record.new.row) takes c.args.desk.now c.in_ok-import_row.field-0 was idle (it.served clean s was.at)
          (it.rests clean s was.at idle (λ e. cc));
    }

pub returns-clause-imports : goal.returns-clause-imports
returns-clause-imports g c clean s at =
    let input = g.R.Read.remaining c.args.reader.now in
    importing_most g.S.Store (λ input. g.R.Read.remaining input.reader.now) s c.args.moment c.args.name.now input c.rows.desk c.rows.table c.rows.table c.rows.count
    (c.rows.invariant.so_far clean s at)
    (omega (arith, c.rows.auto.count-end, c.rows-test.false))

pub returns-clause-left : goal.returns-clause-left
returns-clause-left g c clean s at = left_of g.S.Store c.rows.desk s _ _ _ (Err TooManyRows) (returns-clause-imports g c clean s at)

pub returns-clause-rests : goal.returns-clause-rests
returns-clause-rests g c clean s at none other = (c.rows.invariant.rests clean s at none).same
