use Rattle.std.proofs.Common.{ap, sym, ◌∙◌, Ok, length, refl}
use Rattle.csv.specs.Records.{fields_of}
use Rattle.bike_batch.proofs.Reading.{other_header, no_text_header}
use Rattle.bike_batch.proofs.table.take_header.Goals as goal

pub returns-in_default-clause-fault : goal.returns-in_default-clause-fault
returns-in_default-clause-fault g c =
    other_header g.R.Read.remaining c.args.table.now c.next_record.new.table (fields_of c.next_record.new.row) (c.in-Ok-true.ensures.takes (ap Ok c.in-Ok-true.field-0-test))
    (λ is. c.are_header.ensures.no c.if-are_header.false (sym c.in-Some.ensures.five ∙ is))

pub returns-in_default-2-clause-fault : goal.returns-in_default-2-clause-fault
returns-in_default-2-clause-fault g c =
    other_header g.R.Read.remaining c.args.table.now c.next_record.new.table (fields_of c.next_record.new.row) (c.in-Ok-true.ensures.takes (ap Ok c.in-Ok-true.field-0-test))
    (λ is. c.columns_of.ensures.other (rw c.in_default.is refl) (ap length is))

pub returns-in-Err-Unreadable-clause-fault : goal.returns-in-Err-Unreadable-clause-fault
returns-in-Err-Unreadable-clause-fault g c = no_text_header g.R.Read.remaining c.args.table.now (rw c.in-Err-Unreadable.field-0-is at c.in-Err-Unreadable.ensures.fault).1
