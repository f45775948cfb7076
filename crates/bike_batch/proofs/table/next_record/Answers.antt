use Rattle.std.proofs.Common.{◌≡◌, sym, ◌∙◌, refl, true}
use Rattle.csv.specs.Records.{fields_of}
use Rattle.bike_batch.proofs.Reading.{takes, meets_no_text}
use Rattle.bike_batch.proofs.table.next_record.Goals as goal

pub returns-in-Ok-clause-takes : goal.returns-in-Ok-clause-takes
returns-in-Ok-clause-takes g c is =
    let found : c.in-Ok.found ≡ true = cc in
    takes g.R.Read.remaining c.args.table.now c.read_record.new.self (fields_of c.read_record.new.row) c.requires.config
    (rw found at (c.in-Ok.ensures.reads c.requires.trim c.requires.ready))

pub returns-in-Utf8-clause-fault : goal.returns-in-Utf8-clause-fault
returns-in-Utf8-clause-fault g c =
    let why = rw (sym c.kind.ensures ∙ c.in-Utf8.is) at (c.in-Err.ensures.why c.requires.trim c.requires.ready) in
    (refl, meets_no_text g.R.Read.remaining c.args.table.now c.read_record.new.self why.1 c.requires.config why.2 why.3)
