use Rattle.std.proofs.Common.{ap, refl, subst}
use Rattle.std.specs.Option.{is_some}
use Rattle.sqlite.specs.Files.{file_state, image_of}
use Rattle.sqlite.specs.Start.{FindsIn}
use Rattle.bike_console.proofs.OpenLemmas.{bytes_now, found_lost, unread, unopened}
use Rattle.bike_console.proofs.file.open_over.Goals as goal

pub returns-in-Ok-clause-found : goal.returns-in-Ok-clause-found
returns-in-Ok-clause-found g c clean =
    let read = c.in-Ok-Some.ensures in
    let found = c.in-Ok.ensures.found clean in
    subst (λ i. FindsIn i (file_state c.in-Ok.conn)) (bytes_now (image_of g.D.Disk c.args.files) c.args.files c.find_options.new.files refl read.log read.db)
    (record { holds = found.holds; reads = found.reads })

pub returns-in-Ok-None-clause-why : goal.returns-in-Ok-None-clause-why
returns-in-Ok-None-clause-why g c =
    let read = c.in-Ok-None.ensures in
    found_lost (image_of g.D.Disk c.args.files) c.args.files c.find_options.new.files refl read.log read.db (λ clean. (read.lost clean).0 (ap is_some c.in-Ok-None.field-0-is))

pub returns-in-Err-clause-why : goal.returns-in-Err-clause-why
returns-in-Err-clause-why g c =
    let read = c.in-Err.ensures in
    unread (image_of g.D.Disk c.args.files) c.args.files c.find_options.new.files refl read.log read.db c.in-Err.fault read.failed.0 read.failed.1

pub returns-in-Err-open_files_with-clause-why : goal.returns-in-Err-open_files_with-clause-why
returns-in-Err-open_files_with-clause-why g c =
    let read = c.in-Ok-Some.ensures in
    let failed = c.in-Err-open_files_with.ensures in
    unopened (image_of g.D.Disk c.args.files) c.args.files c.find_options.new.files refl read.log read.db _ c.in-Err-open_files_with.error c.in-Err-open_files_with.left c.from.ensures failed.cause failed.unharmed
