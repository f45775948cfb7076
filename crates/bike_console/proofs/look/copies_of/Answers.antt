use Rattle.std.proofs.Common.{rules, ◌≡◌, ◌≤◌, Err, arith}
use Rattle.std.proofs.lemmas.Bool.{and_parts}
use Rattle.sqlite_disk.specs.Disk.{MoreFaults}
use Rattle.bike_read_only.specs.declared.copy.CopyFault.TheVariants.{Unread}
use Rattle.bike_console.proofs.look.copies_of.Goals as goal

pub returns-in_err-db-clause-failed : goal.returns-in_err-db-clause-failed
returns-in_err-db-clause-failed g c unread clean =
    let log = c.copy_of.ensures.counts in
    let same : c.copy_of-2.result ≡ Err Unread = search rules in
    let before : g.D.Disk.faults c.args.files.now.db ≤ g.D.Disk.faults c.len.new.self = search rules in
    let more : MoreFaults (g.D.Disk.faults c.len.new.self) (g.D.Disk.faults c.copy_of-2.new.file) = c.copy_of-2.ensures.failed same (and_parts _ _ clean).1 in
    omega (arith, log, before, more)
