use Rattle.std.proofs.Common.{rules, ◌≡◌, ◌≤◌, length, subst, sym, arith}
use Rattle.sqlite_disk.specs.Disk.{Holds}
use Rattle.sqlite_wal.specs.Recovery.{header}
use Rattle.bike_console.specs.Files.{IsBroken}
use Rattle.bike_console.specs.declared.log.TheConstants.{LEAST_LOG}
use Rattle.bike_console.proofs.OpenLemmas.{is_header}
use Rattle.bike_console.proofs.log.is_damaged.Goals as goal

pub returns-in-Ok-read_at-clause-damaged : goal.returns-in-Ok-read_at-clause-damaged
returns-in-Ok-read_at-clause-damaged g c clean =
    let log = g.D.Disk.seen c.args.log.now in
    let head = c.read_at.new.buf in
    let holds = subst (λ l. Holds l 0 head) c.len.ensures.seen (c.in-Ok-read_at.ensures.read clean (omega (arith))) in
    let length_is = c.in-Ok.ensures.len (c.read_at.ensures.clean clean) in
    let long : LEAST_LOG ≤ length log = search rules in
    let read : head ≡ header log = is_header log head (search rules) holds in
    let broken = c.is_broken.ensures in (
      λ told. (long, subst IsBroken read (broken.0 told)),
      λ damaged. broken.1 (subst IsBroken (sym read) damaged.1),
    )
