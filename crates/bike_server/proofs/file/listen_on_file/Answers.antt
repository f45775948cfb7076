use Rattle.std.proofs.Common.{sym, subst, arith}
use Rattle.sqlite.specs.State.{HasCleanDisk}
use Rattle.sqlite.specs.Files.{file_state}
use Rattle.bike_schema.specs.Stands.{TreesStandFor}
use Rattle.bike_server.proofs.file.listen_on_file.Goals as goal

pub returns-in-Ok-clause-ends : goal.returns-in-Ok-clause-ends
returns-in-Ok-clause-ends g c =
    record { first = c.in-Ok.conn; opened = c.in-Ok.ensures.opened; found = c.in-Ok.ensures.found; own = c.in-Ok.ensures.own; ends = c.listen-conn.ensures.ends }

pub returns-in-Ok-clause-kept : goal.returns-in-Ok-clause-kept
returns-in-Ok-clause-kept g c clean s holds =
    let early : HasCleanDisk (file_state c.in-Ok.conn) = omega (arith, clean, c.listen-conn.ensures.clean) in
    let opened = c.in-Ok.ensures.opened early in
    let there = subst (TreesStandFor s) (sym ((c.in-Ok.ensures.found early).holds holds.0 holds.1)) holds.2 in
    c.listen-conn.ensures.kept clean s (subst (λ db. TreesStandFor s db.trees) (sym (opened.0).clean) there) (opened.0).is_open
