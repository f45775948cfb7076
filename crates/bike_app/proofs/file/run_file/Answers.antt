use Rattle.std.proofs.Common.{rules, refl, sym, subst, arith}
use Rattle.sqlite.specs.State.{HasCleanDisk}
use Rattle.sqlite.specs.Files.{file_state}
use Rattle.bike_schema.specs.Stands.{TreesStandFor}
use Rattle.bike_recognition.specs.EarlierVersions.Stores.{TreesStandForAt}
use Rattle.bike_app.proofs.file.run_file.Goals as goal

pub returns-in-Ok-clause-done : goal.returns-in-Ok-clause-done
returns-in-Ok-clause-done g c clean =
    let early : HasCleanDisk (file_state c.in-Ok.conn) = omega (arith, clean, c.run_words-conn.ensures.clean) in
    record { first = c.in-Ok.conn; opened = c.in-Ok.ensures.opened early; found = c.in-Ok.ensures.found early; own = c.in-Ok.ensures.own; does = c.run_words-conn.ensures.done clean }

pub returns-in-Ok-clause-kept : goal.returns-in-Ok-clause-kept
returns-in-Ok-clause-kept g c clean s holds =
    let early : HasCleanDisk (file_state c.in-Ok.conn) = omega (arith, clean, c.run_words-conn.ensures.clean) in
    let opened = c.in-Ok.ensures.opened early in
    let there = subst (TreesStandFor s) (sym ((c.in-Ok.ensures.found early).holds holds.0 holds.1)) holds.2 in
    c.run_words-conn.ensures.kept clean s (subst (λ db. TreesStandFor s db.trees) (sym (opened.0).clean) there) (opened.0).is_open

pub returns-in-Ok-clause-raised : goal.returns-in-Ok-clause-raised
returns-in-Ok-clause-raised g c is clean v s holds =
    let early : HasCleanDisk (file_state c.in-Ok.conn) = omega (arith, clean, c.run_words-conn.ensures.clean) in
    let opened = c.in-Ok.ensures.opened early in
    let there = subst (TreesStandForAt v s) (sym ((c.in-Ok.ensures.found early).holds holds.0 holds.1)) holds.2 in
    c.run_words-conn.ensures.raised is clean v s (subst (λ db. TreesStandForAt v s db.trees) (sym (opened.0).clean) there) (opened.0).is_open

pub returns-in-Err-clause-unopened : goal.returns-in-Err-clause-unopened
returns-in-Err-clause-unopened g c none = record { read = search rules; wrote = search rules; fault = c.in-Err.fault; told = refl; is = c.in-Err.ensures.fault; why = c.in-Err.ensures.why }
