use Rattle.std.proofs.Common.{rules, refl, subst, sym}
use Rattle.sqlite.specs.Held.{state}
use Rattle.bike_sql.specs.Layout.{table_of}
use Rattle.bike_sql.proofs.ChainLaws.{reads_failed, reads_refused}
use Rattle.bike_book.specs.Tables.{keys_of}
use Rattle.bike_schema.specs.Layouts.{layout_of}
use Rattle.bike_schema.proofs.KeyLemmas.{unique_key}
use Rattle.bike_recognition.specs.Names.{table_named}
use Rattle.bike_recognition.specs.Wanted.{HasWanted}
use Rattle.bike_recognition.proofs.StandLemmas.{plain_table, lacks_stand, passed, stands}
use Rattle.bike_recognition.proofs.stands.table_stands.Goals as goal

pub returns-then-not-branch : goal.returns-then-not-branch
returns-then-not-branch g c =
    let t = table_named c.args.table in
    lacks_stand (keys_of t) (layout_of t) (plain_table t) c.in_ok-check_open.ensures
    (λ there. let yes = c.in_ok-has_table.ensures.there.1 (subst (λ s. HasWanted s (table_of (layout_of t) 0)) (sym c.schema.ensures.value) there) in search rules)

pub returns-in_err-are_apart : goal.returns-in_err-are_apart
returns-in_err-are_apart g c =
    let t = table_named c.args.table in
    let there : HasWanted (state g.S.Store c.check_open.new.conn).now.schema (table_of (layout_of t) 0) = subst (λ s. HasWanted s (table_of (layout_of t) 0)) c.schema.ensures.value (c.in_ok-has_table.ensures.there.0 c.if-not-branch.false) in
    reads_failed (passed (keys_of t) (layout_of t) (plain_table t) (unique_key t).key c.rowids_query.result.now c.rowids_query.ensures c.in_ok-check_open.ensures there c.in_err-are_apart.ensures) (search rules)

pub returns-then-branch : goal.returns-then-branch
returns-then-branch g c =
    let t = table_named c.args.table in
    let there : HasWanted (state g.S.Store c.check_open.new.conn).now.schema (table_of (layout_of t) 0) = subst (λ s. HasWanted s (table_of (layout_of t) 0)) c.schema.ensures.value (c.in_ok-has_table.ensures.there.0 c.if-not-branch.false) in
    stands (keys_of t) (layout_of t) (plain_table t) (unique_key t).key c.rowids_query.result.now
    c.rowids_query.ensures c.in_ok-check_open.ensures there c.schema.ensures.live c.if-branch.true c.in_ok-are_apart.ensures

pub returns-else-branch : goal.returns-else-branch
returns-else-branch g c =
    let t = table_named c.args.table in
    let there : HasWanted (state g.S.Store c.check_open.new.conn).now.schema (table_of (layout_of t) 0) = subst (λ s. HasWanted s (table_of (layout_of t) 0)) c.schema.ensures.value (c.in_ok-has_table.ensures.there.0 c.if-not-branch.false) in
    reads_refused (passed (keys_of t) (layout_of t) (plain_table t) (unique_key t).key c.rowids_query.result.now c.rowids_query.ensures c.in_ok-check_open.ensures there c.in_ok-are_apart.ensures) refl
