use Rattle.std.proofs.Common.{rules, refl, subst}
use Rattle.sqlite.specs.Held.{state}
use Rattle.bike_sql.specs.Layout.{table_of}
use Rattle.bike_sql.proofs.ChainLaws.{reads_failed, reads_refused}
use Rattle.bike_recognition.specs.Wanted.{HasWanted}
use Rattle.bike_recognition.proofs.StandLemmas.{passed, stands}
use Rattle.bike_recognition.specs.EarlierVersions.Earlier.{old_keys, old_layout}
use Rattle.bike_recognition.proofs.EarlierVersions.StandsLemmas.{old_plain, old_key}
use Rattle.bike_recognition.proofs.earlier_versions.stands.old_stands.Goals as goal

pub returns-in_err-are_apart : goal.returns-in_err-are_apart
returns-in_err-are_apart g c =
    let t = c.args.table in
    let there : HasWanted (state g.S.Store c.check_open.new.conn).now.schema (table_of (old_layout t) 0) = subst (λ s. HasWanted s (table_of (old_layout t) 0)) c.schema.ensures.value (c.in_ok-has_old.ensures.there.0 c.if-not-branch.false) in
    reads_failed (passed (old_keys t) (old_layout t) (old_plain t) (old_key t) c.rowids_query.result.now c.rowids_query.ensures c.in_ok-check_open.ensures there c.in_err-are_apart.ensures)
    (search rules)

pub returns-then-branch : goal.returns-then-branch
returns-then-branch g c =
    let t = c.args.table in
    let there : HasWanted (state g.S.Store c.check_open.new.conn).now.schema (table_of (old_layout t) 0) = subst (λ s. HasWanted s (table_of (old_layout t) 0)) c.schema.ensures.value (c.in_ok-has_old.ensures.there.0 c.if-not-branch.false) in
    stands (old_keys t) (old_layout t) (old_plain t)
    (old_key t) c.rowids_query.result.now c.rowids_query.ensures c.in_ok-check_open.ensures there c.schema.ensures.live c.if-branch.true c.in_ok-are_apart.ensures

pub returns-else-branch : goal.returns-else-branch
returns-else-branch g c =
    let t = c.args.table in
    let there : HasWanted (state g.S.Store c.check_open.new.conn).now.schema (table_of (old_layout t) 0) = subst (λ s. HasWanted s (table_of (old_layout t) 0)) c.schema.ensures.value (c.in_ok-has_old.ensures.there.0 c.if-not-branch.false) in
    reads_refused
    (passed (old_keys t) (old_layout t) (old_plain t) (old_key t) c.rowids_query.result.now c.rowids_query.ensures c.in_ok-check_open.ensures there c.in_ok-are_apart.ensures) refl
