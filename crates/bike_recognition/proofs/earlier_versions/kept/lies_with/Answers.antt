use Rattle.std.proofs.Common.{rules, refl, subst, sym, codes}
use Rattle.sqlite.specs.Held.{state}
use Rattle.bike_sql.specs.Layout.{table_of}
use Rattle.bike_sql.proofs.ChainLaws.{reads_failed, reads_refused}
use Rattle.bike_recognition.specs.Wanted.{HasWanted}
use Rattle.bike_recognition.proofs.StandLemmas.{lacks, passed_over, lies}
use Rattle.bike_recognition.specs.EarlierVersions.Kept.{kept_layout}
use Rattle.bike_recognition.proofs.EarlierVersions.KeptTexts.{kept_rowids}
use Rattle.bike_recognition.proofs.EarlierVersions.KeptLemmas.{kept_plain}
use Rattle.bike_recognition.proofs.earlier_versions.kept.lies_with.Goals as goal

pub returns-then-not-branch : goal.returns-then-not-branch
returns-then-not-branch g c =
    let layout = kept_layout c.args.keyed in
    lacks layout (kept_plain c.args.keyed) c.in_ok-check_open.ensures
    (λ there. let yes = c.in_ok-has_kept.ensures.there.1 (subst (λ s. HasWanted s (table_of layout 0)) (sym c.schema.ensures.value) there) in search rules)

pub returns-in_err-are_apart : goal.returns-in_err-are_apart
returns-in_err-are_apart g c =
    let layout = kept_layout c.args.keyed in
    let there : HasWanted (state g.S.Store c.check_open.new.conn).now.schema (table_of layout 0) = subst (λ s. HasWanted s (table_of layout 0)) c.schema.ensures.value (c.in_ok-has_kept.ensures.there.0 c.if-not-branch.false) in
    reads_failed (passed_over layout (kept_plain c.args.keyed) (codes "SELECT rowid FROM kept ORDER BY rowid") (kept_rowids c.args.keyed) c.in_ok-check_open.ensures there c.in_err-are_apart.ensures) (search rules)

pub returns-then-branch : goal.returns-then-branch
returns-then-branch g c =
    let layout = kept_layout c.args.keyed in
    let there : HasWanted (state g.S.Store c.check_open.new.conn).now.schema (table_of layout 0) = subst (λ s. HasWanted s (table_of layout 0)) c.schema.ensures.value (c.in_ok-has_kept.ensures.there.0 c.if-not-branch.false) in
    lies layout (kept_plain c.args.keyed) (codes "SELECT rowid FROM kept ORDER BY rowid") (kept_rowids c.args.keyed) c.in_ok-check_open.ensures there c.if-branch.true c.in_ok-are_apart.ensures

pub returns-else-branch : goal.returns-else-branch
returns-else-branch g c =
    let layout = kept_layout c.args.keyed in
    let there : HasWanted (state g.S.Store c.check_open.new.conn).now.schema (table_of layout 0) = subst (λ s. HasWanted s (table_of layout 0)) c.schema.ensures.value (c.in_ok-has_kept.ensures.there.0 c.if-not-branch.false) in
    reads_refused (passed_over layout (kept_plain c.args.keyed) (codes "SELECT rowid FROM kept ORDER BY rowid") (kept_rowids c.args.keyed) c.in_ok-check_open.ensures there c.in_ok-are_apart.ensures) refl
