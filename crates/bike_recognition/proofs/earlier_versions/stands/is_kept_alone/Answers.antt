use Rattle.std.proofs.Common.{◌≡◌, sym, ap, ◌∙◌}
use Rattle.std.specs.List.{list_all}
use Rattle.sqlite.specs.Held.{state}
use Rattle.bike_sql.proofs.ChainLaws.{reads_as}
use Rattle.bike_schema.specs.Tables.{is_unused}
use Rattle.bike_recognition.proofs.LookLemmas.{reads_more}
use Rattle.bike_recognition.specs.EarlierVersions.Earlier.{newer_names}
use Rattle.bike_recognition.proofs.EarlierVersions.StandsLemmas.{both_told, never_told}
use Rattle.bike_recognition.proofs.earlier_versions.stands.is_kept_alone.Goals as goal

pub returns-then-branch : goal.returns-then-branch
returns-then-branch g c =
    let free : c.are_newer_free.result ≡ list_all (is_unused (state g.S.Store c.kept_lies.new.conn).now.schema) (newer_names c.args.earlier) = c.are_newer_free.ensures ∙ ap (λ s. list_all (is_unused s) (newer_names c.args.earlier)) c.schema.ensures.value in
    reads_more c.in_ok-kept_lies.ensures (λ clean opened is. both_told _ c.are_newer_free.result c.if-branch.true is
    ((λ f. sym free ∙ f), λ f. free ∙ f))

pub returns-else-branch : goal.returns-else-branch
returns-else-branch g c = reads_as c.in_ok-kept_lies.ensures (λ db is. never_told _ c.if-branch.false is)
