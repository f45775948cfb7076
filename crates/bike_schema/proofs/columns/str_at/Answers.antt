use Rattle.std.proofs.Common.{Some, refl, ap, sym, ◌∙◌}
use Rattle.sqlite_value.specs.Value.{owned}
use Rattle.bike_schema.proofs.ColumnLemmas.{is_text, no_text}
use Rattle.bike_schema.proofs.columns.str_at.Goals as goal

pub returns-in-Ok-clause-ok : goal.returns-in-Ok-clause-ok
returns-in-Ok-clause-ok c =
    let there = ap owned (sym c.in-Ok-Text.field-0-is) ∙ c.in-Ok-Text.ensures.ok.1 in
    is_text _ c.in-Ok-Text.bytes.now there c.in-Ok.ensures.cases.1 ∙ sym (ap Some c.in-Ok.ensures.cases.0)

pub returns-in-Err-clause-failed : goal.returns-in-Err-clause-failed
returns-in-Err-clause-failed c =
    let there = ap owned (sym c.in-Ok-Text.field-0-is) ∙ c.in-Ok-Text.ensures.ok.1 in
    (refl, no_text _ c.in-Ok-Text.bytes.now there c.in-Err.ensures.cases.0)
