use Rattle.std.proofs.Common.{Some, ap, sym, ◌∙◌}
use Rattle.sqlite_value.specs.Value.{owned}
use Rattle.bike_readings.proofs.ReadLemmas.{text_there, text_missing}
use Rattle.bike_station_rules.proofs.lines.text_in.Goals as goal

pub returns-in-Ok : goal.returns-in-Ok
returns-in-Ok c =
    let there = ap owned (sym c.in-Ok-Text.field-0-is) ∙ c.in-Ok-Text.ensures.ok.1 in ap Some c.in-Ok.ensures.cases.0 ∙ sym (text_there _ c.in-Ok-Text.bytes.now there c.in-Ok.ensures.cases.1)

pub returns-in-Err : goal.returns-in-Err
returns-in-Err c = let there = ap owned (sym c.in-Ok-Text.field-0-is) ∙ c.in-Ok-Text.ensures.ok.1 in sym (text_missing _ c.in-Ok-Text.bytes.now there c.in-Err.ensures.cases.0)
