use Rattle.std.proofs.Common.{◌≡◌, true, false, Some, ap, sym, ◌∙◌}
use Rattle.std.specs.Prelude.{option_and_then}
use Rattle.bike_catalogue_rules.specs.Tests.{segment_name, is_next, first_astray}
use Rattle.bike_catalogue_rules.proofs.Judged.{next_segment, astray_segment}
use Rattle.bike_catalogue_rules.proofs.segments.SegmentJudgeJudge.take.Goals as goal

pub returns-then-not-is_next : goal.returns-then-not-is_next
returns-then-not-is_next c = λ left verdict is.
    let told = c.is_next.ensures in
    let fails = c.if-not-is_next.true in
    let astray : is_next (option_and_then segment_name c.args.self.now.before) (segment_name c.args.line.now) ≡ false = cc in
    astray_segment (option_and_then segment_name c.args.self.now.before) c.args.line.now left verdict is astray ∙ ap Some (sym c.in_ok-columns_key.ensures)

pub returns : goal.returns
returns c = λ left verdict is.
    let told = c.is_next.ensures in
    let holds = c.if-not-is_next.false in
    let next : is_next (option_and_then segment_name c.args.self.now.before) (segment_name c.args.line.now) ≡ true = cc in
    ap (λ z. first_astray (segment_name z) left) c.in_ok-copy.ensures ∙ next_segment (option_and_then segment_name c.args.self.now.before) c.args.line.now left verdict is next
