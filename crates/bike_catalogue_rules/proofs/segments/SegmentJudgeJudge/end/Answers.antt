use Rattle.std.proofs.Common.{sym, ◌∙◌}
use Rattle.std.specs.Prelude.{option_and_then}
use Rattle.bike_catalogue_rules.specs.Tests.{segment_name}
use Rattle.bike_catalogue_rules.proofs.Judged.{no_segment}
use Rattle.bike_catalogue_rules.proofs.segments.SegmentJudgeJudge.end.Goals as goal

pub returns : goal.returns
returns c = λ verdict is. sym (no_segment (option_and_then segment_name c.args.self.before)) ∙ is
