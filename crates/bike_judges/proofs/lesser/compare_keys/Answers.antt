use Rattle.std.proofs.Common.{arith, ◌∙◌}
use Rattle.bike_judges.specs.Judging.{key_row}
use Rattle.bike_judges.proofs.RowSteps.{row_past}
use Rattle.bike_judges.proofs.lesser.compare_keys.Goals as goal

pub returns : goal.returns
returns c = c.cmp.ensures ∙ (let e = row_past (key_row c.args.a.now) (key_row c.args.b.now) c.loop-at.at (omega arith) in grind arith)
