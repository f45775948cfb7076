use Rattle.std.proofs.Common.{lit<, ◌∙◌, Some, None}
use Rattle.std.proofs.lemmas.Str.Pattern.{strip_prefix_char}
use Rattle.bike_fixed.proofs.Coordinates.{micro_plain, micro_minus}
use Rattle.bike_fixed.proofs.micro.Micro.read.Goals as goal

pub returns-in-Some : goal.returns-in-Some
returns-in-Some c = c.within.ensures ∙ micro_minus c.args.text.now c.in-Some.rest.now (strip_prefix_char 45 c.args.text.now (Some c.in-Some.rest) c.in-Some.ensures.cases (lit< tt))

pub returns-in-None : goal.returns-in-None
returns-in-None c = c.within-in-None.ensures ∙ micro_plain c.args.text.now (strip_prefix_char 45 c.args.text.now None c.in-None.ensures.cases (lit< tt))
