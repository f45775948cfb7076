use Rattle.std.proofs.Common.{arith, rules}
use Rattle.bike_texts.proofs.Escaping.{char_stays}
use Rattle.bike_texts.proofs.put_texts.push_escaped.Goals as goal

pub returns-in_default : goal.returns-in_default
returns-in_default c = rw (char_stays c.args.c (omega arith) (omega arith) (omega arith) (omega arith)) (search rules)
