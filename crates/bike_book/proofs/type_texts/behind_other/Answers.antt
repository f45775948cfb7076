use Rattle.std.proofs.Common.{lit<, ◌∷◌, [], Some, None}
use Rattle.std.proofs.lemmas.Str.Pattern.{strip_prefix_char}
use Rattle.bike_book.specs.ByType.{counted_text}
use Rattle.bike_book.proofs.TypeTexts.{behind_next, behind_none}
use Rattle.bike_book.proofs.type_texts.behind_other.Goals as goal

pub returns-in_err-rest : goal.returns-in_err-rest
returns-in_err-rest c =
    rw c.from_residual.ensures (behind_none (59 ∷ []) (counted_text c.args.counted.now) c.args.text.now (strip_prefix_char 59 c.args.text.now None c.in_err-rest.ensures.cases (lit< tt)))

pub returns : goal.returns
returns c =
    behind_next (59 ∷ []) (counted_text c.args.counted.now) c.args.text.now c.in_ok-rest.rest c.behind_type.result
    (strip_prefix_char 59 c.args.text.now (Some c.in_ok-rest.rest) c.in_ok-rest.ensures.cases (lit< tt)) c.behind_type.ensures
