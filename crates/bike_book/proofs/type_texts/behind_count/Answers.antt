use Rattle.std.proofs.Common.{lit<, ◌∷◌, [], Some, None, decimal}
use Rattle.std.proofs.lemmas.Str.Pattern.{strip_prefix_char}
use Rattle.bike_book.proofs.TypeTexts.{behind_next, behind_none, stripped}
use Rattle.bike_book.proofs.type_texts.behind_count.Goals as goal

pub returns-in_err-rest : goal.returns-in_err-rest
returns-in_err-rest c =
    rw c.from_residual.ensures (behind_none (58 ∷ []) (decimal c.args.count) c.args.text.now (strip_prefix_char 58 c.args.text.now None c.in_err-rest.ensures.cases (lit< tt)))

pub returns : goal.returns
returns c =
    behind_next (58 ∷ []) (decimal c.args.count) c.args.text.now c.in_ok-rest.rest _ (strip_prefix_char 58 c.args.text.now (Some c.in_ok-rest.rest) c.in_ok-rest.ensures.cases (lit< tt))
    (rw c.format.ensures.text at (stripped c.format.result.now c.in_ok-rest.rest.now c.strip_prefix-2.result c.strip_prefix-2.ensures.cases))
