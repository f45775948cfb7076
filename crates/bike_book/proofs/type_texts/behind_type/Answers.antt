use Rattle.std.proofs.Common.{◌∷◌, ◌++◌, Some, decimal}
use Rattle.bike_book.proofs.TypeTexts.{behind_next, stripped}
use Rattle.bike_book.proofs.type_texts.behind_type.Goals as goal

pub returns : goal.returns
returns c =
    let counts = c.args.counted.now.counts in
    behind_next c.args.counted.now.type_id (58 ∷ (decimal counts.available ++ 58 ∷ decimal counts.disabled)) c.args.text.now c.in_ok-rest.rest c.behind_count-2.result
    (stripped c.args.counted.now.type_id c.args.text.now (Some c.in_ok-rest.rest) (rw c.as_str.ensures.text at c.in_ok-rest.ensures.cases))
    (behind_next (58 ∷ decimal counts.available) (58 ∷ decimal counts.disabled) c.in_ok-rest.rest.now c.in_ok-rest-2.rest c.behind_count-2.result c.in_ok-rest-2.ensures c.behind_count-2.ensures)
