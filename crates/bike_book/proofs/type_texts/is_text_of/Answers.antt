use Rattle.std.proofs.Common.{◌≡◌, ◌∷◌, rules, sym, ap, ◌∙◌}
use Rattle.std.specs.Str.{bytes_eq}
use Rattle.bike_book.specs.ByType.{counted_text, by_type_text}
use Rattle.bike_book.specs.TypeTexts.{others_text}
use Rattle.bike_book.proofs.TypeTexts.{others_joined, same_behind, none_behind}
use Rattle.bike_book.proofs.type_texts.is_text_of.Goals as goal

pub returns-in-Some-behind_type : goal.returns-in-Some-behind_type
returns-in-Some-behind_type c =
    let first = c.in-Some.first.now in
    let others = c.in-Some.others.now in
    let cut : c.args.by_type.now ≡ first ∷ others = search rules in
    c.are_others.ensures ∙ sym (same_behind (counted_text first) c.args.text.now c.in-Some-behind_type.rest.now (others_text others) c.in-Some-behind_type.ensures)
    ∙ ap (bytes_eq c.args.text.now) (sym (others_joined first others) ∙ ap by_type_text (sym cut))

pub returns-in-None-behind_type : goal.returns-in-None-behind_type
returns-in-None-behind_type c =
    let first = c.in-Some.first.now in
    let others = c.in-Some.others.now in
    let cut : c.args.by_type.now ≡ first ∷ others = search rules in
    sym (ap (bytes_eq c.args.text.now) (ap by_type_text cut ∙ others_joined first others) ∙ none_behind (counted_text first) c.args.text.now (others_text others) c.in-None-behind_type.ensures)
