use Rattle.std.proofs.Common.{rules, ◌≡◌, ◌∷◌, ◌+◌, sym, ap, ◌∙◌, drop}
use Rattle.std.specs.Str.{bytes_eq}
use Rattle.std.proofs.lemmas.List.{drop_more}
use Rattle.bike_book.specs.ByType.{counted_text}
use Rattle.bike_book.specs.TypeTexts.{others_text}
use Rattle.bike_book.proofs.TypeTexts.{same_behind, none_behind}
use Rattle.bike_book.proofs.type_texts.are_others.Goals as goal

pub returns-in-None : goal.returns-in-None
returns-in-None c =
    let item = c.counted-item.result in
    let i = c.loop-counted.counted-index in
    let cut : drop i c.args.others.now ≡ item ∷ drop (i + 1) c.args.others.now =
    drop_more c.args.others.now i item c.loop-counted-test.true ∙ ap (λ x. x ∷ drop (i + 1) c.args.others.now) (sym c.counted-item.is) in
    sym (c.loop-counted.invariant.1 ∙ ap (λ cs. bytes_eq c.loop-counted.rest.now (others_text cs)) cut
    ∙ none_behind (59 ∷ counted_text item) c.loop-counted.rest.now (others_text (drop (i + 1) c.args.others.now)) c.in-None.ensures)

pub loop-counted-preserved : goal.loop-counted-preserved
loop-counted-preserved c =
    let item = c.counted-item.result in
    let i = c.loop-counted.counted-index in
    let cut : drop i c.args.others.now ≡ item ∷ drop (i + 1) c.args.others.now =
    drop_more c.args.others.now i item c.loop-counted-test.true ∙ ap (λ x. x ∷ drop (i + 1) c.args.others.now) (sym c.counted-item.is) in (
      search rules,
      c.loop-counted.invariant.1 ∙ ap (λ cs. bytes_eq c.loop-counted.rest.now (others_text cs)) cut
          ∙ same_behind (59 ∷ counted_text item) c.loop-counted.rest.now c.in-Some.behind.now (others_text (drop (i + 1) c.args.others.now)) c.in-Some.ensures,
    )
