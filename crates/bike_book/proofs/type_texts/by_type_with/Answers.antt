use Rattle.std.proofs.Common.{◌≡◌, ℕ, List, sym, ap, ◌∙◌, drop, map, string_bytes, take}
use Rattle.std.specs.Prelude.{fold}
use Rattle.std.proofs.lemmas.List.{take_rest}
use Rattle.bike_book.specs.ByType.{by_type_text, counted_text}
use Rattle.bike_book.specs.TypeTexts.{parted, or_none}
use Rattle.bike_book.proofs.TypeTexts.{written_without, written_between}
use Rattle.bike_book.proofs.type_texts.by_type_with.Goals as goal
use Rattle.bike_book.proofs.type_texts.by_type_with.Goals.{then-not-are_none+in_ok-push_type, else-not-are_none}

pub returns : goal.returns
returns c =
    let t = c.args.type_id.now in
    let n = c.args.counts in
    let front = take c.place_of-place.result.from c.args.by_type.now in
    let back = drop c.place_of-place.result.to c.args.by_type.now in
    let before = c.in_ok-push_types.ensures ∙ ap (λ (text : List ℕ). fold parted text (map counted_text front)) c.new-out.ensures.bytes in
    let behind : string_bytes c.push_types-2.new.out ≡ fold parted (string_bytes c.if-not-are_none.out) (map counted_text back) = rw take_rest at c.in_ok-push_types-2.ensures in
    let ends = c.in_ok-push_none.ensures ∙ ap or_none behind in
    let sets = ap by_type_text (sym (c.place_of-place.ensures.sets n)) in
    elim c.if-not-are_none.branch [
      | then-not-are_none+in_ok-push_type w ↦
          let text = ap string_bytes w.out-is ∙ w.in_ok-push_type.ensures ∙ ap (λ (text : List ℕ). parted text (counted_text (record { type_id = t; counts = n }))) before in
          ends ∙ ap (λ (text : List ℕ). or_none (fold parted text (map counted_text back))) text ∙ written_between t n front back (sym c.are_none.ensures ∙ w.if-not-are_none.true) ∙ sets
      | else-not-are_none w ↦
          ends ∙ ap (λ (text : List ℕ). or_none (fold parted text (map counted_text back))) (ap string_bytes w.out-is ∙ before)
          ∙ written_without t n front back (sym c.are_none.ensures ∙ w.if-not-are_none.false) ∙ sets
    ]
