use Rattle.std.proofs.Common.{◌∙◌, ap, map}
use Rattle.std.specs.Prelude.{fold}
use Rattle.bike_book.specs.ByType.{counted_text}
use Rattle.bike_book.specs.TypeTexts.{parted}
use Rattle.bike_book.proofs.TypeTexts.{all_written}
use Rattle.bike_book.proofs.type_texts.by_type_text.Goals as goal

pub returns : goal.returns
returns c =
    all_written c.args.by_type.now _ _ (c.in_ok-push_types.ensures ∙ ap (λ text. fold parted text (map counted_text c.args.by_type.now)) c.new-out.ensures.bytes) c.in_ok-push_none.ensures
