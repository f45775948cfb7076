use Rattle.std.proofs.Common.{ℕ, List, Some, sym, ap, ◌∙◌}
use Rattle.bike_book.specs.ByType.{all_read}
use Rattle.bike_book.proofs.TypeTexts.{one_more, fails_here, is_done}
use Rattle.bike_book.proofs.type_texts.read_all.Goals as goal

pub returns-in_default-read_counted : goal.returns-in_default-read_counted
returns-in_default-read_counted c =
    sym (fails_here c.loop-text.list.items c.in-Some.text.now c.loop-text.parts c.part.new.self (all_read c.args.parts) c.in-Some.ensures c.in_default-read_counted.ensures.read c.loop-text.invariant)

pub loop-text-preserved : goal.loop-text-preserved
loop-text-preserved c =
    let counts = c.in-Some-read_counted.counts in
    let read = c.in-Some-read_counted.ensures.read ∙ ap (λ (t : List ℕ). Some (record { type_id = t; counts = counts })) (sym c.in_ok-type_id.ensures) in
    rw c.in_ok-push.ensures.items (one_more c.loop-text.list.items (record { type_id = c.in_ok-type_id.type_id; counts = counts })
    c.in-Some.text.now c.loop-text.parts c.part.new.self (all_read c.args.parts) c.in-Some.ensures read c.loop-text.invariant)

pub returns : goal.returns
returns c = sym (is_done c.loop-text.list.items c.loop-text.parts (all_read c.args.parts) c.in_default.ensures c.loop-text.invariant)
