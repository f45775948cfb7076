use Rattle.std.proofs.Common.{sym, ap, ◌∙◌, ◌++◌, ◌∷◌, []}
use Rattle.bike_texts.specs.Reading.{at_most}
use Rattle.bike_texts.specs.SegmentReading.{all_of}
use Rattle.bike_texts.proofs.SegmentSteps.{one_more, fails_here, is_done, one_fits}
use Rattle.bike_texts.proofs.Unescaping.{too_many, one_too_many, few_enough}
use Rattle.bike_texts.proofs.segments.read_all.Goals as goal

pub returns-in_err-segment : goal.returns-in_err-segment
returns-in_err-segment c =
    rw c.from_residual.ensures (ap (at_most 8) (fails_here c.loop-text.segments.items c.in-Some.text.now c.loop-text.parts c.part.new.self (all_of c.args.parts) c.in-Some.ensures
    (sym c.in_err-segment.ensures) c.loop-text.invariant.0))

pub returns-then-is_full : goal.returns-then-is_full
returns-then-is_full c =
    let items = c.loop-text.segments.items in
    let segment = c.in_ok-segment.segment in
    let more = one_more items segment c.in-Some.text.now c.loop-text.parts c.part.new.self (all_of c.args.parts) c.in-Some.ensures (sym c.in_ok-segment.ensures) c.loop-text.invariant.0 in
    too_many 8 (items ++ segment ∷ []) (all_of c.part.new.self) (all_of c.args.parts) (one_too_many 8 items segment c.if-is_full.ensures.value) more

pub loop-text-preserved : goal.loop-text-preserved
loop-text-preserved c =
    let items = c.loop-text.segments.items in
    let segment = c.in_ok-segment.segment in
    let more = one_more items segment c.in-Some.text.now c.loop-text.parts c.part.new.self (all_of c.args.parts) c.in-Some.ensures (sym c.in_ok-segment.ensures) c.loop-text.invariant.0 in
    rw c.push.ensures.items (more, one_fits 8 items segment c.if-is_full.ensures.value c.loop-text.invariant.1)

pub returns : goal.returns
returns c =
    let items = c.loop-text.segments.items in
    ap (at_most 8) (is_done items c.loop-text.parts (all_of c.args.parts) c.in_default.ensures c.loop-text.invariant.0) ∙ few_enough 8 items c.loop-text.invariant.1
