use Rattle.std.proofs.Common.{rules, ◌≡◌, ◌++◌, ◌∷◌, [], List, ℕ, string_bytes, OnOk, ap, ◌∙◌, subst, lit<}
use Rattle.std.proofs.lemmas.Str.{encode_ascii}
use Rattle.bike_texts.specs.Fields.{segment_text}
use Rattle.bike_texts.specs.Writing.{others_text}
use Rattle.bike_texts.proofs.SegmentTexts.{segments_written}
use Rattle.bike_texts.proofs.put_texts.put_segments.Goals as goal

pub returns-in_ok-push_segment-in-Some : goal.returns-in_ok-push_segment-in-Some
returns-in_ok-push_segment-in-Some c =
    let first = c.in-Some.first.now in
    let others = c.in-Some.others.now in
    let start = string_bytes c.args.out.now in
    let cut : c.args.segments.now ≡ first ∷ others = search rules in
    let written = segments_written first others c.args.segments.now start cut in
    let tab : string_bytes c.push.new.self ≡ start ++ 9 ∷ [] = c.in_ok-push.ensures.bytes ∙ ap (λ (t : List ℕ). start ++ t) (encode_ascii 9 (lit< tt)) in
    let before : string_bytes c.push_segment.new.out ≡ (start ++ 9 ∷ []) ++ segment_text first = c.in_ok-push_segment-in-Some.ensures ∙ ap (λ (t : List ℕ). t ++ segment_text first) tab in
    subst (λ (t : List ℕ). OnOk c.push_others.result (string_bytes c.push_others.new.out ≡ t)) (ap (λ (t : List ℕ). t ++ others_text others) before ∙ written) c.push_others.ensures
