-- The text of a plan's segments, as it is written one after the other.
use Rattle.std.proofs.Common.{◌≡◌, ℕ, List, [], ◌∷◌, ◌++◌, sym, ap, ◌∙◌, map, append-nil, append_assoc}
use Rattle.std.specs.List.{join_with_byte}
use Rattle.bike_fields.specs.Values.{SegmentRow}
use Rattle.bike_texts.specs.Fields.{segment_text, segments_text}
use Rattle.bike_texts.specs.Writing.{others_text}

joined : (s : SegmentRow) (ss : List SegmentRow) → join_with_byte 59 (map segment_text (s ∷ ss)) ≡ segment_text s ++ others_text ss
joined s [] = sym (append-nil (segment_text s))
joined s (t ∷ ss) = ap (λ (text : List ℕ). segment_text s ++ 59 ∷ text) (joined t ss)

-- what is written: a TAB, the first segment, the others
pub segments_written : (s : SegmentRow) (ss segments : List SegmentRow) (start : List ℕ) → segments ≡ s ∷ ss
    → ((start ++ 9 ∷ []) ++ segment_text s) ++ others_text ss ≡ start ++ 9 ∷ segments_text segments
segments_written s ss segments start e =
    append_assoc (start ++ 9 ∷ []) (segment_text s) (others_text ss)
    ∙ (append_assoc start (9 ∷ []) (segment_text s ++ others_text ss)
    ∙ ap (λ (text : List ℕ). start ++ 9 ∷ text) (sym (joined s ss) ∙ ap segments_text (sym e)))
