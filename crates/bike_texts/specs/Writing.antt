-- Parts of a written text.
use Rattle.std.specs.Prelude.{ℕ, List, ◌∷◌, flat_map}
use Rattle.bike_fields.specs.Values.{SegmentRow}
use Rattle.bike_texts.specs.Fields.{segment_text}

-- segments, with a semicolon before each
abbrev pub others_text : List SegmentRow → List ℕ
others_text segments = flat_map (λ s. 59 ∷ segment_text s) segments
