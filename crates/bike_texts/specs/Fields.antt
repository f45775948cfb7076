-- The fields of a command or reply, as they stand between TABs.
use Rattle.std.specs.Prelude.{◌≡◌, ℕ, ℤ, ◌≤◌, ◌<◌, ◌^◌, List, [], ◌∷◌, ◌++◌, ◌==◌, Bool, not, true, Option, Some, None}
use Rattle.std.specs.Prelude.{length, decimal, codes, map, pos, neg_ℤ, ◌≤ℤ◌, if◌then◌else◌}
use Rattle.std.specs.Fmt.{signed_decimal}
use Rattle.std.specs.List.{list_all, join_with_byte}
use Rattle.bike_fixed.specs.declared.micro.TheConstants.{GREATEST_COORDINATE}
use Rattle.bike_fixed.specs.Coordinate.{IsCoordinate}
use Rattle.bike_fixed.specs.Text.{micro_text}
use Rattle.bike_fields.specs.declared.numbers.TheConstants.{MOST_DOCKS, GREATEST_NUMBER, GREATEST_SERIAL}
use Rattle.bike_fields.specs.declared.numbers.TheConstants.{GREATEST_PAYMENT}
use Rattle.bike_fields.specs.declared.limits.TheConstants.{MOST_SEGMENTS}
use Rattle.bike_fields.specs.Bytes.{is_ident, is_language, is_currency, is_name, is_ascii_field}
use Rattle.bike_fields.specs.declared.vehicle.Propulsion.{Propulsion}
use Rattle.bike_fields.specs.Values.{SegmentRow, IsSegment, IsRange}
use Rattle.bike_texts.specs.declared.ends.OrderEnd.{OrderEnd}
use Rattle.bike_texts.specs.declared.ends.OrderEnd.TheVariants.{Depot, Station}
use Rattle.bike_texts.specs.declared.ends.Side.{Side}
use Rattle.bike_texts.specs.declared.ends.Side.TheVariants.{From, To}

-- A field with its value.
pub data Field : Type 0 where
  -- a whole number with its bounds
  Number : ℕ → ℕ → ℕ → Field
  -- a signed number with its bounds
  Signed : ℤ → ℤ → ℤ → Field
  -- one of a few fixed words
  Fixed : List ℕ → Field
  -- an identifier, a language, a currency: they stand as they are
  Id : List ℕ → Field
  Language : List ℕ → Field
  Currency : List ℕ → Field
  -- a name and an ASCII field, with escapes
  Name : List ℕ → Field
  Ascii : List ℕ → Field
  -- microdegrees, with the greatest size
  Degrees : ℕ → ℤ → Field
  -- metres that suit the propulsion
  Metres : Propulsion → ℕ → Field
  -- the segments of a plan
  Segments : List SegmentRow → Field
  -- an end of an order
  End : OrderEnd → Field

-- a choice between two words, and a truth value
abbrev pub Choice : List ℕ → List ℕ → Bool → Field
Choice word other b = Fixed (if b then word else other)

abbrev pub Flag : Bool → Field
Flag = Choice (codes "true") (codes "false")

-- numbers with a name of their own: riders, bicycles and trucks; docks; rentals and orders; payments in hundredths
abbrev pub Numbered : ℕ → Field
Numbered = Number 1 GREATEST_NUMBER

abbrev pub Dock : ℕ → Field
Dock = Number 1 MOST_DOCKS

abbrev pub Serial : ℕ → Field
Serial = Number 1 GREATEST_SERIAL

-- a dock, or 0 at the depot
abbrev pub DockOrDepot : ℕ → Field
DockOrDepot = Number 0 MOST_DOCKS

abbrev pub Payment : ℕ → Field
Payment = Number 1 GREATEST_PAYMENT

-- an identifier, or `*` for none
abbrev pub IdOrNone : Option (List ℕ) → Field
IdOrNone None = Fixed (codes "*")
IdOrNone (Some id) = Id id

-- the text has no TAB
abbrev pub HasNoTab : List ℕ → Type 0
HasNoTab text = list_all (λ b. not (b == 9)) text ≡ true

-- segments that keep their bounds
abbrev pub AreSegments : List SegmentRow → Type 0
AreSegments [] = Unit {0}
AreSegments (segment ∷ segments) = IsSegment segment × AreSegments segments

abbrev pub IsEnd : OrderEnd → Type 0
IsEnd Depot = Unit {0}
IsEnd (Station station) = is_ident station ≡ true

-- what a field may hold
abbrev pub IsGood : Field → Type 0
IsGood (Number least greatest n) = (least ≤ n) × (n ≤ greatest) × (greatest < 2 ^ 64)
IsGood (Signed least greatest z) =
    (least ≤ℤ z) × (z ≤ℤ greatest) × (neg_ℤ (pos 9223372036854775808) ≤ℤ least) × (greatest ≤ℤ pos 9223372036854775807)
IsGood (Fixed word) = HasNoTab word
IsGood (Id bs) = is_ident bs ≡ true
IsGood (Language bs) = is_language bs ≡ true
IsGood (Currency bs) = is_currency bs ≡ true
IsGood (Name bs) = is_name bs ≡ true
IsGood (Ascii bs) = is_ascii_field bs ≡ true
IsGood (Degrees greatest z) = (neg_ℤ (pos greatest) ≤ℤ z) × (z ≤ℤ pos greatest) × (greatest ≤ GREATEST_COORDINATE)
IsGood (Metres propulsion n) = IsRange propulsion n
IsGood (Segments ss) = AreSegments ss × (length ss ≤ MOST_SEGMENTS)
IsGood (End end) = IsEnd end

abbrev pub AreGood : List Field → Type 0
AreGood [] = Unit {0}
AreGood (f ∷ fs) = IsGood f × AreGood fs

-- in names and ASCII fields a backslash, a TAB, an LF and a CR stand behind a backslash
abbrev pub escape : ℕ → List ℕ
escape b =
    if b == 92 then 92 ∷ 92 ∷ [] else (
    if b == 9 then 92 ∷ 116 ∷ [] else (
    if b == 10 then 92 ∷ 110 ∷ [] else (
    if b == 13 then 92 ∷ 114 ∷ [] else b ∷ [])))

unfoldable pub escapes_of : List ℕ → List ℕ
escapes_of [] = []
escapes_of (b ∷ bs) = escape b ++ escapes_of bs

-- a segment is START:RATE:INTERVAL:END, and `-` stands for no end
abbrev pub segment_end_text : Option ℕ → List ℕ
segment_end_text None = codes "-"
segment_end_text (Some end) = decimal end

abbrev pub segment_text : SegmentRow → List ℕ
segment_text s =
    join_with_byte 58 (decimal s.start ∷ signed_decimal s.rate ∷ decimal s.interval ∷ segment_end_text s.end ∷ [])

-- segments have a semicolon between them, and `-` stands for none
abbrev pub segments_text : List SegmentRow → List ℕ
segments_text [] = codes "-"
segments_text (s ∷ ss) = join_with_byte 59 (map segment_text (s ∷ ss))

-- the depot is `*`
abbrev pub end_text : OrderEnd → List ℕ
end_text Depot = codes "*"
end_text (Station station) = station

-- the side of an order at which a bicycle is unloaded
abbrev pub side_text : Side → List ℕ
side_text From = codes "from"
side_text To = codes "to"

-- the one text that is written for a field
abbrev pub field_text : Field → List ℕ
field_text (Number least greatest n) = decimal n
field_text (Signed least greatest z) = signed_decimal z
field_text (Fixed word) = word
field_text (Id bs) = bs
field_text (Language bs) = bs
field_text (Currency bs) = bs
field_text (Name bs) = escapes_of bs
field_text (Ascii bs) = escapes_of bs
field_text (Degrees greatest z) = micro_text z
field_text (Metres propulsion n) = decimal n
field_text (Segments ss) = segments_text ss
field_text (End end) = end_text end

-- the text spells the field: it is the field's one text, but for a coordinate, which has several
abbrev pub Spells : Field → List ℕ → Type 0
Spells (Degrees greatest z) text = IsCoordinate text z
Spells (Number least greatest n) text = text ≡ decimal n
Spells (Signed least greatest z) text = text ≡ signed_decimal z
Spells (Fixed word) text = text ≡ word
Spells (Id bs) text = text ≡ bs
Spells (Language bs) text = text ≡ bs
Spells (Currency bs) text = text ≡ bs
Spells (Name bs) text = text ≡ escapes_of bs
Spells (Ascii bs) text = text ≡ escapes_of bs
Spells (Metres propulsion n) text = text ≡ decimal n
Spells (Segments ss) text = text ≡ segments_text ss
Spells (End end) text = text ≡ end_text end

abbrev pub EachSpells : List Field → List (List ℕ) → Type 0
EachSpells [] [] = Unit {0}
EachSpells [] (p ∷ ps) = ⊥
EachSpells (f ∷ fs) [] = ⊥
EachSpells (f ∷ fs) (p ∷ ps) = Spells f p × EachSpells fs ps

-- The text is the word and texts of the fields, joined by TABs.
pub record IsSpelled (text word : List ℕ) (fields : List Field) : Type 0 where
  pub parts : List (List ℕ)
  pub each : EachSpells fields parts
  pub joined : text ≡ join_with_byte 9 (word ∷ parts)

-- the text is as coordinates are written: with six decimals, no needless zero in front and no minus before zero
abbrev pub IsAsWritten : Field → List ℕ → Type 0
IsAsWritten (Degrees greatest z) text = text ≡ micro_text z
IsAsWritten (Number least greatest n) text = Unit {0}
IsAsWritten (Signed least greatest z) text = Unit {0}
IsAsWritten (Fixed word) text = Unit {0}
IsAsWritten (Id bs) text = Unit {0}
IsAsWritten (Language bs) text = Unit {0}
IsAsWritten (Currency bs) text = Unit {0}
IsAsWritten (Name bs) text = Unit {0}
IsAsWritten (Ascii bs) text = Unit {0}
IsAsWritten (Metres propulsion n) text = Unit {0}
IsAsWritten (Segments ss) text = Unit {0}
IsAsWritten (End end) text = Unit {0}

abbrev pub AreAsWritten : List Field → List (List ℕ) → Type 0
AreAsWritten [] ps = Unit {0}
AreAsWritten (f ∷ fs) [] = Unit {0}
AreAsWritten (f ∷ fs) (p ∷ ps) = IsAsWritten f p × AreAsWritten fs ps

-- The text spells the word and the fields, with their coordinates as they are written.
pub record IsWritten (text word : List ℕ) (fields : List Field) : Type 0 where
  pub parts : List (List ℕ)
  pub each : EachSpells fields parts
  pub coordinates : AreAsWritten fields parts
  pub joined : text ≡ join_with_byte 9 (word ∷ parts)

-- the texts of fields, with a TAB before each
unfoldable pub fields_text : List Field → List ℕ
fields_text [] = []
fields_text (f ∷ fs) = 9 ∷ field_text f ++ fields_text fs
