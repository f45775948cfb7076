-- Kinds of fields: the value that is read, its reader, and the fields in which it stands.
use Rattle.std.specs.Prelude.{ℕ, ℤ, List, [], ◌∷◌, ◌++◌, Bool, Option, Some}
use Rattle.bike_fixed.specs.Whole.{number_of}
use Rattle.bike_fields.specs.Bytes.{ident_of, language_of, currency_of}
use Rattle.bike_fields.specs.Values.{SegmentRow}
use Rattle.bike_fields.specs.Vehicle.{form_of, form_text, propulsion_of, propulsion_text}
use Rattle.bike_fields.specs.NameKinds.{kind_of, kind_text}
use Rattle.bike_fields.specs.declared.name_kind.NameKind.{NameKind}
use Rattle.bike_fields.specs.declared.vehicle.Form.{Form}
use Rattle.bike_fields.specs.declared.vehicle.Propulsion.{Propulsion}
use Rattle.bike_texts.specs.declared.ends.OrderEnd.{OrderEnd}
use Rattle.bike_texts.specs.declared.ends.Side.{Side}
use Rattle.bike_texts.specs.Parts.{Parts}
use Rattle.bike_texts.specs.Fields.{Field, Number, Fixed, Id, Language, Currency, Name, Ascii, Degrees, Metres}
use Rattle.bike_texts.specs.Fields.{Segments, End, Choice, IdOrNone, side_text}
use Rattle.bike_texts.specs.Reading.{◌>>=◌, field_at, degrees_of, metres_of, choice_of, side_of, end_of}
use Rattle.bike_texts.specs.Reading.{ident_or_none_of}
use Rattle.bike_texts.specs.Escapes.{name_at, ascii_at}
use Rattle.bike_texts.specs.SegmentReading.{segments_of}

infixr 5 ◌&◌
pub data Kind : Type 0 where
  -- whole numbers from the least to the greatest
  Numbers : ℕ → ℕ → Kind
  Idents : Kind
  Languages : Kind
  Currencies : Kind
  Names : Kind
  Asciis : Kind
  -- one of two words
  Choices : List ℕ → List ℕ → Kind
  -- microdegrees of at most that size
  Coordinates : ℕ → Kind
  Forms : Kind
  -- a propulsion, and a greatest range that goes with it
  Ranges : Kind
  SegmentLists : Kind
  Ends : Kind
  IdentsOrNone : Kind
  Sides : Kind
  NameKinds : Kind
  -- the one, and the other behind it
  ◌&◌ : Kind → Kind → Kind

abbrev pub Value : Kind → Type 0
Value (Numbers least greatest) = ℕ
Value Idents = List ℕ
Value Languages = List ℕ
Value Currencies = List ℕ
Value Names = List ℕ
Value Asciis = List ℕ
Value (Choices word other) = Bool
Value (Coordinates greatest) = ℤ
Value Forms = Form
Value Ranges = Propulsion × ℕ
Value SegmentLists = List SegmentRow
Value Ends = OrderEnd
Value IdentsOrNone = Option (List ℕ)
Value Sides = Side
Value NameKinds = NameKind
Value (k & l) = Value k × Value l

-- one value, and another behind it, whose reader may go by the first
abbrev pub then_at : {A B : Type 0} → (Parts → Option (A × Parts)) → (A → Parts → Option (B × Parts))
    → Parts → Option ((A × B) × Parts)
then_at first second ps = first ps >>= λ a. second a.0 a.1 >>= λ b. Some ((a.0, b.0), b.1)

abbrev pub reads : (k : Kind) → Parts → Option (Value k × Parts)
reads (Numbers least greatest) = field_at (number_of least greatest)
reads Idents = field_at ident_of
reads Languages = field_at language_of
reads Currencies = field_at currency_of
reads Names = field_at name_at
reads Asciis = field_at ascii_at
reads (Choices word other) = field_at (choice_of word other)
reads (Coordinates greatest) = field_at (degrees_of greatest)
reads Forms = field_at form_of
reads Ranges = then_at (field_at propulsion_of) (λ propulsion. field_at (metres_of propulsion))
reads SegmentLists = field_at segments_of
reads Ends = field_at end_of
reads IdentsOrNone = field_at ident_or_none_of
reads Sides = field_at side_of
reads NameKinds = field_at kind_of
reads (k & l) = then_at (reads k) (λ _. reads l)

abbrev pub fields_with : (k : Kind) → Value k → List Field
fields_with (Numbers least greatest) n = Number least greatest n ∷ []
fields_with Idents id = Id id ∷ []
fields_with Languages language = Language language ∷ []
fields_with Currencies currency = Currency currency ∷ []
fields_with Names name = Name name ∷ []
fields_with Asciis ascii = Ascii ascii ∷ []
fields_with (Choices word other) b = Choice word other b ∷ []
fields_with (Coordinates greatest) z = Degrees greatest z ∷ []
fields_with Forms form = Fixed (form_text form) ∷ []
fields_with Ranges r = Fixed (propulsion_text r.0) ∷ Metres r.0 r.1 ∷ []
fields_with SegmentLists segments = Segments segments ∷ []
fields_with Ends end = End end ∷ []
fields_with IdentsOrNone id = IdOrNone id ∷ []
fields_with Sides side = Fixed (side_text side) ∷ []
fields_with NameKinds kind = Fixed (kind_text kind) ∷ []
fields_with (k & l) v = fields_with k v.0 ++ fields_with l v.1
