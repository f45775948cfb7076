-- The first field that breaks a bound, and the first bound that it breaks.
use Rattle.std.specs.Prelude.{◌≡◌, ℕ, List, Bool, if◌then◌else◌, Option, Some, None, Result, Ok, Err}
use Rattle.std.specs.List.{list_all}
use Rattle.bike_fields.specs.declared.fault.Bound.{Bound}
use Rattle.bike_fields.specs.declared.fault.Bound.TheVariants.{Length, Charset}
use Rattle.bike_fields.specs.declared.fault.Field.{Field}
use Rattle.bike_fields.specs.declared.fault.FieldFault.{FieldFault}
use Rattle.bike_fields.specs.declared.fault.FieldFault.TheVariants.{Broken, NoMemory}
use Rattle.bike_fields.specs.declared.text_lengths.TheConstants.{LONGEST_IDENT, LONGEST_KEY, SHORTEST_LANGUAGE}
use Rattle.bike_fields.specs.declared.text_lengths.TheConstants.{LONGEST_LANGUAGE, CURRENCY_LENGTH, LONGEST_ASCII}
use Rattle.bike_fields.specs.declared.text_lengths.TheConstants.{LONGEST_NAME}
use Rattle.bike_fields.specs.Bytes.{has_length, is_ident_byte, is_key_byte, is_language_byte, is_upper, is_printable}
use Rattle.bike_fields.specs.Bytes.{is_name_byte}

-- the bound that a text breaks: its length's comes before its bytes'
abbrev pub text_fault : ℕ → ℕ → (ℕ → Bool) → List ℕ → Option Bound
text_fault least most is_byte bs =
    if has_length least most bs then (if list_all is_byte bs then None else Some Charset) else Some Length

unfoldable pub ident_fault : List ℕ → Option Bound
ident_fault bs = text_fault 1 LONGEST_IDENT is_ident_byte bs

unfoldable pub key_fault : List ℕ → Option Bound
key_fault bs = text_fault 1 LONGEST_KEY is_key_byte bs

unfoldable pub language_fault : List ℕ → Option Bound
language_fault bs = text_fault SHORTEST_LANGUAGE LONGEST_LANGUAGE is_language_byte bs

unfoldable pub currency_fault : List ℕ → Option Bound
currency_fault bs = text_fault CURRENCY_LENGTH CURRENCY_LENGTH is_upper bs

unfoldable pub ascii_fault : List ℕ → Option Bound
ascii_fault bs = text_fault 1 LONGEST_ASCII is_printable bs

unfoldable pub name_fault : List ℕ → Option Bound
name_fault bs = text_fault 1 LONGEST_NAME is_name_byte bs

-- A test answers the value where the field keeps its bounds, else the first fault. It takes no memory.
abbrev pub Tests : {A B : Type 0} → (A → B) → B → Option (Field × Bound) → Result A FieldFault → Type 0
Tests view value fault (Ok x) = (view x ≡ value) × (fault ≡ None)
Tests view value fault (Err NoMemory) = ⊥
Tests view value fault (Err (Broken field bound)) = fault ≡ Some (field, bound)

-- A constructor answers the value of the fields where they keep their bounds, else the first fault. A want of memory
-- stands only in the place of the value.
abbrev pub Makes : {X : Type 0} → X → Option (Field × Bound) → Result X FieldFault → Type 0
Makes value fault (Ok x) = (x ≡ value) × (fault ≡ None)
Makes value fault (Err NoMemory) = fault ≡ None
Makes value fault (Err (Broken field bound)) = fault ≡ Some (field, bound)

-- the fault of one field
abbrev pub at_field : Field → Option Bound → Option (Field × Bound)
at_field field None = None
at_field field (Some bound) = Some (field, bound)
