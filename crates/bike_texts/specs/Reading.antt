-- Reading fields one after the other.
use Rattle.std.specs.Prelude.{◌≡◌, ℕ, ℤ, pos, neg_ℤ, int_le, nat_le, length, ◌&&◌, List, [], ◌∷◌, Bool, true, false}
use Rattle.std.specs.Prelude.{Option, Some, None, option_and_then, if◌then◌else◌, codes}
use Rattle.std.specs.Str.{bytes_eq}
use Rattle.bike_fixed.specs.declared.cents.TheConstants.{GREATEST_FARE}
use Rattle.bike_fixed.specs.Coordinate.{micro_of}
use Rattle.bike_fixed.specs.Whole.{number_of, signed_of}
use Rattle.bike_fields.specs.declared.numbers.TheConstants.{GREATEST_RANGE}
use Rattle.bike_fields.specs.Bytes.{is_ident, ident_of}
use Rattle.bike_fields.specs.Values.{is_range}
use Rattle.bike_fields.specs.declared.vehicle.Propulsion.{Propulsion}
use Rattle.bike_texts.specs.declared.ends.OrderEnd.{OrderEnd}
use Rattle.bike_texts.specs.declared.ends.OrderEnd.TheVariants.{Depot, Station}
use Rattle.bike_texts.specs.declared.ends.EndName.{EndName}
use Rattle.bike_texts.specs.declared.ends.EndName.TheVariants as name
use Rattle.bike_texts.specs.declared.ends.Side.{Side}
use Rattle.bike_texts.specs.declared.ends.Side.TheVariants.{From, To}
use Rattle.bike_texts.specs.Parts.{Parts}

infixl 10 ◌>>=◌
abbrev pub ◌>>=◌ : {A B : Type 0} → Option A → (A → Option B) → Option B
o >>= f = option_and_then f o

-- the outcome is what reading gives, and the parts that it leaves
abbrev pub Takes : {A B : Type 0} → (A → B) → Option A → Option (B × Parts) → Parts → Type 0
Takes view (Some x) read rest = read ≡ Some (view x, rest)
Takes view None read rest = read ≡ None

abbrev pub part_at : Parts → Option (List ℕ × Parts)
part_at [] = None
part_at (p ∷ ps) = Some (p, ps)

-- the first part by a field's reader, and the parts behind it
abbrev pub field_at : {A : Type 0} → (List ℕ → Option A) → Parts → Option (A × Parts)
field_at read [] = None
field_at read (p ∷ ps) = read p >>= λ a. Some (a, ps)

-- the list, where it has at most so many items
abbrev pub at_most : {A : Type 0} → ℕ → Option (List A) → Option (List A)
at_most most read = read >>= λ items. if nat_le (length items) most then Some items else None

-- nothing is left
abbrev pub no_more : Parts → Option (Unit {0})
no_more [] = Some tt
no_more (p ∷ ps) = None

-- the word and no other text
unfoldable pub exactly : List ℕ → List ℕ → Option (Unit {0})
exactly word text = if bytes_eq text word then Some tt else None

-- any number of 64 bits
abbrev pub i64_of : List ℕ → Option ℤ
i64_of = signed_of (neg_ℤ (pos 9223372036854775808)) (pos 9223372036854775807)

-- the fare of a rental, in hundredths
abbrev pub fare_of : List ℕ → Option ℤ
fare_of = signed_of (pos 0) GREATEST_FARE

-- a size of at most the greatest
abbrev pub is_of_size : ℕ → ℤ → Bool
is_of_size greatest z = int_le (neg_ℤ (pos greatest)) z && int_le z (pos greatest)

-- the microdegrees that the text spells, where their size is at most the greatest
unfoldable pub degrees_of : ℕ → List ℕ → Option ℤ
degrees_of greatest text = micro_of text >>= λ z. if is_of_size greatest z then Some z else None

-- the metres that the text spells, where they suit the propulsion
unfoldable pub metres_of : Propulsion → List ℕ → Option ℕ
metres_of propulsion text = number_of 0 GREATEST_RANGE text >>= λ n. if is_range propulsion n then Some n else None

-- which of two words the text is
unfoldable pub choice_of : List ℕ → List ℕ → List ℕ → Option Bool
choice_of word other text = if bytes_eq text word then Some true else (if bytes_eq text other then Some false else None)

unfoldable pub side_of : List ℕ → Option Side
side_of text =
    if bytes_eq text (codes "from") then Some From else (
    if bytes_eq text (codes "to") then Some To else None)

-- the depot's `*`, or a station's identifier
unfoldable pub end_of : List ℕ → Option OrderEnd
end_of text = if bytes_eq text (codes "*") then Some Depot else (ident_of text >>= λ i. Some (Station i))

-- `*` for none, or an identifier
unfoldable pub ident_or_none_of : List ℕ → Option (Option (List ℕ))
ident_or_none_of text = if bytes_eq text (codes "*") then Some None else (ident_of text >>= λ i. Some (Some i))

-- the end that is named
abbrev pub end_meant : EndName → OrderEnd
end_meant name.Depot = Depot
end_meant (name.Station station) = Station station.now

-- an identifier in the name keeps its bounds
abbrev pub HasIdent : EndName → Type 0
HasIdent name.Depot = Unit {0}
HasIdent (name.Station station) = is_ident station.now ≡ true

-- the end is a station, for whose identifier it needs memory
abbrev pub HoldsIdent : OrderEnd → Type 0
HoldsIdent Depot = ⊥
HoldsIdent (Station station) = Unit {0}
