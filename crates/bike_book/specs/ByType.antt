-- A station's bicycles by type, and the text of them that stands in its row.
use Rattle.std.specs.Prelude.{◌≡◌, ◌≢◌, ◌==◌, ◌&&◌, ℕ, suc, List, [], ◌∷◌, Bool, true, fold, map, decimal, codes}
use Rattle.std.specs.Prelude.{Option, Some, if◌then◌else◌}
use Rattle.std.specs.declared.cmp.Ordering.{Ordering}
use Rattle.std.specs.declared.cmp.Ordering.TheVariants.{Less, Equal, Greater}
use Rattle.std.specs.List.{join_with_byte, slice_split, AllByRecursion}
use Rattle.std.specs.Str.{bytes_eq}
use Rattle.std.specs.FinMap as fin
use Rattle.bike_fixed.specs.Whole.{number_of}
use Rattle.bike_fields.specs.Bytes.{is_ident, ident_of}
use Rattle.bike_texts.specs.Parts.{Parts}
use Rattle.bike_texts.specs.Reading.{◌>>=◌, field_at, no_more}
use Rattle.bike_operator.specs.declared.records.Bike.{Bike}
use Rattle.bike_operator.specs.Operator.{Operator, text_cmp}
use Rattle.bike_operator.specs.Counts.{is_at, is_available, available_of}
use Rattle.bike_operator.specs.Sound.{IsSound}
use Rattle.bike_laws.specs.SingleSteps.Numbers.{disabled_of}
use Rattle.bike_book.specs.declared.by_type.TypeCounts.{TypeCounts}
use Rattle.bike_book.specs.declared.by_type.CountedType.{CountedType}

-- ---- types with their counts: in byte order, and none of 0 and 0

abbrev pub no_counts : TypeCounts
no_counts = record { available = 0; disabled = 0 }

abbrev pub are_none : TypeCounts → Bool
are_none n = (n.available == 0) && (n.disabled == 0)

-- the counts of a type, 0 and 0 where it isn't among them
abbrev pub counts_of : List ℕ → List CountedType → TypeCounts
counts_of type_id [] = no_counts
counts_of type_id (c ∷ cs) = if bytes_eq c.type_id type_id then c.counts else counts_of type_id cs

-- a type in front of others, where its counts aren't 0 and 0
abbrev pub with_first : List ℕ → TypeCounts → List CountedType → List CountedType
with_first type_id n cs = if are_none n then cs else record { type_id = type_id; counts = n } ∷ cs

-- a type at its place among others, of which the first comes before it, is the same or comes after it
abbrev pub placed : Ordering → List ℕ → TypeCounts → CountedType → List CountedType → List CountedType
    → List CountedType
placed Less type_id n c cs later = with_first type_id n (c ∷ cs)
placed Equal type_id n c cs later = with_first type_id n cs
placed Greater type_id n c cs later = c ∷ later

-- the counts of one type set
abbrev pub with_counts : List ℕ → TypeCounts → List CountedType → List CountedType
with_counts type_id n [] = with_first type_id n []
with_counts type_id n (c ∷ cs) = placed (text_cmp type_id c.type_id) type_id n c cs (with_counts type_id n cs)

-- ---- those of a station

abbrev pub one_more : Bool → TypeCounts → TypeCounts
one_more available n =
    if available then record { available = suc n.available; disabled = n.disabled }
    else record { available = n.available; disabled = suc n.disabled }

-- with a bicycle, where it stands there
abbrev pub with_bike : Operator → List ℕ → List CountedType → ℕ × Bike → List CountedType
with_bike s station cs b =
    if is_at station b.1.place
    then with_counts b.1.type_id (one_more (is_available s station b.1) (counts_of b.1.type_id cs)) cs
    else cs

-- THE TYPES AT A STATION, with the bicycles of each that can be rented and those that can't
abbrev pub types_at : Operator → List ℕ → List CountedType
types_at s station = fold (with_bike s station) [] (fin.entries s.bikes)

-- ---- the text: TYPE:AVAILABLE:DISABLED with a semicolon between them, and `-` for none

abbrev pub counted_text : CountedType → List ℕ
counted_text c = join_with_byte 58 (c.type_id ∷ decimal c.counts.available ∷ decimal c.counts.disabled ∷ [])

abbrev pub by_type_text : List CountedType → List ℕ
by_type_text [] = codes "-"
by_type_text (c ∷ cs) = join_with_byte 59 (map counted_text (c ∷ cs))

-- ---- read again

abbrev pub count_read : List ℕ → Option ℕ
count_read = number_of 0 4294967295

unfoldable pub counted_read : List ℕ → Option CountedType
counted_read text = do
  type_id ← field_at ident_of (slice_split (λ b. b == 58) text)
  available ← field_at count_read type_id.1
  disabled ← field_at count_read available.1
  nothing ← no_more disabled.1
  Some (record { type_id = type_id.0; counts = record { available = available.0; disabled = disabled.0 } })

-- a type in each part
unfoldable pub all_read : Parts → Option (List CountedType)
all_read [] = Some []
all_read (p ∷ ps) = do
  first ← counted_read p
  others ← all_read ps
  Some (first ∷ others)

unfoldable pub by_type_read : List ℕ → Option (List CountedType)
by_type_read text = if bytes_eq text (codes "-") then Some [] else all_read (slice_split (λ b. b == 59) text)

-- ---- the laws

abbrev pub AreIdents : List CountedType → Type 0
AreIdents = AllByRecursion (λ c. is_ident c.type_id ≡ true)

-- what is read of a text are the types of which it is the text
abbrev pub ReadsBack : Type 0
ReadsBack = (cs read : List CountedType) → AreIdents cs → by_type_read (by_type_text cs) ≡ Some read → read ≡ cs

-- The counts of the types at a station are the operator's.
abbrev pub CountsLaw : Type 0
CountsLaw =
    (s : Operator) (station type_id : List ℕ) → counts_of type_id (types_at s station)
    ≡ record { available = available_of s station type_id; disabled = disabled_of s station type_id }

-- the counts of the type are the same
abbrev pub IsSameCount : Operator → Operator → List ℕ → List ℕ → Type 0
IsSameCount s next station type_id =
    (available_of next station type_id ≡ available_of s station type_id)
    × (disabled_of next station type_id ≡ disabled_of s station type_id)

-- where all counts are the same, the types are
abbrev pub SameTypesLaw : Type 0
SameTypesLaw =
    (s next : Operator) (station : List ℕ) → ((type_id : List ℕ) → IsSameCount s next station type_id)
    → types_at next station ≡ types_at s station

-- where those of one type alone change, they are set
abbrev pub ChangedTypeLaw : Type 0
ChangedTypeLaw =
    (s next : Operator) (station type_id : List ℕ)
    → ((other : List ℕ) → other ≢ type_id → IsSameCount s next station other)
    → types_at next station ≡ with_counts type_id
    (record { available = available_of next station type_id; disabled = disabled_of next station type_id })
    (types_at s station)

-- where all counts are 0, there is no type
abbrev pub NoTypesLaw : Type 0
NoTypesLaw =
    (s : Operator) (station : List ℕ)
    → ((type_id : List ℕ) → (available_of s station type_id ≡ 0) × (disabled_of s station type_id ≡ 0))
    → types_at s station ≡ []

-- the types of a sound operator's bicycles have identifiers
abbrev pub IdentsLaw : Type 0
IdentsLaw = (s : Operator) (station : List ℕ) → IsSound s → AreIdents (types_at s station)
