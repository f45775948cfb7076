-- What a column holds of which a value was read.
use Rattle.std.proofs.Common.{◌≡◌, Bool, true, false, if◌then◌else◌, List, ℕ, Option, Some, None, option_map, pos, Ok, refl, sym, ap, ◌∙◌}
use Rattle.std.specs.Prelude.{option_and_then}
use Rattle.std.specs.Ordering.{int_eq}
use Rattle.std.specs.Str.{is_utf8}
use Rattle.std.proofs.lemmas.Bool.Decides.{Decides-int_eq}
use Rattle.sqlite_value.specs.declared.value.Value.{Value}
use Rattle.sqlite_value.specs.declared.value.Value.TheVariants.{Null, Int, Real, Text, Blob}
use Rattle.sqlite.specs.Values.{or_null}
use Rattle.bike_fields.specs.Bytes.{is_ident, kept_if, ident_of}
use Rattle.bike_operator.specs.declared.records.BikeState.{BikeState}
use Rattle.bike_operator.specs.declared.records.BikeState.TheVariants.{Fit, Disabled, Retired}
use Rattle.bike_book.specs.declared.by_type.CountedType.{CountedType}
use Rattle.bike_book.specs.Rows.{state_number}
use Rattle.bike_book.specs.ByType.{ReadsBack, by_type_read, by_type_text}
use Rattle.bike_schema.specs.Columns.{state_in, ident_in, or_none, read_or_failed, text_in}
use Rattle.bike_fleet_reads.specs.Holds.{AreTypesIn}

-- a bicycle's state
pub holds_state : (v : Value) (state : BikeState) → Ok state ≡ read_or_failed (state_in v) → v ≡ Int (state_number state)
holds_state (Int n) state is = by (int_eq n (pos 0)) (int_eq n (pos 1)) (int_eq n (pos 2)) refl refl refl is
  where
    named_as : (named : BikeState) → int_eq n (state_number named) ≡ true → state ≡ named → Int n ≡ Int (state_number state)
    named_as named same is = ap Int ((Decides-int_eq n (state_number named)).0 same) ∙ ap (λ z. Int (state_number z)) (sym is)

    by : (a b c : Bool) → int_eq n (pos 0) ≡ a → int_eq n (pos 1) ≡ b → int_eq n (pos 2) ≡ c
        → Ok state ≡ read_or_failed (if a then Some Fit else (if b then Some Disabled else (if c then Some Retired else None))) → Int n ≡ Int (state_number state)
    by true b c fit disabled retired is = named_as Fit fit (cc)
    by false true c fit disabled retired is = named_as Disabled disabled (cc)
    by false false true fit disabled retired is = named_as Retired retired (cc)
    by false false false fit disabled retired is = absurd (cc)
holds_state Null state is = absurd (cc)
holds_state (Real x) state is = absurd (cc)
holds_state (Text t) state is = absurd (cc)
holds_state (Blob b) state is = absurd (cc)

-- an identifier, and its bounds
pub holds_ident : (v : Value) (ident : List ℕ) → ident_in v ≡ Some ident → (v ≡ Text ident) × (is_ident ident ≡ true)
unfolding ident_of
holds_ident (Text text) ident is = by (is_utf8 text) is
  where
    kept : (b : Bool) → is_ident text ≡ b → kept_if b text ≡ Some ident → (Text text ≡ Text ident) × (is_ident ident ≡ true)
    kept true good is = let same : text ≡ ident = cc in (ap Text same, ap is_ident (sym same) ∙ good)
    kept false good is = absurd (cc)

    by : (b : Bool) → option_and_then (λ t. kept_if (is_ident t) t) (if b then Some text else None) ≡ Some ident → (Text text ≡ Text ident) × (is_ident ident ≡ true)
    by true is = kept (is_ident text) refl is
    by false is = absurd (cc)
holds_ident Null ident is = absurd (cc)
holds_ident (Int n) ident is = absurd (cc)
holds_ident (Real x) ident is = absurd (cc)
holds_ident (Blob b) ident is = absurd (cc)

-- an identifier, or NULL
pub holds_optional_ident : (v : Value) (ident : Option (List ℕ)) → or_none ident_in v ≡ Some ident → v ≡ or_null Text ident
holds_optional_ident Null ident is = let none : ident ≡ None = cc in ap (or_null Text) (sym none)
holds_optional_ident (Int n) ident is = absurd (cc)
holds_optional_ident (Real x) ident is = absurd (cc)
holds_optional_ident (Blob b) ident is = absurd (cc)
holds_optional_ident (Text text) ident is = by (ident_in (Text text)) refl is
  where
    by : (read : Option (List ℕ)) → ident_in (Text text) ≡ read → option_map Some read ≡ Some ident → Text text ≡ or_null Text ident
    by None read is = absurd (cc)
    by (Some t) read is = let some : Some t ≡ ident = cc in (holds_ident (Text text) t read).0 ∙ ap (or_null Text) some

-- the types of which the text tells that was read of a column
pub holds_types : (v : Value) (text : List ℕ) (list : List CountedType) → ReadsBack → text_in v ≡ Some text → by_type_read text ≡ Some list → AreTypesIn v list
holds_types v text list back is read cs idents holds = back cs list idents (ap by_type_read (same (is_utf8 (by_type_text cs)) (ap text_in (sym holds) ∙ is)) ∙ read) where
  same : (b : Bool) → (if b then Some (by_type_text cs) else None) ≡ Some text → by_type_text cs ≡ text
  same true it = cc
  same false it = absurd (cc)
