-- What was read of a column is what was stored there.
use Rattle.std.proofs.Common.{◌≡◌, ℕ, ℤ, Bool, true, false, List, Option, Some, None, Result, Ok, refl, subst, if◌then◌else◌}
use Rattle.std.specs.Prelude.{option_map, option_and_then}
use Rattle.std.specs.Str.{is_utf8}
use Rattle.sqlite_value.specs.declared.value.Value.{Value}
use Rattle.sqlite_value.specs.declared.value.Value.TheVariants.{Int, Text}
use Rattle.sqlite.specs.Values.{or_null}
use Rattle.bike_fields.specs.Bytes.{kept_if, is_ident, is_name, is_language, ident_of, name_of, language_of}
use Rattle.bike_book.specs.Rows.{number_value, truth, state_number}
use Rattle.bike_operator.specs.declared.records.BikeState.{BikeState}
use Rattle.bike_operator.specs.declared.records.BikeState.TheVariants.{Fit, Disabled, Retired}
use Rattle.bike_schema.specs.declared.fault.StatementFault.{StatementFault}
use Rattle.bike_schema.specs.Columns.{number_in, moment_in, whole_in, flag_in, state_in, text_in, ident_in, name_in, language_in, or_none, read_or_failed}

-- the value, or a failure
abbrev Told : {X : Type 0} → X → Option X → Type 0
Told x found = ◌≡◌ {A = Result _ StatementFault} (Ok x) (read_or_failed found)

told_some : {X : Type 0} {x y : X} → Told x (Some y) → x ≡ y
told_some told = cc

told_if : {X : Type 0} {x y : X} (b : Bool) → Told x (if b then Some y else None) → x ≡ y
told_if true told = told_some told
told_if false told = absurd cc

some_if : {X : Type 0} {x y : X} (b : Bool) → (if b then Some y else None) ≡ Some x → x ≡ y
some_if true told = cc
some_if false told = absurd cc

told_map : {X : Type 0} {x : Option X} {y : X} (b : Bool) → Told x (option_map Some (if b then Some y else None)) → x ≡ Some y
told_map true told = told_some told
told_map false told = absurd cc

-- ---- columns that are NOT NULL

pub number_read : (lo hi : ℕ) {x n : ℕ} {v : Value} → Told x (number_in lo hi v) → v ≡ number_value n → x ≡ n
number_read lo hi {x} told is = told_if _ (subst (λ w. Told x (number_in lo hi w)) is told)

pub moment_read : {x n : ℕ} {v : Value} → Told x (moment_in v) → v ≡ number_value n → x ≡ n
moment_read {x} told is = told_if _ (subst (λ w. Told x (moment_in w)) is told)

pub whole_read : {x z : ℤ} {v : Value} → Told x (whole_in v) → v ≡ Int z → x ≡ z
whole_read {x} told is = told_some (subst (λ w. Told x (whole_in w)) is told)

pub flag_read : {x : Bool} (b : Bool) {v : Value} → Told x (flag_in v) → v ≡ Int (truth b) → x ≡ b
flag_read {x} true told is = told_some (subst (λ w. Told x (flag_in w)) is told)
flag_read {x} false told is = told_some (subst (λ w. Told x (flag_in w)) is told)

pub state_read : {x : BikeState} (state : BikeState) {v : Value} → Told x (state_in v) → v ≡ Int (state_number state) → x ≡ state
state_read {x} Fit told is = told_some (subst (λ w. Told x (state_in w)) is told)
state_read {x} Disabled told is = told_some (subst (λ w. Told x (state_in w)) is told)
state_read {x} Retired told is = told_some (subst (λ w. Told x (state_in w)) is told)

pub text_read : {x text : List ℕ} {v : Value} → text_in v ≡ Some x → v ≡ Text text → x ≡ text
text_read {x} told is = some_if _ (subst (λ w. text_in w ≡ Some x) is told)

-- a text of the kind, that was read of one
kept_text : (is_kind : List ℕ → Bool) {x text : List ℕ} {v : Value} → option_and_then (λ t. kept_if (is_kind t) t) (text_in v) ≡ Some x → v ≡ Text text → x ≡ text
kept_text is_kind {x} {text} told is = by (is_utf8 text) (subst (λ w. option_and_then (λ t. kept_if (is_kind t) t) (text_in w) ≡ Some x) is told)
  where
    by : (b : Bool) → option_and_then (λ t. kept_if (is_kind t) t) (if b then Some text else None) ≡ Some x → x ≡ text
    by true told = some_if (is_kind text) told
    by false told = absurd cc

pub ident_read : {x text : List ℕ} {v : Value} → ident_in v ≡ Some x → v ≡ Text text → x ≡ text
unfolding ident_of
ident_read told is = kept_text is_ident told is

pub name_read : {x text : List ℕ} {v : Value} → name_in v ≡ Some x → v ≡ Text text → x ≡ text
unfolding name_of
name_read told is = kept_text is_name told is

pub language_read : {x text : List ℕ} {v : Value} → language_in v ≡ Some x → v ≡ Text text → x ≡ text
unfolding language_of
language_read told is = kept_text is_language told is

-- ---- columns that may be NULL

pub optional_moment_read : {x : Option ℕ} (o : Option ℕ) {v : Value} → Told x (or_none moment_in v) → v ≡ or_null number_value o → x ≡ o
optional_moment_read {x} None told is = told_some (subst (λ w. Told x (or_none moment_in w)) is told)
optional_moment_read {x} (Some n) told is = told_map _ (subst (λ w. Told x (or_none moment_in w)) is told)

pub optional_number_read : (lo hi : ℕ) {x : Option ℕ} (o : Option ℕ) {v : Value} → Told x (or_none (number_in lo hi) v) → v ≡ or_null number_value o → x ≡ o
optional_number_read lo hi {x} None told is = told_some (subst (λ w. Told x (or_none (number_in lo hi) w)) is told)
optional_number_read lo hi {x} (Some n) told is = told_map _ (subst (λ w. Told x (or_none (number_in lo hi) w)) is told)

pub optional_whole_read : {x : Option ℤ} (o : Option ℤ) {v : Value} → Told x (or_none whole_in v) → v ≡ or_null Int o → x ≡ o
optional_whole_read {x} None told is = told_some (subst (λ w. Told x (or_none whole_in w)) is told)
optional_whole_read {x} (Some z) told is = told_some (subst (λ w. Told x (or_none whole_in w)) is told)

pub optional_ident_read : {x : Option (List ℕ)} (o : Option (List ℕ)) {v : Value} → or_none ident_in v ≡ Some x → v ≡ or_null Text o → x ≡ o
optional_ident_read {x} None told is = let e = subst (λ w. or_none ident_in w ≡ Some x) is told in cc
optional_ident_read {x} (Some text) told is = by (ident_in (Text text)) refl (subst (λ w. or_none ident_in w ≡ Some x) is told)
  where
    by : (read : Option (List ℕ)) → ident_in (Text text) ≡ read → option_map Some read ≡ Some x → x ≡ Some text
    by None read told = absurd cc
    by (Some y) read told = let same : y ≡ text = ident_read read refl in cc
