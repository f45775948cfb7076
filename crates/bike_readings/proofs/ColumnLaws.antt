-- Columns are read both ways: what is read of a value is what the value was made of, and what was written is read.
use Rattle.std.proofs.Common.{◌≡◌, ℕ, ℤ, pos, negsuc, ◌≤◌, ◌<◌, ◌≤ℤ◌, List, [], ◌∷◌, zero, suc, Bool, true, false, ◌&&◌, ◌||◌, cond, leb, eqb, Option, Some, None, refl, sym, ap, ◌∙◌, subst, arith}
use Rattle.std.proofs.Common.{rules, codes}
use Rattle.std.specs.Prelude.{option_map, option_and_then, int_le}
use Rattle.std.specs.Ordering.{int_eq}
use Rattle.std.specs.List.{list_all}
use Rattle.std.specs.Str.{is_utf8, IsAscii, bytes_eq}
use Rattle.std.proofs.lemmas.Bool.{le-leb, eqb-true}
use Rattle.std.proofs.lemmas.Bool.Decides.{nat_tests, Decides-int_eq}
use Rattle.std.proofs.lemmas.Int.{ints}
use Rattle.std.proofs.lemmas.Option.{option_and_then_some, cond_some, same_Some}
use Rattle.std.proofs.lemmas.Slice.Eq.{bytes_eq-Decides}
use Rattle.std.proofs.lemmas.Str.{IsUtf8-from_ascii, is_utf8-from_IsUtf8}
use Rattle.sqlite_value.specs.declared.value.Value.{Value}
use Rattle.sqlite_value.specs.declared.value.Value.TheVariants.{Null, Int, Real, Text, Blob}
use Rattle.sqlite.specs.Values.{or_null}
use Rattle.sqlite_sql.specs.Ops.{is_null}
use Rattle.bike_fields.specs.Bytes.{is_lower, is_upper, is_digit, is_ident_byte, is_key_byte, is_language_byte, is_printable, is_name_byte, has_length, is_ident, is_key, is_language, is_currency}
use Rattle.bike_fields.specs.Bytes.{is_ascii_field, is_name, key_of, ascii_of, name_of}
use Rattle.bike_fields.proofs.Lengths.{both_hold}
use Rattle.bike_fields.proofs.Callers.{ident_sound, ident_full}
use Rattle.bike_fields.specs.declared.vehicle.Form.{Form}
use Rattle.bike_fields.specs.declared.vehicle.Form.TheVariants.{Bicycle, CargoBicycle}
use Rattle.bike_fields.specs.declared.vehicle.Propulsion.{Propulsion}
use Rattle.bike_fields.specs.declared.vehicle.Propulsion.TheVariants.{Human, ElectricAssist}
use Rattle.bike_fields.specs.declared.name_kind.NameKind.{NameKind}
use Rattle.bike_fields.specs.declared.name_kind.NameKind.TheVariants as named
use Rattle.bike_fields.specs.NameKinds.{kind_text as named_text}
use Rattle.bike_fields.specs.Vehicle.{form_text, propulsion_text}
use Rattle.bike_fields.proofs.NameKinds.{kind_sound as named_sound, kind_full as named_full}
use Rattle.bike_fields.proofs.Vehicles.{form_sound, form_full, propulsion_sound, propulsion_full}
use Rattle.bike_ledger.specs.declared.entry.EntryKind.{EntryKind}
use Rattle.bike_ledger.specs.declared.entry.EntryKind.TheVariants.{TopUp, Fare, Refund, Withdrawal, Charge, Credit}
use Rattle.bike_texts.specs.declared.ends.OrderEnd.{OrderEnd}
use Rattle.bike_texts.specs.declared.ends.OrderEnd.TheVariants as end
use Rattle.bike_texts.specs.Fields.{IsEnd, end_text as field_end}
use Rattle.bike_texts.specs.Reading.{end_of}
use Rattle.bike_texts.proofs.Chains.{language_reader, currency_reader, end_reader}
use Rattle.bike_operator.specs.declared.records.BikeState.{BikeState}
use Rattle.bike_operator.specs.declared.records.BikeState.TheVariants.{Fit, Disabled, Retired}
use Rattle.bike_book.specs.Rows.{number_value, truth, state_number, kind_number, end_text}
use Rattle.bike_schema.specs.Columns.{number_of, flag_of, state_of, whole_in, text_in, number_in, moment_in, flag_in, state_in, ident_in, name_in, or_none, request_count_in}
use Rattle.bike_book.specs.Numbers.{count_of}
use Rattle.bike_readings.specs.ColumnReaders.{language_in, currency_in, ascii_in, key_in, form_in, propulsion_in, named_kind_in, end_in, word_in, signed_in, kind_of, kind_in}
use Rattle.bike_readings.specs.Bounds.{IsWithin, IsMoment, IsIdentOrNone}

-- The reader gives exactly the values within their bounds from which columns are made.
pub record IsColumn {A : Type 0} (read : Value → Option A) (write : A → Value) (Good : A → Type 0) : Type 0 where
  pub sound : (v : Value) (a : A) → read v ≡ Some a → (v ≡ write a) × Good a
  pub full : (a : A) → Good a → read (write a) ≡ Some a

abbrev pub Any : {A : Type 0} → A → Type 0
Any a = Unit {0}

-- ---- numbers

whole_sound : (v : Value) (z : ℤ) → whole_in v ≡ Some z → (v ≡ Int z) × Unit {0}
whole_sound Null z e = absurd cc
whole_sound (Int n) z e = (ap Int (same_Some n z e), tt)
whole_sound (Real x) z e = absurd cc
whole_sound (Text t) z e = absurd cc
whole_sound (Blob b) z e = absurd cc

pub whole_column : IsColumn whole_in Int Any
whole_column = record { sound = whole_sound; full = λ z g. refl }

-- what is read of whole numbers
of_whole : {A : Type 0} (read : ℤ → Option A) (write : A → ℤ) (Good : A → Type 0) → ((z : ℤ) (a : A) → read z ≡ Some a → (z ≡ write a) × Good a) → ((a : A) → Good a → read (write a) ≡ Some a)
    → IsColumn (λ v. option_and_then read (whole_in v)) (λ a. Int (write a)) Good
of_whole read write Good sound full = record {
  sound = λ v a e. option_and_then_some read (whole_in v) a e (λ z r s. let k = sound z a s in ((whole_sound v z r).0 ∙ ap Int k.0, k.1));
  full = full;
}

number_sound : (lo hi : ℕ) (z : ℤ) (n : ℕ) → number_of lo hi z ≡ Some n → (z ≡ pos n) × IsWithin lo hi n
number_sound lo hi (pos m) n e =
    let t = cond_some (leb lo m && leb m hi) m n e in
    let b = both_hold (leb lo m) (leb m hi) t.0 in
    (ap pos t.1, subst (IsWithin lo hi) t.1 (grind (arith, nat_tests, b.0), grind (arith, nat_tests, b.1)))
number_sound lo hi (negsuc m) n e = absurd cc

number_full : (lo hi n : ℕ) → IsWithin lo hi n → number_of lo hi (pos n) ≡ Some n
number_full lo hi n g = rw (le-leb _ _ g.0, le-leb _ _ g.1) refl

pub number_column : (lo hi : ℕ) → IsColumn (number_in lo hi) number_value (IsWithin lo hi)
number_column lo hi = of_whole (number_of lo hi) pos (IsWithin lo hi) (number_sound lo hi) (number_full lo hi)

pub moment_column : IsColumn moment_in number_value IsMoment
moment_column = record { sound = λ v n e. let s = (number_column 0 _).sound v n e in (s.0, s.1.1); full = λ n g. (number_column 0 _).full n (omega arith, g) }

count_sound : (z : ℤ) (n : ℕ) → count_of z ≡ Some n → (z ≡ pos n) × Unit {0}
count_sound (pos m) n e = (ap pos (same_Some m n e), tt)
count_sound (negsuc m) n e = absurd cc

pub request_count_column : IsColumn request_count_in number_value Any
request_count_column = of_whole count_of pos Any count_sound (λ n g. refl)

abbrev pub IsBetween : ℤ → ℤ → ℤ → Type 0
IsBetween lo hi z = (lo ≤ℤ z) × (z ≤ℤ hi)

le_test : (a b : ℤ) → int_le a b ≡ true → a ≤ℤ b
le_test a b h = grind (arith, ints)

le_tested : (a b : ℤ) → a ≤ℤ b → int_le a b ≡ true
le_tested a b h = grind (arith, ints)

pub signed_column : (lo hi : ℤ) → IsColumn (signed_in lo hi) Int (IsBetween lo hi)
signed_column lo hi = of_whole (λ z. cond (int_le lo z && int_le z hi) (Some z) None) (λ z. z) (IsBetween lo hi)
    (λ z a e. let t = cond_some (int_le lo z && int_le z hi) z a e in
    let b = both_hold (int_le lo z) (int_le z hi) t.0 in
    (t.1, subst (IsBetween lo hi) t.1 (le_test lo z b.0, le_test z hi b.1)))
    (λ z g. rw (le_tested lo z g.0, le_tested z hi g.1) refl)

-- one arm of a choice by a number
pick : {A P : Type 0} {z k : ℤ} {x y : Option A} {a : A} → cond (int_eq z k) x y ≡ Some a → (z ≡ k → x ≡ Some a → P) → (y ≡ Some a → P) → P
pick {P = P} {z = z} {k = k} {x = x} {y = y} {a = a} e when others = go (int_eq z k) refl where
  go : (b : Bool) → int_eq z k ≡ b → P
  go true i = when ((Decides-int_eq z k).0 i) (sym (ap (λ b. cond b x y) i) ∙ e)
  go false i = others (sym (ap (λ b. cond b x y) i) ∙ e)

flag_sound : (z : ℤ) (b : Bool) → flag_of z ≡ Some b → (z ≡ truth b) × Any b
flag_sound z b e =
    pick e (λ is e. (is ∙ ap truth (same_Some false b e), tt)) (λ e.
    pick e (λ is e. (is ∙ ap truth (same_Some true b e), tt)) (λ e. absurd cc))

flag_full : (b : Bool) → Any b → flag_of (truth b) ≡ Some b
flag_full true g = refl
flag_full false g = refl

pub flag_column : IsColumn flag_in (λ b. Int (truth b)) Any
flag_column = of_whole flag_of truth Any flag_sound flag_full

state_sound : (z : ℤ) (state : BikeState) → state_of z ≡ Some state → (z ≡ state_number state) × Any state
state_sound z state e =
    pick e (λ is e. (is ∙ ap state_number (same_Some Fit state e), tt)) (λ e.
    pick e (λ is e. (is ∙ ap state_number (same_Some Disabled state e), tt)) (λ e.
    pick e (λ is e. (is ∙ ap state_number (same_Some Retired state e), tt)) (λ e. absurd cc)))

state_full : (state : BikeState) → Any state → state_of (state_number state) ≡ Some state
state_full Fit g = refl
state_full Disabled g = refl
state_full Retired g = refl

pub state_column : IsColumn state_in (λ state. Int (state_number state)) Any
state_column = of_whole state_of state_number Any state_sound state_full

kind_sound : (z : ℤ) (kind : EntryKind) → kind_of z ≡ Some kind → (z ≡ kind_number kind) × Any kind
kind_sound z kind e =
    pick e (λ is e. (is ∙ ap kind_number (same_Some TopUp kind e), tt)) (λ e.
    pick e (λ is e. (is ∙ ap kind_number (same_Some Fare kind e), tt)) (λ e.
    pick e (λ is e. (is ∙ ap kind_number (same_Some Refund kind e), tt)) (λ e.
    pick e (λ is e. (is ∙ ap kind_number (same_Some Withdrawal kind e), tt)) (λ e.
    pick e (λ is e. (is ∙ ap kind_number (same_Some Charge kind e), tt)) (λ e.
    pick e (λ is e. (is ∙ ap kind_number (same_Some Credit kind e), tt)) (λ e. absurd cc))))))

kind_full : (kind : EntryKind) → Any kind → kind_of (kind_number kind) ≡ Some kind
kind_full TopUp g = refl
kind_full Fare g = refl
kind_full Refund g = refl
kind_full Withdrawal g = refl
kind_full Charge g = refl
kind_full Credit g = refl

pub kind_column : IsColumn kind_in (λ kind. Int (kind_number kind)) Any
kind_column = of_whole kind_of kind_number Any kind_sound kind_full

-- ---- texts

text_sound : (v : Value) (text : List ℕ) → text_in v ≡ Some text → v ≡ Text text
text_sound Null text e = absurd cc
text_sound (Int n) text e = absurd cc
text_sound (Real x) text e = absurd cc
text_sound (Text t) text e = ap Text (cond_some (is_utf8 t) t text e).1
text_sound (Blob b) text e = absurd cc

pub text_column : IsColumn text_in Text (λ text. is_utf8 text ≡ true)
text_column = record { sound = sound; full = λ text g. rw g refl }
  where
    sound : (v : Value) (text : List ℕ) → text_in v ≡ Some text → (v ≡ Text text) × (is_utf8 text ≡ true)
    sound v text e = let is = text_sound v text e in (is, (cond_some (is_utf8 text) text text (sym (ap text_in is) ∙ e)).0)

-- what is read of texts
pub of_text : {A : Type 0} (read : List ℕ → Option A) (write : A → List ℕ) (Good : A → Type 0) → ((text : List ℕ) (a : A) → read text ≡ Some a → (text ≡ write a) × Good a)
    → ((a : A) → Good a → read (write a) ≡ Some a)
    → ((a : A) → Good a → is_utf8 (write a) ≡ true) → IsColumn (λ v. option_and_then read (text_in v)) (λ a. Text (write a)) Good
of_text read write Good sound full utf8 = record {
  sound = λ v a e. option_and_then_some read (text_in v) a e (λ text r s. let k = sound text a s in (text_sound v text r ∙ ap Text k.0, k.1));
  full = λ a g. rw (utf8 a g) (full a g);
}

-- bytes of a set below 128 are UTF-8
all_ascii : (is_byte : ℕ → Bool) → ((b : ℕ) → is_byte b ≡ true → b < 128) → (bs : List ℕ) → list_all is_byte bs ≡ true → IsAscii bs
all_ascii is_byte small [] h i = search rules
all_ascii is_byte small (b ∷ bs) h zero = small b (both_hold (is_byte b) (list_all is_byte bs) h).0
all_ascii is_byte small (b ∷ bs) h (suc i) = all_ascii is_byte small bs (both_hold (is_byte b) (list_all is_byte bs) h).1 i

pub ascii_utf8 : (is_byte : ℕ → Bool) → ((b : ℕ) → is_byte b ≡ true → b < 128) → (bs : List ℕ) → list_all is_byte bs ≡ true → is_utf8 bs ≡ true
ascii_utf8 is_byte small bs h = is_utf8-from_IsUtf8 bs (IsUtf8-from_ascii bs (all_ascii is_byte small bs h))

either : {P : Type 0} (a b : Bool) → (a || b) ≡ true → (a ≡ true → P) → (b ≡ true → P) → P
either true b e f g = f refl
either false b e f g = g e

up_to : (least most b : ℕ) → most < 128 → (leb least b && leb b most) ≡ true → b < 128
up_to least most b small h = let q = both_hold (leb least b) (leb b most) h in let r : b ≤ most = grind (arith, nat_tests, q.1) in omega (arith, small, r)

pub upper_small : (b : ℕ) → is_upper b ≡ true → b < 128
upper_small b h = up_to 65 90 b (omega arith) h

one_small : (b k : ℕ) → k < 128 → eqb b k ≡ true → b < 128
one_small b k small h = let e : b ≡ k = eqb-true b k h in omega (arith, small, e)

ident_small : (b : ℕ) → is_ident_byte b ≡ true → b < 128
ident_small b h =
    either (is_lower b || is_digit b || eqb b 95) (eqb b 45) h (λ h.
    either (is_lower b || is_digit b) (eqb b 95) h (λ h.
    either (is_lower b) (is_digit b) h (λ h. up_to 97 122 b (omega arith) h) (λ h. up_to 48 57 b (omega arith) h))
    (λ h. one_small b 95 (omega arith) h)) (λ h. one_small b 45 (omega arith) h)

key_small : (b : ℕ) → is_key_byte b ≡ true → b < 128
key_small b h =
    either (is_upper b || is_lower b || is_digit b || eqb b 95) (eqb b 45) h (λ h.
    either (is_upper b || is_lower b || is_digit b) (eqb b 95) h (λ h.
    either (is_upper b || is_lower b) (is_digit b) h (λ h.
    either (is_upper b) (is_lower b) h (upper_small b) (λ h. up_to 97 122 b (omega arith) h))
    (λ h. up_to 48 57 b (omega arith) h)) (λ h. one_small b 95 (omega arith) h)) (λ h. one_small b 45 (omega arith) h)

language_small : (b : ℕ) → is_language_byte b ≡ true → b < 128
language_small b h =
    either (is_upper b || is_lower b || is_digit b) (eqb b 45) h (λ h.
    either (is_upper b || is_lower b) (is_digit b) h (λ h.
    either (is_upper b) (is_lower b) h (upper_small b) (λ h. up_to 97 122 b (omega arith) h))
    (λ h. up_to 48 57 b (omega arith) h)) (λ h. one_small b 45 (omega arith) h)

pub ident_utf8 : (bs : List ℕ) → is_ident bs ≡ true → is_utf8 bs ≡ true
ident_utf8 bs h = ascii_utf8 is_ident_byte ident_small bs (both_hold (has_length 1 36 bs) (list_all is_ident_byte bs) h).1

pub language_utf8 : (bs : List ℕ) → is_language bs ≡ true → is_utf8 bs ≡ true
language_utf8 bs h = ascii_utf8 is_language_byte language_small bs (both_hold (has_length 2 35 bs) (list_all is_language_byte bs) h).1

pub currency_utf8 : (bs : List ℕ) → is_currency bs ≡ true → is_utf8 bs ≡ true
currency_utf8 bs h = ascii_utf8 is_upper upper_small bs (both_hold (has_length 3 3 bs) (list_all is_upper bs) h).1

key_utf8 : (bs : List ℕ) → is_key bs ≡ true → is_utf8 bs ≡ true
key_utf8 bs h = ascii_utf8 is_key_byte key_small bs (both_hold (has_length 1 64 bs) (list_all is_key_byte bs) h).1

pub ascii_field_utf8 : (bs : List ℕ) → is_ascii_field bs ≡ true → is_utf8 bs ≡ true
ascii_field_utf8 bs h = ascii_utf8 is_printable (λ b h. up_to 32 126 b (omega arith) h) bs (both_hold (has_length 1 200 bs) (list_all is_printable bs) h).1

pub name_utf8 : (bs : List ℕ) → is_name bs ≡ true → is_utf8 bs ≡ true
name_utf8 bs h = (both_hold (has_length 1 120 bs && list_all is_name_byte bs) (is_utf8 bs) h).1

-- a word that can be printed
pub word_utf8 : (word : List ℕ) → list_all is_printable word ≡ true → is_utf8 word ≡ true
word_utf8 word h = ascii_utf8 is_printable (λ b h. up_to 32 126 b (omega arith) h) word h

-- a text that passes a test is read as it stands
kept_sound : (test : List ℕ → Bool) (text a : List ℕ) → cond (test text) (Some text) None ≡ Some a → (text ≡ a) × (test a ≡ true)
kept_sound test text a e = let s = cond_some (test text) text a e in (s.1, subst (λ (t : List ℕ). test t ≡ true) s.1 s.0)

pub ident_column : IsColumn ident_in Text (λ bs. is_ident bs ≡ true)
ident_column = of_text _ (λ bs. bs) _ ident_sound ident_full ident_utf8

ascii_sound : (text bs : List ℕ) → ascii_of text ≡ Some bs → (text ≡ bs) × (is_ascii_field bs ≡ true)
unfolding ascii_of
ascii_sound text bs e = kept_sound is_ascii_field text bs e

ascii_full : (bs : List ℕ) → is_ascii_field bs ≡ true → ascii_of bs ≡ Some bs
unfolding ascii_of
ascii_full bs h = rw h refl

pub ascii_column : IsColumn ascii_in Text (λ bs. is_ascii_field bs ≡ true)
ascii_column = of_text _ (λ bs. bs) _ ascii_sound ascii_full ascii_field_utf8

name_sound : (text bs : List ℕ) → name_of text ≡ Some bs → (text ≡ bs) × (is_name bs ≡ true)
unfolding name_of
name_sound text bs e = kept_sound is_name text bs e

name_full : (bs : List ℕ) → is_name bs ≡ true → name_of bs ≡ Some bs
unfolding name_of
name_full bs h = rw h refl

pub name_column : IsColumn name_in Text (λ bs. is_name bs ≡ true)
name_column = of_text _ (λ bs. bs) _ name_sound name_full name_utf8

key_sound : (text bs : List ℕ) → key_of text ≡ Some bs → (text ≡ bs) × (is_key bs ≡ true)
unfolding key_of
key_sound text bs e = kept_sound is_key text bs e

key_full : (bs : List ℕ) → is_key bs ≡ true → key_of bs ≡ Some bs
unfolding key_of
key_full bs h = rw h refl

pub key_column : IsColumn key_in Text (λ bs. is_key bs ≡ true)
key_column = of_text _ (λ bs. bs) _ key_sound key_full key_utf8

pub language_column : IsColumn language_in Text (λ bs. is_language bs ≡ true)
language_column = of_text _ (λ bs. bs) _ language_reader.sound (λ bs h. language_reader.full bs bs refl h) language_utf8

pub currency_column : IsColumn currency_in Text (λ bs. is_currency bs ≡ true)
currency_column = of_text _ (λ bs. bs) _ currency_reader.sound (λ bs h. currency_reader.full bs bs refl h) currency_utf8

form_utf8 : (form : Form) → Any form → is_utf8 (form_text form) ≡ true
form_utf8 Bicycle g = word_utf8 (form_text Bicycle) refl
form_utf8 CargoBicycle g = word_utf8 (form_text CargoBicycle) refl

pub form_column : IsColumn form_in (λ form. Text (form_text form)) Any
form_column = of_text _ form_text Any (λ text form e. (form_sound text form e, tt)) (λ form g. form_full form) form_utf8

propulsion_utf8 : (propulsion : Propulsion) → Any propulsion → is_utf8 (propulsion_text propulsion) ≡ true
propulsion_utf8 Human g = word_utf8 (propulsion_text Human) refl
propulsion_utf8 ElectricAssist g = word_utf8 (propulsion_text ElectricAssist) refl

pub propulsion_column : IsColumn propulsion_in (λ propulsion. Text (propulsion_text propulsion)) Any
propulsion_column = of_text _ propulsion_text Any (λ text propulsion e. (propulsion_sound text propulsion e, tt)) (λ propulsion g. propulsion_full propulsion) propulsion_utf8

-- the word of a kind can be printed
pub named_printable : (kind : NameKind) → list_all is_printable (named_text kind) ≡ true
named_printable named.System = refl
named_printable named.Station = refl
named_printable named.Type = refl
named_printable named.Plan = refl
named_printable named.Description = refl
named_printable named.Region = refl

pub named_kind_column : IsColumn named_kind_in (λ kind. Text (named_text kind)) Any
named_kind_column = of_text _ named_text Any (λ text kind e. (named_sound text kind e, tt)) (λ kind g. named_full kind) (λ kind g. word_utf8 (named_text kind) (named_printable kind))

end_utf8 : (x : OrderEnd) → IsEnd x → is_utf8 (end_text x) ≡ true
end_utf8 end.Depot g = word_utf8 (codes "*") refl
end_utf8 (end.Station station) g = ident_utf8 station g

end_spelled : (text : List ℕ) (x : OrderEnd) → (text ≡ field_end x) × IsEnd x → (text ≡ end_text x) × IsEnd x
end_spelled text end.Depot s = s
end_spelled text (end.Station station) s = s

pub end_column : IsColumn end_in (λ x. Text (end_text x)) IsEnd
end_column = of_text _ end_text IsEnd (λ text x e. end_spelled text x (end_reader.sound text x e)) end_full end_utf8
  where
    end_full : (x : OrderEnd) → IsEnd x → end_of (end_text x) ≡ Some x
    end_full end.Depot g = end_reader.full (codes "*") end.Depot refl g
    end_full (end.Station station) g = end_reader.full station (end.Station station) refl g

pub word_column : (word : List ℕ) → is_utf8 word ≡ true → IsColumn (word_in word) Text (λ text. text ≡ word)
word_column word utf8 =
    of_text _ (λ text. text) _ (λ text a e. let s = cond_some (bytes_eq text word) text a e in (s.1, sym s.1 ∙ (bytes_eq-Decides text word).0 s.0)) full (λ text is. ap is_utf8 is ∙ utf8)
  where
    full : (text : List ℕ) → text ≡ word → cond (bytes_eq text word) (Some text) None ≡ Some text
    full text is = let same : bytes_eq text word ≡ true = (bytes_eq-Decides text word).1 is in rw same refl

-- ---- columns that may be NULL

abbrev pub IfAny : {A : Type 0} → (A → Type 0) → Option A → Type 0
IfAny Good None = Unit {0}
IfAny Good (Some a) = Good a

pub null_is : (v : Value) → is_null v ≡ true → v ≡ Null
null_is Null e = refl
null_is (Int n) e = absurd cc
null_is (Real x) e = absurd cc
null_is (Text t) e = absurd cc
null_is (Blob b) e = absurd cc

pub or_none_column : {A : Type 0} {read : Value → Option A} {write : A → Value} {Good : A → Type 0} → IsColumn read write Good → ((a : A) → is_null (write a) ≡ false)
    → IsColumn (or_none read) (or_null write) (IfAny Good)
or_none_column {A} {read} {write} {Good} column there = record { sound = sound; full = full }
  where
    some : (v : Value) (o : Option A) (a : Option A) → read v ≡ o → option_map Some o ≡ Some a → (v ≡ or_null write a) × IfAny Good a
    some v None a r e = absurd cc
    some v (Some x) a r e = subst (λ a. (v ≡ or_null write a) × IfAny Good a) (same_Some (Some x) a e) (column.sound v x r)

    sound : (v : Value) (a : Option A) → or_none read v ≡ Some a → (v ≡ or_null write a) × IfAny Good a
    sound v a e = go (is_null v) refl where
      go : (b : Bool) → is_null v ≡ b → (v ≡ or_null write a) × IfAny Good a
      go true i = subst (λ a. (v ≡ or_null write a) × IfAny Good a) (same_Some None a (sym (ap (λ b. cond b (Some None) (option_map Some (read v))) i) ∙ e)) (null_is v i, tt)
      go false i = some v (read v) a refl (sym (ap (λ b. cond b (Some None) (option_map Some (read v))) i) ∙ e)

    full : (a : Option A) → IfAny Good a → or_none read (or_null write a) ≡ Some a
    full None g = refl
    full (Some a) g = rw (there a, column.full a g) refl

pub ident_or_none_column : IsColumn (or_none ident_in) (or_null Text) IsIdentOrNone
ident_or_none_column = record { sound = λ v name e. let s = any.sound v name e in (s.0, good name s.1); full = λ name g. any.full name (held name g) }
  where
    any : IsColumn (or_none ident_in) (or_null Text) (IfAny (λ bs. is_ident bs ≡ true))
    any = or_none_column ident_column (λ bs. refl)

    good : (name : Option (List ℕ)) → IfAny (λ bs. is_ident bs ≡ true) name → IsIdentOrNone name
    good None g = tt
    good (Some id) g = g

    held : (name : Option (List ℕ)) → IsIdentOrNone name → IfAny (λ bs. is_ident bs ≡ true) name
    held None g = tt
    held (Some id) g = g
