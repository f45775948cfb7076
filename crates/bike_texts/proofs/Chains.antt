-- Reading a chain of fields: what is read is spelled by the parts, and what the parts spell is read.
use Rattle.std.proofs.Common.{◌≡◌, ℕ, ℤ, pos, negsuc, neg_ℤ, ◌≤ℤ◌, ◌≤◌, ◌<◌, ◌^◌, List, [], ◌∷◌, ◌++◌, ◌&&◌, Bool, true, false, cond, leb, FitsSigned, Option, Some, None, refl, sym, ap, ◌∙◌, subst}
use Rattle.std.proofs.Common.{lit<, arith, append_assoc, codes}
use Rattle.std.specs.Prelude.{int_le}
use Rattle.std.specs.Int.{w64}
use Rattle.std.specs.Str.{bytes_eq}
use Rattle.std.proofs.lemmas.Bool.{le-leb, eqb-true}
use Rattle.std.proofs.lemmas.Bool.Decides.{nat_tests}
use Rattle.std.proofs.lemmas.Int.{ints}
use Rattle.std.proofs.lemmas.List.{append-nil}
use Rattle.std.proofs.lemmas.Option.{option_and_then_some, cond_some, same_Some}
use Rattle.std.proofs.lemmas.Slice.Eq.{bytes_eq-Decides}
use Rattle.bike_fixed.specs.Whole.{number_of, signed_of}
use Rattle.bike_fixed.specs.Coordinate.{IsMicro, micro_of}
use Rattle.bike_fixed.proofs.Numbers.{number_sound, number_full, signed_sound, signed_full}
use Rattle.bike_fixed.proofs.Coordinates.{micro_sound, micro_full}
use Rattle.bike_fields.specs.Bytes.{is_ident, is_language, is_currency, ident_of, language_of, currency_of}
use Rattle.bike_fields.proofs.Callers.{ident_sound, ident_full}
use Rattle.bike_fields.proofs.Lengths.{both_hold}
use Rattle.bike_fields.specs.Values.{IsRange, is_range}
use Rattle.bike_fields.specs.Vehicle.{form_of, form_text, propulsion_of, propulsion_text}
use Rattle.bike_fields.specs.declared.vehicle.Form.{Form}
use Rattle.bike_fields.specs.declared.vehicle.Form.TheVariants.{Bicycle, CargoBicycle}
use Rattle.bike_fields.specs.declared.vehicle.Propulsion.{Propulsion}
use Rattle.bike_fields.specs.declared.vehicle.Propulsion.TheVariants.{Human, ElectricAssist}
use Rattle.bike_fields.specs.NameKinds.{kind_of, kind_text}
use Rattle.bike_fields.specs.declared.name_kind.NameKind.{NameKind}
use Rattle.bike_fields.specs.declared.name_kind.NameKind.TheVariants as kind
use Rattle.bike_fields.proofs.NameKinds.{kind_sound, kind_full}
use Rattle.bike_fields.proofs.Vehicles.{form_sound, form_full, propulsion_sound, propulsion_full}
use Rattle.bike_texts.specs.declared.ends.OrderEnd.{OrderEnd}
use Rattle.bike_texts.specs.declared.ends.OrderEnd.TheVariants.{Depot, Station}
use Rattle.bike_texts.specs.declared.ends.Side.{Side}
use Rattle.bike_texts.specs.declared.ends.Side.TheVariants.{From, To}
use Rattle.bike_texts.specs.Parts.{Parts}
use Rattle.bike_texts.specs.Fields.{Field, Number, Signed, Fixed, Id, Language, Currency, Name, Ascii, Degrees, Metres, Segments, End, IsEnd, end_text, IsGood, Spells, HasNoTab, Choice, IdOrNone}
use Rattle.bike_texts.specs.Fields.{side_text}
use Rattle.bike_texts.specs.Reading.{◌>>=◌, field_at, no_more, exactly, degrees_of, metres_of, choice_of, side_of, end_of, ident_or_none_of}
use Rattle.bike_texts.specs.Escapes.{name_at, ascii_at}
use Rattle.bike_texts.specs.SegmentReading.{segments_of}
use Rattle.bike_texts.proofs.SegmentLaws.{segments_sound, segments_full}
use Rattle.bike_texts.proofs.EscapeLaws.{name_sound, name_full, ascii_sound, ascii_full}
use Rattle.bike_texts.proofs.TabFree.{AreRead}

-- one arm of a choice by a word
pub pick : {B P : Type 0} {word w : List ℕ} {x y : Option B} {value : B} → cond (bytes_eq word w) x y ≡ Some value → (word ≡ w → x ≡ Some value → P) → (y ≡ Some value → P) → P
pick {P = P} {word = word} {w = w} {x = x} {y = y} {value = value} e when others = go (bytes_eq word w) refl where
  go : (b : Bool) → bytes_eq word w ≡ b → P
  go true i = when ((bytes_eq-Decides word w).0 i) (sym (ap (λ b. cond b x y) i) ∙ e)
  go false i = others (sym (ap (λ b. cond b x y) i) ∙ e)

-- the reader gives exactly the values of the fields that a text spells
pub record IsReader {A : Type 0} (read : List ℕ → Option A) (field : A → Field) : Type 0 where
  pub sound : (text : List ℕ) (a : A) → read text ≡ Some a → Spells (field a) text × IsGood (field a)
  pub full : (text : List ℕ) (a : A) → Spells (field a) text → IsGood (field a) → read text ≡ Some a

pub number_reader : (least greatest : ℕ) → greatest < 2 ^ 64 → IsReader (number_of least greatest) (Number least greatest)
number_reader least greatest small = record {
  sound = λ text n e. let s = number_sound least greatest text n e in (s.spelled, (s.low_le, s.le_high, small));
  full = λ text n e g. number_full least greatest text n (omega (arith, small)) (record { low_le = g.0; le_high = g.1; spelled = e });
}

word_sound : (word : List ℕ) → HasNoTab word → (text : List ℕ) (u : Unit {0}) → exactly word text ≡ Some u → (text ≡ word) × HasNoTab word
unfolding exactly
word_sound word free text u e = ((bytes_eq-Decides text word).0 (cond_some (bytes_eq text word) tt u e).0, free)

word_full : (word text : List ℕ) (u : Unit {0}) → text ≡ word → exactly word text ≡ Some u
unfolding exactly
word_full word text u e = let same : bytes_eq text word ≡ true = (bytes_eq-Decides text word).1 e in rw same refl

pub word_reader : (word : List ℕ) → HasNoTab word → IsReader (exactly word) (λ _. Fixed word)
word_reader word free = record { sound = word_sound word free; full = λ text u e g. word_full word text u e }

-- ---- numbers

fits_i64 : (z : ℤ) → neg_ℤ (pos 9223372036854775808) ≤ℤ z → z ≤ℤ pos 9223372036854775807 → FitsSigned w64 z
fits_i64 (pos n) low high = record { sfits = omega (arith, ints, high) }
fits_i64 (negsuc n) low high = record { sfits = omega (arith, ints, low) }

pub signed_reader : (least greatest : ℤ) → neg_ℤ (pos 9223372036854775808) ≤ℤ least → greatest ≤ℤ pos 9223372036854775807 → IsReader (signed_of least greatest) (Signed least greatest)
signed_reader least greatest low high = record {
  sound = λ text z e. let s = signed_sound least greatest text z e in (s.spelled, (s.low_le, s.le_high, low, high));
  full = λ text z e g. signed_full least greatest text z (fits_i64 z (omega (arith, ints, low, g.0)) (omega (arith, ints, high, g.1))) (record { low_le = g.0; le_high = g.1; spelled = e });
}

le_test : (a b : ℤ) → int_le a b ≡ true → a ≤ℤ b
le_test a b h = grind (arith, ints)

le_tested : (a b : ℤ) → a ≤ℤ b → int_le a b ≡ true
le_tested a b h = grind (arith, ints)

degrees_sound : (greatest : ℕ) → greatest ≤ 180000000 → (text : List ℕ) (z : ℤ) → degrees_of greatest text ≡ Some z → Spells (Degrees greatest z) text × IsGood (Degrees greatest z)
unfolding degrees_of
degrees_sound greatest small text z e =
    option_and_then_some (λ y. cond (int_le (neg_ℤ (pos greatest)) y && int_le y (pos greatest)) (Some y) None) (micro_of text) z e (λ y read tested.
    let t = cond_some (int_le (neg_ℤ (pos greatest)) y && int_le y (pos greatest)) y z tested in
    let b = both_hold (int_le (neg_ℤ (pos greatest)) y) (int_le y (pos greatest)) t.0 in
    subst (λ (x : ℤ). Spells (Degrees greatest x) text × IsGood (Degrees greatest x)) t.1 ((micro_sound text y read).0, (le_test _ _ b.0, le_test _ _ b.1, small)))

degrees_full : (greatest : ℕ) (text : List ℕ) (z : ℤ) → Spells (Degrees greatest z) text → IsGood (Degrees greatest z) → degrees_of greatest text ≡ Some z
unfolding degrees_of
degrees_full greatest text z e g =
    let micro : IsMicro z = (omega (arith, ints, g.0, g.2), omega (arith, ints, g.1, g.2)) in
    rw (micro_full text z e micro, le_tested (neg_ℤ (pos greatest)) z g.0, le_tested z (pos greatest) g.1) refl

pub degrees_reader : (greatest : ℕ) → greatest ≤ 180000000 → IsReader (degrees_of greatest) (Degrees greatest)
degrees_reader greatest small = record { sound = degrees_sound greatest small; full = degrees_full greatest }

range_test : (propulsion : Propulsion) (n : ℕ) → is_range propulsion n ≡ true → IsRange propulsion n
range_test Human n h = eqb-true n 0 h
range_test ElectricAssist n h =
    let b = both_hold (leb 1 n) (leb n 1000000) h in
    (grind (arith, nat_tests, b.0), grind (arith, nat_tests, b.1))

range_tested : (propulsion : Propulsion) (n : ℕ) → IsRange propulsion n → is_range propulsion n ≡ true
range_tested Human n h = rw h refl
range_tested ElectricAssist n h = rw (le-leb _ _ h.0, le-leb _ _ h.1) refl

range_small : (propulsion : Propulsion) (n : ℕ) → IsRange propulsion n → n ≤ 1000000
range_small Human n h = omega (arith, h)
range_small ElectricAssist n h = h.1

metres_sound : (propulsion : Propulsion) (text : List ℕ) (n : ℕ) → metres_of propulsion text ≡ Some n → Spells (Metres propulsion n) text × IsGood (Metres propulsion n)
unfolding metres_of
metres_sound propulsion text n e =
    option_and_then_some (λ m. cond (is_range propulsion m) (Some m) None) (number_of 0 1000000 text) n e (λ m read tested.
    let t = cond_some (is_range propulsion m) m n tested in
    let s = number_sound 0 1000000 text m read in
    subst (λ (k : ℕ). Spells (Metres propulsion k) text × IsGood (Metres propulsion k)) t.1 (s.spelled, range_test propulsion m t.0))

metres_full : (propulsion : Propulsion) (text : List ℕ) (n : ℕ) → Spells (Metres propulsion n) text → IsGood (Metres propulsion n) → metres_of propulsion text ≡ Some n
unfolding metres_of
metres_full propulsion text n e g =
    let small = range_small propulsion n g in
    rw (number_full 0 1000000 text n (lit< tt) (record { low_le = omega arith; le_high = small; spelled = e }), range_tested propulsion n g) refl

pub metres_reader : (propulsion : Propulsion) → IsReader (metres_of propulsion) (Metres propulsion)
metres_reader propulsion = record { sound = metres_sound propulsion; full = metres_full propulsion }

-- ---- texts that stand as they are

pub ident_reader : IsReader ident_of Id
ident_reader = record { sound = λ text i e. ident_sound text i e; full = λ text i e g. ap ident_of e ∙ ident_full i g }

language_sound : (text l : List ℕ) → language_of text ≡ Some l → (text ≡ l) × (is_language l ≡ true)
unfolding language_of
language_sound text l e = let s = cond_some (is_language text) text l e in (s.1, subst (λ (t : List ℕ). is_language t ≡ true) s.1 s.0)

language_full : (l : List ℕ) → is_language l ≡ true → language_of l ≡ Some l
unfolding language_of
language_full l h = rw h refl

pub language_reader : IsReader language_of Language
language_reader = record { sound = λ text l e. language_sound text l e; full = λ text l e g. ap language_of e ∙ language_full l g }

currency_sound : (text c : List ℕ) → currency_of text ≡ Some c → (text ≡ c) × (is_currency c ≡ true)
unfolding currency_of
currency_sound text c e = let s = cond_some (is_currency text) text c e in (s.1, subst (λ (t : List ℕ). is_currency t ≡ true) s.1 s.0)

currency_full : (c : List ℕ) → is_currency c ≡ true → currency_of c ≡ Some c
unfolding currency_of
currency_full c h = rw h refl

pub currency_reader : IsReader currency_of Currency
currency_reader = record { sound = λ text c e. currency_sound text c e; full = λ text c e g. ap currency_of e ∙ currency_full c g }

-- ---- texts with escapes

pub name_reader : IsReader name_at Name
name_reader = record { sound = name_sound; full = λ text a e g. ap name_at e ∙ name_full a g }

pub ascii_reader : IsReader ascii_at Ascii
ascii_reader = record { sound = ascii_sound; full = λ text a e g. ap ascii_at e ∙ ascii_full a g }

-- ---- words

choice_sound : (word other : List ℕ) → HasNoTab word → HasNoTab other → (text : List ℕ) (b : Bool) → choice_of word other text ≡ Some b
    → Spells (Choice word other b) text × IsGood (Choice word other b)
unfolding choice_of
choice_sound word other free others text b e =
    pick e (λ is e. subst (λ (x : Bool). Spells (Choice word other x) text × IsGood (Choice word other x)) (same_Some true b e) (is, free)) (λ e.
    pick e (λ is e. subst (λ (x : Bool). Spells (Choice word other x) text × IsGood (Choice word other x)) (same_Some false b e) (is, others)) (λ e. absurd cc))

choice_full : (word other : List ℕ) → bytes_eq other word ≡ false → (text : List ℕ) (b : Bool) → Spells (Choice word other b) text → choice_of word other text ≡ Some b
unfolding choice_of
choice_full word other apart text true e = let same : bytes_eq text word ≡ true = (bytes_eq-Decides text word).1 e in rw same refl
choice_full word other apart text false e =
    let same : bytes_eq other other ≡ true = (bytes_eq-Decides other other).1 refl in
    ap (choice_of word other) e ∙ rw (apart, same) refl

-- two words that aren't the same
pub choice_reader : (word other : List ℕ) → HasNoTab word → HasNoTab other → bytes_eq other word ≡ false → IsReader (choice_of word other) (Choice word other)
choice_reader word other free others apart = record { sound = choice_sound word other free others; full = λ text b e g. choice_full word other apart text b e }

form_no_tab : (form : Form) → HasNoTab (form_text form)
form_no_tab Bicycle = refl
form_no_tab CargoBicycle = refl

pub form_reader : IsReader form_of (λ form. Fixed (form_text form))
form_reader = record { sound = λ text form e. (form_sound text form e, form_no_tab form); full = λ text form e g. ap form_of e ∙ form_full form }

propulsion_no_tab : (propulsion : Propulsion) → HasNoTab (propulsion_text propulsion)
propulsion_no_tab Human = refl
propulsion_no_tab ElectricAssist = refl

pub propulsion_reader : IsReader propulsion_of (λ propulsion. Fixed (propulsion_text propulsion))
propulsion_reader =
    record { sound = λ text propulsion e. (propulsion_sound text propulsion e, propulsion_no_tab propulsion); full = λ text propulsion e g. ap propulsion_of e ∙ propulsion_full propulsion }

kind_no_tab : (kind : NameKind) → HasNoTab (kind_text kind)
kind_no_tab kind.System = refl
kind_no_tab kind.Station = refl
kind_no_tab kind.«Type» = refl
kind_no_tab kind.Plan = refl
kind_no_tab kind.Description = refl
kind_no_tab kind.Region = refl

pub kind_reader : IsReader kind_of (λ kind. Fixed (kind_text kind))
kind_reader = record { sound = λ text kind e. (kind_sound text kind e, kind_no_tab kind); full = λ text kind e g. ap kind_of e ∙ kind_full kind }

abbrev IsSide : List ℕ → Side → Type 0
IsSide text side = (text ≡ side_text side) × HasNoTab (side_text side)

side_sound : (text : List ℕ) (side : Side) → side_of text ≡ Some side → IsSide text side
unfolding side_of
side_sound text side e =
    pick e (λ is e. subst (λ (s : Side). IsSide text s) (same_Some From side e) (is, refl)) (λ e.
    pick e (λ is e. subst (λ (s : Side). IsSide text s) (same_Some To side e) (is, refl)) (λ e. absurd cc))

side_full : (side : Side) → side_of (side_text side) ≡ Some side
unfolding side_of
side_full From = refl
side_full To = refl

pub side_reader : IsReader side_of (λ side. Fixed (side_text side))
side_reader = record { sound = side_sound; full = λ text side e g. ap side_of e ∙ side_full side }

-- ---- ends of orders

not_star : (bs : List ℕ) → is_ident bs ≡ true → bytes_eq bs (codes "*") ≡ false
not_star bs g = go (bytes_eq bs (codes "*")) refl where
  go : (b : Bool) → bytes_eq bs (codes "*") ≡ b → bytes_eq bs (codes "*") ≡ false
  go false i = i
  go true i = let f : is_ident bs ≡ false = ap is_ident ((bytes_eq-Decides bs (codes "*")).0 i) in absurd cc

end_sound : (text : List ℕ) (end : OrderEnd) → end_of text ≡ Some end → Spells (End end) text × IsGood (End end)
unfolding end_of
end_sound text end e =
    pick e (λ is e. subst (λ (x : OrderEnd). Spells (End x) text × IsGood (End x)) (same_Some Depot end e) (is, tt)) (λ e.
    option_and_then_some (λ i. Some (Station i)) (ident_of text) end e (λ i read made.
    subst (λ (x : OrderEnd). Spells (End x) text × IsGood (End x)) (same_Some (Station i) end made) (ident_sound text i read)))

end_full : (end : OrderEnd) → IsEnd end → end_of (end_text end) ≡ Some end
unfolding end_of
end_full Depot g = refl
end_full (Station station) g = rw (not_star station g, ident_full station g) refl

pub end_reader : IsReader end_of End
end_reader = record { sound = end_sound; full = λ text end e g. ap end_of e ∙ end_full end g }

-- ---- identifiers, or none

ident_or_none_sound : (text : List ℕ) (id : Option (List ℕ)) → ident_or_none_of text ≡ Some id → Spells (IdOrNone id) text × IsGood (IdOrNone id)
unfolding ident_or_none_of
ident_or_none_sound text id e =
    pick e (λ is e. subst (λ (x : Option (List ℕ)). Spells (IdOrNone x) text × IsGood (IdOrNone x)) (same_Some None id e) (is, refl)) (λ e.
    option_and_then_some (λ i. Some (Some i)) (ident_of text) id e (λ i read made.
    subst (λ (x : Option (List ℕ)). Spells (IdOrNone x) text × IsGood (IdOrNone x)) (same_Some (Some i) id made) (ident_sound text i read)))

ident_or_none_full : (text : List ℕ) (id : Option (List ℕ)) → Spells (IdOrNone id) text → IsGood (IdOrNone id) → ident_or_none_of text ≡ Some id
unfolding ident_or_none_of
ident_or_none_full text None e g = rw e refl
ident_or_none_full text (Some id) e g = rw (e, not_star id g, ident_full id g) refl

pub ident_or_none_reader : IsReader ident_or_none_of IdOrNone
ident_or_none_reader = record { sound = ident_or_none_sound; full = ident_or_none_full }

-- ---- segments

pub segments_reader : IsReader segments_of Segments
segments_reader = record { sound = segments_sound; full = λ text ss e g. ap segments_of e ∙ segments_full ss g.0 g.1 }

-- ---- chains

-- Values of a type B that stand in a text as a word and fields.
module _ {B : Type 0} (word_of : B → List ℕ) (fields_of : B → List Field) where
  -- what is still to be read of a value whose first fields are known
  pub record Rest (word : List ℕ) (value : B) (front : List Field) (ps : Parts) : Type 0 where
    pub word_is : word ≡ word_of value
    pub fields : List Field
    pub whole : fields_of value ≡ front ++ fields
    pub read : AreRead fields ps

module _ {B : Type 0} {word_of : B → List ℕ} {fields_of : B → List Field} where
  -- one field was read
  pub takes : {A : Type 0} {read : List ℕ → Option A} {field : A → Field} {word : List ℕ} {front : List Field} {value : B} (next : A × Parts → Option B) (ps : Parts)
      → IsReader read field → (field_at read ps >>= next) ≡ Some value
      → ((a : A) (rest : Parts) → next (a, rest) ≡ Some value → Rest word_of fields_of word value (front ++ field a ∷ []) rest) → Rest word_of fields_of word value front ps
  takes next [] reader e k = absurd cc
  takes {A} {read} {field} {word} {front} {value} next (p ∷ ps) reader e k =
      option_and_then_some next (read p >>= λ a. Some (a, ps)) value e (λ x first second.
      option_and_then_some (λ a. Some (a, ps)) (read p) x first (λ a r s.
      let here : next (a, ps) ≡ Some value = ap next (same_Some (a, ps) x s) ∙ second in
      let got = reader.sound p a r in
      let t = k a ps here in
      record {
        word_is = t.word_is;
        fields = field a ∷ t.fields;
        whole = t.whole ∙ append_assoc front (field a ∷ []) t.fields;
        read = record { each = (got.0, t.read.each); good = (got.1, t.read.good) };
      }))

  -- all fields were read
  pub ends : {word : List ℕ} {front : List Field} {value : B} (made : B) (ps : Parts) → word ≡ word_of made → fields_of made ≡ front → (no_more ps >>= λ u. Some made) ≡ Some value
      → Rest word_of fields_of word value front ps
  ends {front = front} {value = value} made [] w f e =
      record {
        word_is = w ∙ ap word_of (same_Some made value e);
        fields = [];
        whole = ap fields_of (sym (same_Some made value e)) ∙ f ∙ sym (append-nil front);
        read = record { each = tt; good = tt };
      }
  ends made (p ∷ ps) w f e = absurd cc

-- a part that spells the next field is read
pub gives : {A B : Type 0} {read : List ℕ → Option A} {field : A → Field} {fs : List Field} {value : B} (next : A × Parts → Option B) (a : A) (ps : Parts)
    → IsReader read field → AreRead (field a ∷ fs) ps
    → ((rest : Parts) → AreRead fs rest → next (a, rest) ≡ Some value) → (field_at read ps >>= next) ≡ Some value
gives next a [] reader e k = absurd e.each
gives next a (p ∷ ps) reader e k = rw (reader.full p a e.each.0 e.good.0) (k ps (record { each = e.each.1; good = e.good.1 }))

pub given_all : {B : Type 0} {value : B} (ps : Parts) → AreRead [] ps → (no_more ps >>= λ u. Some value) ≡ Some value
given_all [] e = refl
given_all (p ∷ ps) e = absurd e.each
