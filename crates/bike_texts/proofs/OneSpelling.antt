-- The text that is written for a word and fields spells them, and it is their one spelling where no field is a coordinate.
use Rattle.std.proofs.Common.{◌≡◌, ℕ, List, [], ◌∷◌, ◌++◌, refl, sym, ap, ap₂, ◌∙◌, arith}
use Rattle.std.specs.Prelude.{map}
use Rattle.std.specs.List.{join_with_byte}
use Rattle.std.proofs.lemmas.Int.{ints}
use Rattle.std.proofs.lemmas.List.{append-nil}
use Rattle.bike_fixed.proofs.Spellings.{micro_text_spelled}
use Rattle.bike_texts.specs.Fields.{Field, Number, Signed, Fixed, Id, Language, Currency, Name, Ascii, Degrees, Metres, Segments, End, IsGood, AreGood, Spells, EachSpells, IsSpelled, IsAsWritten}
use Rattle.bike_texts.specs.Fields.{AreAsWritten, IsWritten, field_text, fields_text}
use Rattle.bike_texts.proofs.TabFree.{AreRead}

field_spells : (f : Field) → IsGood f → Spells f (field_text f)
field_spells (Number least greatest n) g = refl
field_spells (Signed least greatest z) g = refl
field_spells (Fixed word) g = refl
field_spells (Id bs) g = refl
field_spells (Language bs) g = refl
field_spells (Currency bs) g = refl
field_spells (Name bs) g = refl
field_spells (Ascii bs) g = refl
field_spells (Degrees greatest z) g = micro_text_spelled z (omega (arith, ints, g.0, g.2), omega (arith, ints, g.1, g.2))
field_spells (Metres propulsion n) g = refl
field_spells (Segments ss) g = refl
field_spells (End end) g = refl

each_spells : (fs : List Field) → AreGood fs → EachSpells fs (map field_text fs)
each_spells [] g = tt
each_spells (f ∷ fs) g = (field_spells f g.0, each_spells fs g.1)

joined_text : (word : List ℕ) (fs : List Field) → word ++ fields_text fs ≡ join_with_byte 9 (word ∷ map field_text fs)
unfolding fields_text
joined_text word [] = append-nil word
joined_text word (f ∷ fs) = ap (λ (t : List ℕ). word ++ 9 ∷ t) (joined_text (field_text f) fs)

-- the text of a word and fields spells them
pub spelled_text : (word : List ℕ) (fs : List Field) → AreGood fs → IsSpelled (word ++ fields_text fs) word fs
spelled_text word fs g = record { parts = map field_text fs; each = each_spells fs g; joined = joined_text word fs }

-- .. with coordinates as they are written
field_as_written : (f : Field) → IsAsWritten f (field_text f)
field_as_written (Number least greatest n) = tt
field_as_written (Signed least greatest z) = tt
field_as_written (Fixed word) = tt
field_as_written (Id bs) = tt
field_as_written (Language bs) = tt
field_as_written (Currency bs) = tt
field_as_written (Name bs) = tt
field_as_written (Ascii bs) = tt
field_as_written (Degrees greatest z) = refl
field_as_written (Metres propulsion n) = tt
field_as_written (Segments ss) = tt
field_as_written (End end) = tt

each_as_written : (fs : List Field) → AreAsWritten fs (map field_text fs)
each_as_written [] = tt
each_as_written (f ∷ fs) = (field_as_written f, each_as_written fs)

pub written_text : (word : List ℕ) (fs : List Field) → AreGood fs → IsWritten (word ++ fields_text fs) word fs
written_text word fs g = record { parts = map field_text fs; each = each_spells fs g; coordinates = each_as_written fs; joined = joined_text word fs }

-- ---- the other way

-- the field has one spelling
abbrev pub HasOneText : Field → Type 0
HasOneText (Degrees greatest z) = ⊥
HasOneText (Number least greatest n) = Unit {0}
HasOneText (Signed least greatest z) = Unit {0}
HasOneText (Fixed word) = Unit {0}
HasOneText (Id bs) = Unit {0}
HasOneText (Language bs) = Unit {0}
HasOneText (Currency bs) = Unit {0}
HasOneText (Name bs) = Unit {0}
HasOneText (Ascii bs) = Unit {0}
HasOneText (Metres propulsion n) = Unit {0}
HasOneText (Segments ss) = Unit {0}
HasOneText (End end) = Unit {0}

abbrev pub HaveOneText : List Field → Type 0
HaveOneText [] = Unit {0}
HaveOneText (f ∷ fs) = HasOneText f × HaveOneText fs

one_text : (f : Field) (p : List ℕ) → HasOneText f → Spells f p → p ≡ field_text f
one_text (Number least greatest n) p one e = e
one_text (Signed least greatest z) p one e = e
one_text (Fixed word) p one e = e
one_text (Id bs) p one e = e
one_text (Language bs) p one e = e
one_text (Currency bs) p one e = e
one_text (Name bs) p one e = e
one_text (Ascii bs) p one e = e
one_text (Degrees greatest z) p one e = absurd one
one_text (Metres propulsion n) p one e = e
one_text (Segments ss) p one e = e
one_text (End end) p one e = e

-- fields that each have one spelling have one together
pub one_spelling : (word : List ℕ) (fs : List Field) (ps : List (List ℕ)) → HaveOneText fs → AreRead fs ps → join_with_byte 9 (word ∷ ps) ≡ word ++ fields_text fs
one_spelling word fs ps one read = ap (λ (qs : List (List ℕ)). join_with_byte 9 (word ∷ qs)) (texts_of fs ps one read) ∙ sym (joined_text word fs) where
  texts_of : (fs : List Field) (ps : List (List ℕ)) → HaveOneText fs → AreRead fs ps → ps ≡ map field_text fs
  texts_of [] [] one h = refl
  texts_of [] (p ∷ ps) one h = absurd h.each
  texts_of (f ∷ fs) [] one h = absurd h.each
  texts_of (f ∷ fs) (p ∷ ps) one h = ap₂ (λ (q : List ℕ) (qs : List (List ℕ)). q ∷ qs) (one_text f p one.0 h.each.0) (texts_of fs ps one.1 (record { each = h.each.1; good = h.good.1 }))

-- ---- one spelling, with coordinates as they are written

text_as_written : (f : Field) (p : List ℕ) → Spells f p → IsAsWritten f p → p ≡ field_text f
text_as_written (Number least greatest n) p e w = e
text_as_written (Signed least greatest z) p e w = e
text_as_written (Fixed word) p e w = e
text_as_written (Id bs) p e w = e
text_as_written (Language bs) p e w = e
text_as_written (Currency bs) p e w = e
text_as_written (Name bs) p e w = e
text_as_written (Ascii bs) p e w = e
text_as_written (Degrees greatest z) p e w = w
text_as_written (Metres propulsion n) p e w = e
text_as_written (Segments ss) p e w = e
text_as_written (End end) p e w = e

texts_as_written : (fs : List Field) (ps : List (List ℕ)) → EachSpells fs ps → AreAsWritten fs ps → ps ≡ map field_text fs
texts_as_written [] [] e w = refl
texts_as_written [] (p ∷ ps) e w = absurd e
texts_as_written (f ∷ fs) [] e w = absurd e
texts_as_written (f ∷ fs) (p ∷ ps) e w = ap₂ (λ (q : List ℕ) (qs : List (List ℕ)). q ∷ qs) (text_as_written f p e.0 w.0) (texts_as_written fs ps e.1 w.1)

pub only_written : (text word : List ℕ) (fs : List Field) → IsWritten text word fs → text ≡ word ++ fields_text fs
only_written text word fs w = w.joined ∙ ap (λ (qs : List (List ℕ)). join_with_byte 9 (word ∷ qs)) (texts_as_written fs w.parts w.each w.coordinates) ∙ sym (joined_text word fs)
