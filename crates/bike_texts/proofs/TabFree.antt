-- No part of a text has a TAB in it, so that joining and splitting undo each other.
use Rattle.std.proofs.Common.{◌≡◌, ℕ, ℤ, pos, neg_ℤ, ◌≤ℤ◌, ◌<◌, ◌^◌, List, [], ◌∷◌, ◌++◌, Bool, true, false, not, eqb, Some, None, Option, refl, ap, arith, decimal, inl, inr}
use Rattle.std.specs.Prelude.{map}
use Rattle.std.proofs.lemmas.Int.{ints}
use Rattle.std.specs.Fmt.{signed_decimal}
use Rattle.std.specs.Char.{is_ascii_digit}
use Rattle.std.specs.List.{slice_split, join_with_byte, list_all}
use Rattle.std.proofs.lemmas.Option.{same_Some}
use Rattle.std.proofs.lemmas.Bool.Decides.{eqb_tells}
use Rattle.bike_fixed.specs.Coordinate.{IsCoordinate, minus_text, fraction}
use Rattle.bike_fields.specs.Bytes.{is_ident, is_language, is_currency, has_length, is_ident_byte, is_language_byte, is_upper}
use Rattle.bike_fields.proofs.Lengths.{both_hold}
use Rattle.bike_fields.specs.Values.{SegmentRow, IsSegment, IsEnd, IsRange}
use Rattle.bike_fields.specs.declared.vehicle.Propulsion.{Propulsion}
use Rattle.bike_fields.specs.declared.vehicle.Propulsion.TheVariants.{Human, ElectricAssist}
use Rattle.bike_texts.specs.declared.ends.OrderEnd.TheVariants.{Depot, Station}
use Rattle.bike_texts.specs.Parts.{Parts}
use Rattle.bike_texts.specs.Fields.{Field, Number, Signed, Fixed, Id, Language, Currency, Name, Ascii, Degrees, Metres, Segments, End, AreSegments, HasNoTab, IsGood, AreGood, Spells, EachSpells}
use Rattle.bike_texts.specs.Fields.{escape, escapes_of, segment_text, segment_end_text, segments_text}
use Rattle.bike_texts.specs.Reading.{part_at}
use Rattle.bike_texts.proofs.Splitting.{is_tab}
pub use Rattle.bike_texts.proofs.Absent.{all_weaker}
use Rattle.bike_texts.proofs.Absent.{Lacks, AllLack, all_append, set_lacks, decimal_lacks, signed_lacks, joined_lacks, split_joined}

-- the parts spell the fields, which keep their bounds
pub record AreRead (fields : List Field) (parts : Parts) : Type 0 where
  pub each : EachSpells fields parts
  pub good : AreGood fields

abbrev pub AreTabFree : Parts → Type 0
AreTabFree = AllLack 9

pub decimal_no_tab : (n : ℕ) → n < 2 ^ 64 → HasNoTab (decimal n)
decimal_no_tab n small = decimal_lacks 9 n refl small

-- ---- texts

pub ident_lacks : (c : ℕ) → is_ident_byte c ≡ false → (bs : List ℕ) → is_ident bs ≡ true → Lacks c bs
ident_lacks c out bs h = set_lacks is_ident_byte c out bs (both_hold (has_length 1 36 bs) (list_all is_ident_byte bs) h).1

language_no_tab : (bs : List ℕ) → is_language bs ≡ true → HasNoTab bs
language_no_tab bs h = set_lacks is_language_byte 9 refl bs (both_hold (has_length 2 35 bs) (list_all is_language_byte bs) h).1

currency_no_tab : (bs : List ℕ) → is_currency bs ≡ true → HasNoTab bs
currency_no_tab bs h = set_lacks is_upper 9 refl bs (both_hold (has_length 3 3 bs) (list_all is_upper bs) h).1

escape_no_tab : (b : ℕ) → HasNoTab (escape b)
escape_no_tab b =
    elim (eqb_tells b 92) [
      | inl w ↦ at 92 w.1 refl
      | inr v ↦ elim (eqb_tells b 9) [
        | inl w ↦ at 9 w.1 refl
        | inr x ↦ elim
            (eqb_tells b 10) [ inl w ↦ at 10 w.1 refl | inr y ↦ elim (eqb_tells b 13) [ inl w ↦ at 13 w.1 refl | inr z ↦ rw (v.0, x.0, y.0, z.0) (rw (x.0) refl) ] ]
      ]
    ]
  where
    at : (k : ℕ) → b ≡ k → HasNoTab (escape k) → HasNoTab (escape b)
    at k e h = rw e h

escaped_no_tab : (bs : List ℕ) → HasNoTab (escapes_of bs)
unfolding escapes_of
escaped_no_tab [] = refl
escaped_no_tab (b ∷ bs) = all_append (λ x. not (eqb x 9)) (escape b) (escapes_of bs) (escape_no_tab b) (escaped_no_tab bs)

-- ---- coordinates

minus_no_tab : (minus : Bool) → HasNoTab (minus_text minus)
minus_no_tab true = refl
minus_no_tab false = refl

fraction_no_tab : (part : List ℕ) → HasNoTab part → HasNoTab (fraction part)
fraction_no_tab [] h = refl
fraction_no_tab (d ∷ ds) h = h

coordinate_no_tab : (text : List ℕ) (z : ℤ) → IsCoordinate text z → HasNoTab text
coordinate_no_tab text z c =
    let whole = set_lacks is_ascii_digit 9 refl c.whole c.whole_digits in
    let part = fraction_no_tab c.part (set_lacks is_ascii_digit 9 refl c.part c.part_digits) in
    rw c.spelled (all_append (λ b. not (eqb b 9)) (minus_text c.minus) (c.whole ++ fraction c.part) (minus_no_tab c.minus) (all_append (λ b. not (eqb b 9)) c.whole (fraction c.part) whole part))

metres_small : (propulsion : Propulsion) (n : ℕ) → IsRange propulsion n → n < 2 ^ 64
metres_small Human n h = omega (arith, h)
metres_small ElectricAssist n h = omega (arith, h.1)

-- ---- segments

end_lacks : (c : ℕ) → is_ascii_digit c ≡ false → eqb 45 c ≡ false → (start : ℕ) (end : Option ℕ) → IsEnd start end → Lacks c (segment_end_text end)
end_lacks c out sign start None h = rw sign refl
end_lacks c out sign start (Some n) h = decimal_lacks c n out (omega (arith, h.0))

pub segment_parts_lack : (c : ℕ) → is_ascii_digit c ≡ false → eqb 45 c ≡ false → (s : SegmentRow) → IsSegment s
    → AllLack c (decimal s.start ∷ signed_decimal s.rate ∷ decimal s.interval ∷ segment_end_text s.end ∷ [])
segment_parts_lack c out sign s h =
    let low : neg_ℤ (pos 9223372036854775808) ≤ℤ s.rate = omega (arith, ints, h.rate.0) in
    let high : s.rate ≤ℤ pos 9223372036854775807 = omega (arith, ints, h.rate.1) in (
      decimal_lacks c s.start out (omega (arith, h.start)),
      (
        signed_lacks c s.rate out sign low high,
        (
          decimal_lacks c s.interval out
              (omega (arith, h.interval)),
          (end_lacks c out sign s.start s.end h.end, tt),
        ),
      ),
    )

pub segment_lacks : (c : ℕ) → is_ascii_digit c ≡ false → eqb 45 c ≡ false → eqb 58 c ≡ false → (s : SegmentRow) → IsSegment s → Lacks c (segment_text s)
segment_lacks c out sign colon s h =
    joined_lacks c 58 (decimal s.start ∷ signed_decimal s.rate ∷ decimal s.interval ∷ segment_end_text s.end ∷ []) colon (segment_parts_lack c out sign s h)

pub segments_lack : (c : ℕ) → is_ascii_digit c ≡ false → eqb 45 c ≡ false → eqb 58 c ≡ false → (ss : List SegmentRow) → AreSegments ss → AllLack c (map segment_text ss)
segments_lack c out sign colon [] h = tt
segments_lack c out sign colon (s ∷ ss) h = (segment_lacks c out sign colon s h.0, segments_lack c out sign colon ss h.1)

segments_no_tab : (ss : List SegmentRow) → AreSegments ss → HasNoTab (segments_text ss)
segments_no_tab [] h = refl
segments_no_tab (s ∷ ss) h = joined_lacks 9 59 (map segment_text (s ∷ ss)) refl (segments_lack 9 refl refl refl (s ∷ ss) h)

-- ---- fields

field_no_tab : (f : Field) (p : List ℕ) → Spells f p → IsGood f → HasNoTab p
field_no_tab (Number least greatest n) p e g = rw e (decimal_no_tab n (omega (arith, g.1, g.2)))
field_no_tab (Signed least greatest z) p e g = rw e (signed_lacks 9 z refl refl (omega (arith, ints, g.0, g.2)) (omega (arith, ints, g.1, g.3)))
field_no_tab (Fixed word) p e g = rw e g
field_no_tab (Id bs) p e g = rw e (ident_lacks 9 refl bs g)
field_no_tab (Language bs) p e g = rw e (language_no_tab bs g)
field_no_tab (Currency bs) p e g = rw e (currency_no_tab bs g)
field_no_tab (Name bs) p e g = rw e (escaped_no_tab bs)
field_no_tab (Ascii bs) p e g = rw e (escaped_no_tab bs)
field_no_tab (Degrees greatest z) p e g = coordinate_no_tab p z e
field_no_tab (Metres propulsion n) p e g = rw e (decimal_no_tab n (metres_small propulsion n g))
field_no_tab (Segments ss) p e g = rw e (segments_no_tab ss g.0)
field_no_tab (End Depot) p e g = rw e refl
field_no_tab (End (Station station)) p e g = rw e (ident_lacks 9 refl station g)

pub parts_no_tab : (fs : List Field) (ps : Parts) → AreRead fs ps → AreTabFree ps
parts_no_tab [] [] h = tt
parts_no_tab [] (p ∷ ps) h = absurd h.each
parts_no_tab (f ∷ fs) [] h = absurd h.each
parts_no_tab (f ∷ fs) (p ∷ ps) h = (field_no_tab f p h.each.0 h.good.0, parts_no_tab fs ps (record { each = h.each.1; good = h.good.1 }))

pub split_join : (p : List ℕ) (ps : Parts) → HasNoTab p → AreTabFree ps → slice_split is_tab (join_with_byte 9 (p ∷ ps)) ≡ p ∷ ps
split_join p ps h hs = split_joined 9 p ps refl h hs

pub part_is : (ps : Parts) (x : List ℕ × Parts) → part_at ps ≡ Some x → ps ≡ x.0 ∷ x.1
part_is [] x e = absurd cc
part_is (p ∷ ps) x e = ap (λ (y : List ℕ × Parts). y.0 ∷ y.1) (same_Some (p, ps) x e)
