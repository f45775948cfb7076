-- Segments are read exactly from their text.
use Rattle.std.proofs.Common.{◌≡◌, ℕ, ℤ, ◌≤◌, pos, negsuc, neg_ℤ, List, [], ◌∷◌, length, Bool, true, false, cond, leb, FitsSigned, Option, Some, None, refl, sym, ap, ◌∙◌, subst, arith, decimal, lit<}
use Rattle.std.proofs.Common.{codes}
use Rattle.std.specs.Prelude.{map}
use Rattle.std.specs.Int.{w64}
use Rattle.std.specs.Fmt.{signed_decimal}
use Rattle.std.specs.Char.{is_ascii_digit}
use Rattle.std.specs.List.{slice_split, join_with_byte, list_all}
use Rattle.std.specs.Str.{bytes_eq}
use Rattle.std.proofs.lemmas.Int.{ints}
use Rattle.std.proofs.lemmas.Bool.{le-leb, ltb-true}
use Rattle.std.proofs.lemmas.Bool.Decides.{nat_tests}
use Rattle.std.proofs.lemmas.Fmt.{decimal_nonempty, digits_decimal}
use Rattle.std.proofs.lemmas.List.{length-append}
use Rattle.std.proofs.lemmas.List.Splits.{join_with_byte-slice_split}
use Rattle.std.proofs.lemmas.Option.{option_and_then_some, cond_some, same_Some}
use Rattle.std.proofs.lemmas.Slice.Eq.{bytes_eq-Decides}
use Rattle.bike_fixed.proofs.Coordinates.{decimal_digits}
use Rattle.bike_fixed.proofs.Numbers.{number_sound, number_full, signed_sound, signed_full}
use Rattle.bike_fields.specs.Values.{SegmentRow, IsSegment, IsRate, IsEnd, is_after}
use Rattle.bike_texts.specs.Parts.{Parts}
use Rattle.bike_texts.specs.Fields.{AreSegments, segment_text, segment_end_text, segments_text}
use Rattle.bike_texts.specs.Reading.{◌>>=◌, field_at, no_more}
use Rattle.bike_texts.specs.SegmentReading.{minute_of, rate_of, segment_end_of, segment_of, all_of, segments_of}
use Rattle.bike_texts.proofs.Absent.{split_joined}
use Rattle.bike_texts.proofs.Splitting.{is_byte, split_is_more}
use Rattle.bike_texts.proofs.TabFree.{segment_parts_lack, segment_lacks, segments_lack}

-- ---- the fields of a segment

-- the reader gives exactly the good values, each from its one text
record IsTextReader {A : Type 0} (read : List ℕ → Option A) (text : A → List ℕ) (good : A → Type 0) : Type 0 where
  sound : (t : List ℕ) (a : A) → read t ≡ Some a → (t ≡ text a) × good a
  full : (a : A) → good a → read (text a) ≡ Some a

minute_reader : IsTextReader minute_of decimal (λ n. n ≤ 100000)
minute_reader = record {
  sound = λ t n e. let s = number_sound 0 100000 t n e in (s.spelled, s.le_high);
  full = λ n g. number_full 0 100000 (decimal n) n (lit< tt) (record { low_le = omega arith; le_high = g; spelled = refl });
}

rate_fits : (z : ℤ) → IsRate z → FitsSigned w64 z
rate_fits (pos n) g = record { sfits = omega (arith, ints, g.1) }
rate_fits (negsuc n) g = record { sfits = omega (arith, ints, g.0) }

rate_reader : IsTextReader rate_of signed_decimal IsRate
rate_reader = record {
  sound = λ t z e. let s = signed_sound (neg_ℤ (pos 100000)) (pos 100000) t z e in (s.spelled, (s.low_le, s.le_high));
  full = λ z g. signed_full (neg_ℤ (pos 100000)) (pos 100000) (signed_decimal z) z (rate_fits z g) (record { low_le = g.0; le_high = g.1; spelled = refl });
}

-- an end is a minute
abbrev IsMinute : Option ℕ → Type 0
IsMinute None = Unit {0}
IsMinute (Some n) = n ≤ 100000

end_sound : (text : List ℕ) (o : Option ℕ) → segment_end_of text ≡ Some o → (text ≡ segment_end_text o) × IsMinute o
unfolding segment_end_of
end_sound text o e = go (bytes_eq text (codes "-")) refl where
  go : (b : Bool) → bytes_eq text (codes "-") ≡ b → (text ≡ segment_end_text o) × IsMinute o
  go true i =
      let s : None ≡ o = same_Some None o (sym (ap (λ b. cond b (Some None) (minute_of text >>= λ n. Some (Some n))) i) ∙ e) in
      subst (λ (x : Option ℕ). (text ≡ segment_end_text x) × IsMinute x) s ((bytes_eq-Decides text (codes "-")).0 i, tt)
  go false i =
      option_and_then_some (λ n. Some (Some n)) (minute_of text) o (sym (ap (λ b. cond b (Some None) (minute_of text >>= λ n. Some (Some n))) i) ∙ e) (λ n f g.
      let s = number_sound 0 100000 text n f in
      subst (λ (x : Option ℕ). (text ≡ segment_end_text x) × IsMinute x) (same_Some (Some n) o g) (s.spelled, s.le_high))

not_minus : (text : List ℕ) → list_all is_ascii_digit text ≡ true → bytes_eq text (codes "-") ≡ false
not_minus text h = go (bytes_eq text (codes "-")) refl where
  go : (b : Bool) → bytes_eq text (codes "-") ≡ b → bytes_eq text (codes "-") ≡ false
  go false i = i
  go true i = let f : list_all is_ascii_digit text ≡ false = ap (list_all is_ascii_digit) ((bytes_eq-Decides text (codes "-")).0 i) in absurd cc

end_full : (o : Option ℕ) → IsMinute o → segment_end_of (segment_end_text o) ≡ Some o
unfolding segment_end_of
end_full None g = refl
end_full (Some n) g =
    let d : bytes_eq (decimal n) (codes "-") ≡ false = not_minus (decimal n) (digits_decimal decimal_digits n (omega (arith, g))) in
    rw (d, minute_reader.full n g) refl

end_reader : IsTextReader segment_end_of segment_end_text IsMinute
end_reader = record { sound = end_sound; full = end_full }

takes : {A B P : Type 0} {read : List ℕ → Option A} {text : A → List ℕ} {good : A → Type 0} {y : B} (next : A × Parts → Option B) (ps : Parts) → IsTextReader read text good
    → (field_at read ps >>= next) ≡ Some y
    → ((a : A) (rest : Parts) → good a → ps ≡ text a ∷ rest → next (a, rest) ≡ Some y → P) → P
takes next [] reader e k = absurd cc
takes {read = read} {y = y} next (p ∷ ps) reader e k =
    option_and_then_some next (read p >>= λ a. Some (a, ps)) y e (λ x first second.
    option_and_then_some (λ a. Some (a, ps)) (read p) x first (λ a r s.
    let got = reader.sound p a r in
    k a ps got.1 (ap (λ (t : List ℕ). t ∷ ps) got.0) (ap next (same_Some (a, ps) x s) ∙ second)))

gives : {A B : Type 0} {read : List ℕ → Option A} {text : A → List ℕ} {good : A → Type 0} {y : B} (next : A × Parts → Option B) (a : A) (rest : Parts) → IsTextReader read text good → good a
    → next (a, rest) ≡ Some y
    → (field_at read (text a ∷ rest) >>= next) ≡ Some y
gives next a rest reader g k = rw (reader.full a g) k

-- ---- one segment

nothing_left : {B : Type 0} (ps : Parts) (o : Option B) (y : B) → (no_more ps >>= λ u. o) ≡ Some y → (ps ≡ []) × (o ≡ Some y)
nothing_left [] o y e = (refl, e)
nothing_left (p ∷ ps) o y e = absurd cc

end_is : (start : ℕ) (end : Option ℕ) → IsMinute end → is_after start end ≡ true → IsEnd start end
end_is start None h after = tt
end_is start (Some n) h after = (h, ltb-true start n after)

end_minute : (start : ℕ) (end : Option ℕ) → IsEnd start end → IsMinute end
end_minute start None h = tt
end_minute start (Some n) h = h.0

end_after : (start : ℕ) (end : Option ℕ) → IsEnd start end → is_after start end ≡ true
end_after start None h = refl
end_after start (Some n) h = grind (arith, nat_tests, h.1)

record IsReadSegment (text : List ℕ) (s : SegmentRow) : Type 0 where
  spelled : text ≡ segment_text s
  good : IsSegment s

segment_sound : (text : List ℕ) (s : SegmentRow) → segment_of text ≡ Some s → IsReadSegment text s
unfolding segment_of
segment_sound text s e =
    takes _ (slice_split (is_byte 58) text) minute_reader e (λ a ps ga ea e.
    takes _ ps rate_reader e (λ b ps gb eb e.
    takes _ ps minute_reader e (λ c ps gc ec e.
    takes _ ps end_reader e (λ d ps gd ed e.
    let n = nothing_left ps _ s e in
    let t = cond_some (is_after a d) (record { start = a; rate = b; interval = c; end = d }) s n.1 in
    let parts : slice_split (is_byte 58) text ≡ decimal a ∷ signed_decimal b ∷ decimal c ∷ segment_end_text d ∷ [] =
    ea ∙ ap (λ (x : Parts). decimal a ∷ x) (eb ∙ ap (λ (x : Parts). signed_decimal b ∷ x) (ec ∙ ap (λ (x : Parts). decimal c ∷ x) (ed ∙ ap (λ (x : Parts). segment_end_text d ∷ x) n.0))) in
    subst (λ (r : SegmentRow). IsReadSegment text r) t.1 (record {
      spelled = sym (join_with_byte-slice_split 58 text) ∙ ap (join_with_byte 58) parts;
      good = record { start = ga; rate = gb; interval = gc; end = end_is a d gd t.0 };
    })))))

segment_full : (s : SegmentRow) → IsSegment s → segment_of (segment_text s) ≡ Some s
unfolding segment_of
segment_full s g =
    let lack = segment_parts_lack 58 refl refl s g in
    let parts = split_joined 58 (decimal s.start) (signed_decimal s.rate ∷ decimal s.interval ∷ segment_end_text s.end ∷ []) refl lack.0 lack.1 in
    let after = end_after s.start s.end g.end in
    rw parts (gives _ s.start _ minute_reader g.start (gives _ s.rate _ rate_reader g.rate
    (gives _ s.interval _ minute_reader g.interval (gives _ s.end _ end_reader (end_minute s.start s.end g.end) (rw after refl)))))

-- ---- all of them

all_sound : (ps : Parts) (ss : List SegmentRow) → all_of ps ≡ Some ss → (ps ≡ map segment_text ss) × AreSegments ss
unfolding all_of
all_sound [] ss e = subst (λ (xs : List SegmentRow). ([] ≡ map segment_text xs) × AreSegments xs) (same_Some [] ss e) (refl, tt)
all_sound (p ∷ ps) ss e =
    option_and_then_some (λ x. all_of ps >>= λ xs. Some (x ∷ xs)) (segment_of p) ss e (λ x f g.
    option_and_then_some (λ xs. Some (x ∷ xs)) (all_of ps) ss g (λ xs h k.
    let a = segment_sound p x f in
    let b = all_sound ps xs h in
    subst (λ (ys : List SegmentRow). (p ∷ ps ≡ map segment_text ys) × AreSegments ys) (same_Some (x ∷ xs) ss k)
    (ap (λ (t : List ℕ). t ∷ ps) a.spelled ∙ ap (λ (r : Parts). segment_text x ∷ r) b.0, (a.good, b.1))))

all_full : (ss : List SegmentRow) → AreSegments ss → all_of (map segment_text ss) ≡ Some ss
unfolding all_of
all_full [] g = refl
all_full (s ∷ ss) g = rw (segment_full s g.0, all_full ss g.1) refl

not_empty : (text : List ℕ) → slice_split (is_byte 59) text ≡ [] → ⊥
not_empty text e = let m = split_is_more 59 text in let n : no_more (slice_split (is_byte 59) text) ≡ Some tt = ap no_more e in cc

joined : (text : List ℕ) (ss : List SegmentRow) → slice_split (is_byte 59) text ≡ map segment_text ss → text ≡ segments_text ss
joined text [] e = absurd (not_empty text e)
joined text (s ∷ ss) e = sym (join_with_byte-slice_split 59 text) ∙ ap (join_with_byte 59) e

abbrev AreRead : List ℕ → List SegmentRow → Type 0
AreRead text ss = (text ≡ segments_text ss) × (AreSegments ss × (length ss ≤ 8))

-- at most eight
few_of : List SegmentRow → Option (List SegmentRow)
few_of ss = cond (leb (length ss) 8) (Some ss) None

pub segments_sound : (text : List ℕ) (ss : List SegmentRow) → segments_of text ≡ Some ss → (text ≡ segments_text ss) × (AreSegments ss × (length ss ≤ 8))
unfolding segments_of few_of
segments_sound text ss e = go (bytes_eq text (codes "-")) refl where
  go : (b : Bool) → bytes_eq text (codes "-") ≡ b → AreRead text ss
  go true i =
      let n : [] ≡ ss = same_Some [] ss (sym (ap (λ b. cond b (Some []) (all_of (slice_split (is_byte 59) text) >>= few_of)) i) ∙ e) in
      subst (λ (xs : List SegmentRow). AreRead text xs) n ((bytes_eq-Decides text (codes "-")).0 i, (tt, omega arith))
  go false i =
      option_and_then_some few_of (all_of (slice_split (is_byte 59) text)) ss (sym (ap (λ b. cond b (Some []) (all_of (slice_split (is_byte 59) text) >>= few_of)) i) ∙ e) (λ xs f g.
      let a = all_sound (slice_split (is_byte 59) text) xs f in
      let c = cond_some (leb (length xs) 8) xs ss g in
      let few : length xs ≤ 8 = grind (arith, nat_tests, c.0) in
      subst (λ (ys : List SegmentRow). AreRead text ys) c.1 (joined text xs a.0, (a.1, few)))

long_segment : (s : SegmentRow) → IsSegment s → 2 ≤ length (segment_text s)
long_segment s g =
    let some = decimal_nonempty s.start (omega (arith, g.start)) in
    let l = length-append (decimal s.start) (58 ∷ join_with_byte 58 (signed_decimal s.rate ∷ decimal s.interval ∷ segment_end_text s.end ∷ [])) in
    omega (arith, l, some)

same_head : (a b : List ℕ) (xs ys : Parts) → a ∷ xs ≡ b ∷ ys → a ≡ b
same_head a b xs ys e = cc

-- a segment isn't `-`
not_none : (text : List ℕ) (s : SegmentRow) (ss : List SegmentRow) → IsSegment s → slice_split (is_byte 59) text ≡ map segment_text (s ∷ ss) → bytes_eq text (codes "-") ≡ false
not_none text s ss g parts = go (bytes_eq text (codes "-")) refl where
  go : (b : Bool) → bytes_eq text (codes "-") ≡ b → bytes_eq text (codes "-") ≡ false
  go false i = i
  go true i =
      let t : text ≡ codes "-" = (bytes_eq-Decides text (codes "-")).0 i in
      let h : codes "-" ≡ segment_text s = same_head (codes "-") (segment_text s) [] (map segment_text ss) (sym (ap (slice_split (is_byte 59)) t) ∙ parts) in
      let two = long_segment s g in
      absurd (omega (arith, ap length h, two))

pub segments_full : (ss : List SegmentRow) → AreSegments ss → length ss ≤ 8 → segments_of (segments_text ss) ≡ Some ss
unfolding segments_of few_of
segments_full [] g few = refl
segments_full (s ∷ ss) g few =
    let text = segments_text (s ∷ ss) in
    let lack = segments_lack 59 refl refl refl ss g.1 in
    let parts : slice_split (is_byte 59) text ≡ map segment_text (s ∷ ss) = split_joined 59 (segment_text s) (map segment_text ss) refl (segment_lacks 59 refl refl refl s g.0) lack in
    let d : bytes_eq text (codes "-") ≡ false = not_none text s ss g.0 parts in
    let l : leb (length (s ∷ ss)) 8 ≡ true = le-leb _ _ few in
    ap (λ b. cond b (Some []) (all_of (slice_split (is_byte 59) text) >>= few_of)) d
    ∙ ap (λ ps. all_of ps >>= few_of) parts
    ∙ ap (λ o. o >>= few_of) (all_full (s ∷ ss) g)
    ∙ ap (λ b. cond b (Some (s ∷ ss)) None) l
