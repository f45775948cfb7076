-- Escapes of a text, character by character.
use Rattle.std.proofs.Common.{◌≡◌, ℕ, ◌≤◌, ◌≢◌, List, [], ◌∷◌, ◌++◌, Bool, true, false, cond, eqb, ltb, ◌+◌, ◌/◌, ◌%◌, refl, sym, ap, ◌∙◌, arith, inl, inr, append_assoc, append-nil, map, lit<}
use Rattle.std.specs.Str.{IsUtf8, chars}
use Rattle.std.proofs.lemmas.Bool.Decides.{eqb_tells}
use Rattle.std.proofs.Math.Utf8.{encode, encodes}
use Rattle.std.proofs.lemmas.Str.{encodes-append, encodes-chars, encode_ascii}
use Rattle.bike_texts.specs.Fields.{escape, escapes_of}

other : (b d : ℕ) → b ≢ d → eqb b d ≡ false
other b d apart = elim (eqb_tells b d) [ inl w ↦ absurd (apart w.1) | inr w ↦ w.0 ]

plain : (b : ℕ) → b ≢ 92 → b ≢ 9 → b ≢ 10 → b ≢ 13 → escape b ≡ b ∷ []
plain b e f g h = rw (other b 92 e, other b 9 f, other b 10 g, other b 13 h) refl

high : (b : ℕ) → 128 ≤ b → escape b ≡ b ∷ []
high b h = plain b (omega (arith, h)) (omega (arith, h)) (omega (arith, h)) (omega (arith, h))

stays : (b : ℕ) (bs : List ℕ) → escape b ≡ b ∷ [] → escapes_of bs ≡ bs → escapes_of (b ∷ bs) ≡ b ∷ bs
unfolding escapes_of
stays b bs e es = rw (e, es) refl

stays_none : escapes_of [] ≡ []
unfolding escapes_of
stays_none = refl

first_of_four : (a b c : Bool) (w x y z : List ℕ) → escapes_of w ≡ w → escapes_of x ≡ x → escapes_of y ≡ y → escapes_of z ≡ z
    → escapes_of (cond a w (cond b x (cond c y z))) ≡ cond a w (cond b x (cond c y z))
first_of_four true b c w x y z e f g h = e
first_of_four false true c w x y z e f g h = f
first_of_four false false true w x y z e f g h = g
first_of_four false false false w x y z e f g h = h

high_two : (a b : ℕ) → 128 ≤ a → 128 ≤ b → escapes_of (a ∷ b ∷ []) ≡ a ∷ b ∷ []
high_two a b h i = stays a (b ∷ []) (high a h) (stays b [] (high b i) stays_none)

high_three : (a b c : ℕ) → 128 ≤ a → 128 ≤ b → 128 ≤ c → escapes_of (a ∷ b ∷ c ∷ []) ≡ a ∷ b ∷ c ∷ []
high_three a b c h i j = stays a (b ∷ c ∷ []) (high a h) (high_two b c i j)

-- a character other than those that have an escape stays
pub char_stays : (c : ℕ) → c ≢ 92 → c ≢ 9 → c ≢ 10 → c ≢ 13 → escapes_of (encode c) ≡ encode c
unfolding encode
char_stays c e f g h =
    let low = 128 + c % 64 in
    let mid = 128 + c / 64 % 64 in
    let high_part = 128 + c / 4096 % 64 in
    first_of_four (ltb c 128) (ltb c 2048) (ltb c 65536) (c ∷ []) ((192 + c / 64) ∷ low ∷ []) ((224 + c / 4096) ∷ mid ∷ low ∷ []) ((240 + c / 262144) ∷ high_part ∷ mid ∷ low ∷ [])
    (stays c [] (plain c e f g h) stays_none)
    (high_two (192 + c / 64) low (omega arith) (omega arith))
    (high_three (224 + c / 4096) mid low (omega arith) (omega arith) (omega arith))
    (stays (240 + c / 262144) (high_part ∷ mid ∷ low ∷ []) (high (240 + c / 262144) (omega arith)) (high_three high_part mid low (omega arith) (omega arith) (omega arith)))

pub escapes_of-append : (xs ys : List ℕ) → escapes_of (xs ++ ys) ≡ escapes_of xs ++ escapes_of ys
unfolding escapes_of
escapes_of-append [] ys = refl
escapes_of-append (x ∷ xs) ys = rw (escapes_of-append xs ys) (sym (append_assoc (escape x) (escapes_of xs) (escapes_of ys)))

encodes-append_one : (cs : List ℕ) (c : ℕ) → encodes (cs ++ c ∷ []) ≡ encodes cs ++ encode c
encodes-append_one cs c = encodes-append cs (c ∷ []) ∙ ap (λ (t : List ℕ). encodes cs ++ t) (append-nil (encode c))

-- one more character
pub escaped_more : (cs : List ℕ) (c : ℕ) → escapes_of (encodes (cs ++ c ∷ [])) ≡ escapes_of (encodes cs) ++ escapes_of (encode c)
escaped_more cs c = ap escapes_of (encodes-append_one cs c) ∙ escapes_of-append (encodes cs) (encode c)

-- no character
pub escaped_none : (text : List ℕ) → text ++ escapes_of (encodes []) ≡ text
unfolding escapes_of
escaped_none text = append-nil text

unmapped : (cs : List ℕ) → map (λ (c : ℕ). c) cs ≡ cs
unmapped [] = refl
unmapped (c ∷ cs) = ap (λ (ds : List ℕ). c ∷ ds) (unmapped cs)

-- all characters of a text
pub escaped_whole : (text cs start before now : List ℕ) → IsUtf8 text → map (λ (c : ℕ). c) cs ≡ chars text → before ≡ start ++ encode 9 → now ≡ before ++ escapes_of (encodes cs)
    → now ≡ start ++ 9 ∷ escapes_of text
escaped_whole text cs start before now utf8 whole tab e =
    let same : escapes_of (encodes cs) ≡ escapes_of text = ap escapes_of (ap encodes (sym (unmapped cs) ∙ whole) ∙ encodes-chars text utf8) in
    let one : encode 9 ≡ 9 ∷ [] = encode_ascii 9 (lit< tt) in
    e ∙ (rw (tab, one, same) (append_assoc start (9 ∷ []) (escapes_of text)))
