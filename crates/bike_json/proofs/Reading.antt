-- A string that is written is read back.
use Rattle.std.proofs.Common.{◌≡◌, ℕ, suc, ◌+◌, ◌-◌, ◌*◌, ◌/◌, ◌%◌, ◌<◌, ◌≤◌, List, [], ◌∷◌, ◌++◌, false, refl, sym, ap, ◌∙◌, arith, append_assoc, Some, inl, inr}
use Rattle.std.specs.Prelude.{nat_lt}
use Rattle.std.proofs.lemmas.Bool.{lt-ltb, lt-leb, le-leb, cases_lt}
use Rattle.std.proofs.lemmas.Bool.Decides.{eqb_tells}
use Rattle.std.proofs.lemmas.Str.{encode_ascii}
use Rattle.bike_json.specs.Escapes.{hex_digit, escaped_byte, json_escapes, string_text}
use Rattle.bike_json.specs.Strings.{hex_value, unit_value, put, read_characters, read_unit, read_string}

not_lt : (a b : ℕ) → b ≤ a → nat_lt a b ≡ false
not_lt a b h = lt-leb (suc a) b (omega arith)

hex_back : (d : ℕ) → d < 16 → hex_value (hex_digit d) ≡ Some d
hex_back d lt = elim (cases_lt d 10) [
  | inl small ↦
      let value : 48 + d - 48 ≡ d = omega arith in
      rw (lt-ltb d 10 small) (rw (le-leb 48 (48 + d) (omega arith), le-leb (48 + d) 57 (omega arith)) (ap Some value))
  | inr big ↦
      let value : 87 + d - 87 ≡ d = omega arith in
      rw (not_lt d 10 big) (
      rw (
        le-leb 48 (87 + d) (omega arith),
        lt-leb (87 + d) 57 (omega arith),
        le-leb 65 (87 + d) (omega arith),
        lt-leb (87 + d) 70 (omega arith),
        le-leb 97 (87 + d) (omega arith),
        le-leb (87 + d) 102 (omega arith),
      ) (ap Some value)
      )
]

unit_back : (b : ℕ) → b < 32 → unit_value 48 48 (hex_digit (b / 16)) (hex_digit (b % 16)) ≡ Some b
unit_back b lt =
    let high : b / 16 < 16 = omega arith in
    let low : b % 16 < 16 = omega arith in
    let value : 0 * 4096 + 0 * 256 + b / 16 * 16 + b % 16 ≡ b = omega arith in
    rw (hex_back (b / 16) high, hex_back (b % 16) low) (ap Some value)

-- a control character behind `\u`
control_back : (b : ℕ) (tail : List ℕ) → b < 32 → read_unit (48 ∷ 48 ∷ hex_digit (b / 16) ∷ hex_digit (b % 16) ∷ tail) ≡ put (b ∷ []) (read_characters tail)
control_back b tail lt =
    rw (unit_back b lt) (
    rw (lt-leb 55296 b (omega arith), lt-leb 56320 b (omega arith)) (ap (λ l. put l (read_characters tail)) (encode_ascii b (omega arith)))
    )

byte_back : (b : ℕ) (tail : List ℕ) → read_characters (escaped_byte b ++ tail) ≡ put (b ∷ []) (read_characters tail)
unfolding escaped_byte
byte_back b tail = elim (eqb_tells b 34) [
  | inl is ↦ rw is.0 (ap (λ x. put (x ∷ []) (read_characters tail)) (sym is.1))
  | inr no34 ↦ elim (eqb_tells b 92) [
    | inl is ↦ rw (no34.0, is.0) (ap (λ x. put (x ∷ []) (read_characters tail)) (sym is.1))
    | inr no92 ↦ elim (eqb_tells b 8) [
      | inl is ↦ rw (no34.0, no92.0, is.0) (ap (λ x. put (x ∷ []) (read_characters tail)) (sym is.1))
      | inr no8 ↦ elim (eqb_tells b 9) [
        | inl is ↦ rw (no34.0, no92.0, no8.0, is.0) (ap (λ x. put (x ∷ []) (read_characters tail)) (sym is.1))
        | inr no9 ↦ elim (eqb_tells b 10) [
          | inl is ↦ rw (no34.0, no92.0, no8.0, no9.0, is.0) (ap (λ x. put (x ∷ []) (read_characters tail)) (sym is.1))
          | inr no10 ↦ elim (eqb_tells b 12) [
            | inl is ↦ rw (no34.0, no92.0, no8.0, no9.0, no10.0, is.0) (ap (λ x. put (x ∷ []) (read_characters tail)) (sym is.1))
            | inr no12 ↦ elim (eqb_tells b 13) [
              | inl is ↦ rw (no34.0, no92.0, no8.0, no9.0, no10.0, no12.0, is.0) (ap (λ x. put (x ∷ []) (read_characters tail)) (sym is.1))
              | inr no13 ↦ elim (cases_lt b 32) [
                | inl lt ↦ rw (no34.0, no92.0, no8.0, no9.0, no10.0, no12.0, no13.0, lt-ltb b 32 lt) (control_back b tail lt)
                | inr ge ↦ rw (no34.0, no92.0, no8.0, no9.0, no10.0, no12.0, no13.0, not_lt b 32 ge) (rw (no34.0, no92.0, not_lt b 32 ge) refl)
              ]
            ]
          ]
        ]
      ]
    ]
  ]
]

characters_back : (text rest : List ℕ) → read_characters (json_escapes text ++ 34 ∷ rest) ≡ Some (text, rest)
characters_back [] rest = refl
characters_back (b ∷ text) rest =
    ap read_characters (append_assoc (escaped_byte b) (json_escapes text) (34 ∷ rest))
    ∙ (byte_back b (json_escapes text ++ 34 ∷ rest) ∙ ap (put (b ∷ [])) (characters_back text rest))

pub string_back : (text rest : List ℕ) → read_string (string_text text ++ rest) ≡ Some (text, rest)
unfolding string_text
string_back text rest = ap read_characters (append_assoc (json_escapes text) (34 ∷ []) rest) ∙ characters_back text rest
