-- Pieces one after the other, and the text of a key column by column.
use Rattle.std.proofs.Common.{◌≡◌, ◌∙◌, ◌+◌, ◌<◌, ◌≤◌, ℕ, List, [], ◌∷◌, ◌++◌, length, take, refl, sym, subst, ap, suc, arith, append_assoc, append-nil, length-append, zero, Bool, true, false, Option}
use Rattle.std.proofs.Common.{IsTrue, inl, inr}
use Rattle.std.specs.Prelude.{codes, ◌==◌, if◌then◌else◌}
use Rattle.std.proofs.lemmas.List.{take-append-le}
use Rattle.std.proofs.Math.Seq.{take-append-add}
use Rattle.std.proofs.lemmas.Bool.Decides.{nat_tests}
use Rattle.std.proofs.lemmas.Str.{IsUtf8-from_is_utf8, is_utf8-from_IsUtf8}
use Rattle.std.specs.Str.{IsUtf8, is_utf8}
use Rattle.std.proofs.KnownBytes.{Appends-trans}
use Rattle.std.specs.Io.KnownBytes.{Appends}
use Rattle.sqlite_value.specs.declared.value.Value.TheVariants.{Null, Text}
use Rattle.sqlite_value.specs.Order.{Row, column}
use Rattle.bike_json.specs.Outputs.{OutputState}
use Rattle.bike_console.specs.Pieces.{value_text, key_text, bar, Puts, PutsLine}

-- ---- pieces

-- a writer that holds these bytes, as an output
abbrev pub writer_with : Option (List ℕ) → OutputState
writer_with bytes = record { bytes = bytes; may_refuse = true }

pub puts_both : (a b c : OutputState) (xs ys : List ℕ) (g h i : Bool) → Puts a b xs g h → Puts b c ys h i → Puts a c (xs ++ ys) g i
puts_both a b c xs ys true true true p q = (Appends-trans a.bytes b.bytes c.bytes xs ys p.0 q.0, q.1 ∙ p.1)
puts_both a b c xs ys true true false p q =
    let front = q.0 in
    let all = Appends-trans a.bytes b.bytes c.bytes xs (take front.0 ys) p.0 front.2 in
    let some = subst (Appends a.bytes c.bytes) (sym (take-append-add xs ys front.0)) all in
    ((length xs + front.0, omega (arith, front.1, length-append xs ys), some), q.1 ∙ p.1, subst IsTrue p.1 q.2)
puts_both a b c xs ys true false false p q =
    let front = p.0 in
    let all : Appends a.bytes c.bytes (take front.0 xs ++ []) = Appends-trans a.bytes b.bytes c.bytes (take front.0 xs) [] front.2 q.0 in
    let some = subst (Appends a.bytes c.bytes) (append-nil (take front.0 xs) ∙ sym (take-append-le front.0 xs ys (omega (arith, front.1)))) all in
    ((front.0, omega (arith, front.1, length-append xs ys), some), q.1 ∙ p.1, p.2)
puts_both a b c xs ys true false true p q = absurd q
puts_both a b c xs ys false false false p q = (Appends-trans a.bytes b.bytes c.bytes [] [] p.0 q.0, q.1 ∙ p.1)
puts_both a b c xs ys false false true p q = absurd q
puts_both a b c xs ys false true i p q = absurd p

pub puts_three : (a b c d : OutputState) (xs ys zs : List ℕ) (g h i j : Bool) → Puts a b xs g h → Puts b c ys h i → Puts c d zs i j → Puts a d (xs ++ ys ++ zs) g j
puts_three a b c d xs ys zs g h i j p q r = puts_both a c d (xs ++ ys) zs g i j (puts_both a b c xs ys g h i p q) r

pub puts_line : (a b : OutputState) (bytes : List ℕ) (going : Bool) → Puts a b bytes true going → PutsLine a b bytes
puts_line a b bytes true p = inl p
puts_line a b bytes false p = inr p

pub puts_as : (a b : OutputState) (xs ys : List ℕ) (g h : Bool) → xs ≡ ys → Puts a b xs g h → Puts a b ys g h
puts_as a b xs ys g h same p = subst (λ bytes. Puts a b bytes g h) same p

-- ---- texts

pub text_plain : (text : List ℕ) → IsUtf8 text → text ≡ value_text (Text text)
text_plain text utf8 = let valid = is_utf8-from_IsUtf8 text utf8 in rw valid refl

pub text_unread : (text : List ℕ) → ¬ IsUtf8 text → codes "?" ≡ value_text (Text text)
text_unread text other = by (is_utf8 text) refl
  where
    by : (b : Bool) → is_utf8 text ≡ b → codes "?" ≡ (if b then text else codes "?")
    by true valid = absurd (other (IsUtf8-from_is_utf8 text valid))
    by false valid = refl

-- ---- the columns of a key

pub column_past : (row : Row) (at : ℕ) → length row ≤ at → Null ≡ column row at
column_past [] zero past = refl
column_past [] (suc at) past = refl
column_past (v ∷ row) zero past = absurd (omega (arith, past))
column_past (v ∷ row) (suc at) past = column_past row at (omega (arith, past))

bar_later : (n : ℕ) → bar (suc n) ≡ codes "/"
bar_later n = let later : (suc n == 0) ≡ false = grind (arith, nat_tests) in rw later refl

key_text_push : (row : Row) (at : ℕ) → at < length row → key_text (take (suc at) row) ≡ key_text (take at row) ++ (bar at ++ value_text (column row at))
key_text_push [] at lt = absurd (omega (arith, lt))
key_text_push (v ∷ row) zero lt = refl
key_text_push (v ∷ []) (suc at) lt = absurd (omega (arith, lt))
key_text_push (v ∷ w ∷ more) (suc zero) lt = refl
key_text_push (v ∷ w ∷ more) (suc (suc at)) lt =
    let text = value_text (column more at) in
    let before = key_text (w ∷ take at more) in
    let bars : bar (suc at) ≡ bar (suc (suc at)) = bar_later at ∙ sym (bar_later (suc at)) in
    let rest : key_text (w ∷ take (suc at) more) ≡ before ++ (bar (suc (suc at)) ++ text) = key_text_push (w ∷ more) (suc at) (omega (arith, lt)) ∙ ap (λ (b : List ℕ). before ++ (b ++ text)) bars in
    ap (λ (t : List ℕ). value_text v ++ 47 ∷ t) rest ∙ sym (append_assoc (value_text v) (47 ∷ before) (bar (suc (suc at)) ++ text))

pub key_text_more : (row : Row) (at : ℕ) → at < length row → key_text (take at row) ++ (bar at ++ value_text (column row at)) ≡ key_text (take (at + 1) row)
key_text_more row at lt = let on : suc at ≡ at + 1 = omega arith in sym (key_text_push row at lt) ∙ ap (λ (n : ℕ). key_text (take n row)) on
