-- The escapes of a text, run by run.
use Rattle.std.proofs.Common.{◌≡◌, ℕ, ◌+◌, ◌-◌, ◌<◌, ◌≤◌, List, [], ◌∷◌, ◌++◌, length, get_or, set, take, drop, slice_range, sym, ap, ◌∙◌, arith, append-nil, length-drop, take-append-drop}
use Rattle.std.proofs.lemmas.List.{take_more, take_more_set, take_all, take_rest, get_or-drop}
use Rattle.std.proofs.lemmas.Grind.{flat_map-append}
use Rattle.std.proofs.Math.Seq.{take-add}
use Rattle.bike_json.specs.Escapes.{escaped_byte, json_escapes, string_text}

-- a run with one byte more
run_more : (s : List ℕ) (start i : ℕ) → start ≤ i → i < length s → slice_range s start (i + 1) ≡ slice_range s start i ++ get_or s i 0 ∷ []
run_more s start i le lt =
    let longer : i + 1 - start ≡ (i - start) + 1 = omega arith in
    let at : start + (i - start) ≡ i = omega arith in
    let within : i - start < length (drop start s) = omega (arith, length-drop start s) in
    ap (λ k. take k (drop start s)) longer ∙ (take_more (drop start s) (i - start) 0 within
    ∙ ap (λ b. take (i - start) (drop start s) ++ b ∷ []) (get_or-drop start s (i - start) 0 ∙ ap (λ k. get_or s k 0) at))

take_run : (s : List ℕ) (start i : ℕ) → start ≤ i → take i s ≡ take start s ++ slice_range s start i
take_run s start i le =
    let at : i ≡ start + (i - start) = omega arith in
    ap (λ k. take k s) at ∙ take-add start (i - start) s

-- a byte that stands for itself
pub run_goes_on : (s : List ℕ) (start i : ℕ) → start ≤ i → i < length s → escaped_byte (get_or s i 0) ≡ get_or s i 0 ∷ []
    → json_escapes (slice_range s start i) ≡ slice_range s start i → json_escapes (slice_range s start (i + 1)) ≡ slice_range s start (i + 1)
run_goes_on s start i le lt plain run =
    let more = run_more s start i le lt in
    let b = get_or s i 0 in
    ap json_escapes more ∙ (flat_map-append escaped_byte (slice_range s start i) (b ∷ [])
    ∙ (ap (λ l. l ++ json_escapes (b ∷ [])) run ∙ (ap (λ l. slice_range s start i ++ l) (append-nil (escaped_byte b) ∙ plain) ∙ sym more)))

-- a byte with an escape ends the run
pub run_ends : (s : List ℕ) (start i : ℕ) (e : List ℕ) → start ≤ i → i < length s → e ≡ escaped_byte (get_or s i 0)
    → json_escapes (slice_range s start i) ≡ slice_range s start i → (json_escapes (take start s) ++ slice_range s start i) ++ e ≡ json_escapes (take (i + 1) s)
run_ends s start i e le lt is run =
    let b = get_or s i 0 in
    ap (λ l. (json_escapes (take start s) ++ l) ++ e) (sym run)
    ∙ (ap (λ l. l ++ e) (sym (flat_map-append escaped_byte (take start s) (slice_range s start i)) ∙ ap json_escapes (sym (take_run s start i le)))
    ∙ (ap (λ l. json_escapes (take i s) ++ l) (is ∙ sym (append-nil (escaped_byte b)))
    ∙ (sym (flat_map-append escaped_byte (take i s) (b ∷ [])) ∙ ap json_escapes (sym (take_more s i 0 lt)))))

-- the last run
pub run_last : (s : List ℕ) (start : ℕ) → json_escapes (slice_range s start (length s)) ≡ slice_range s start (length s)
    → json_escapes (take start s) ++ slice_range s start (length s) ≡ json_escapes s
run_last s start run =
    ap (λ l. json_escapes (take start s) ++ l) (sym run)
    ∙ (sym (flat_map-append escaped_byte (take start s) (slice_range s start (length s)))
    ∙ ap json_escapes (ap (λ l. take start s ++ l) (take_rest s start) ∙ take-append-drop start s))

pub run_none : (s : List ℕ) (k : ℕ) → json_escapes (slice_range s k k) ≡ slice_range s k k
run_none s k =
    let none : k - k ≡ 0 = omega arith in
    ap (λ n. json_escapes (take n (drop k s))) none ∙ ap (λ n. take n (drop k s)) (sym none)

-- a string as far as it is put, and one byte more
pub string_goes_on : (text buf : List ℕ) (i : ℕ) → i < length text → i + 1 < length buf → escaped_byte (get_or text i 0) ≡ get_or text i 0 ∷ []
    → take (i + 1) buf ≡ 34 ∷ json_escapes (take i text) → take (i + 1 + 1) (set buf (i + 1) (get_or text i 0)) ≡ 34 ∷ json_escapes (take (i + 1) text)
string_goes_on text buf i lt room plain so_far =
    let b = get_or text i 0 in
    let more = ap json_escapes (take_more text i 0 lt) ∙ (flat_map-append escaped_byte (take i text) (b ∷ []) ∙ ap (λ l. json_escapes (take i text) ++ l) (append-nil (escaped_byte b) ∙ plain)) in
    take_more_set buf (i + 1) b room ∙ (ap (λ l. l ++ b ∷ []) so_far ∙ ap (λ l. 34 ∷ l) (sym more))

-- the whole string
pub string_ends : (text buf : List ℕ) → length text + 1 < length buf → take (length text + 1) buf ≡ 34 ∷ json_escapes (take (length text) text)
    → take (length text + 1 + 1) (set buf (length text + 1) 34) ≡ string_text text
unfolding string_text
string_ends text buf room so_far =
    take_more_set buf (length text + 1) 34 room
    ∙ (ap (λ l. l ++ 34 ∷ []) so_far ∙ ap (λ l. 34 ∷ (json_escapes l ++ 34 ∷ [])) (take_all (length text) text (omega arith)))
