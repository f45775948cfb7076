-- Answers that are sent in parts.
use Rattle.std.proofs.Common.{◌≡◌, ℕ, ◌+◌, ◌-◌, ◌≤◌, List, [], ◌∷◌, ◌++◌, ◌<◌, length, length-drop, take, take_all, drop, map, slice_index_or, Option, Some, None, refl, sym, ap, ◌∙◌, subst, arith}
use Rattle.std.proofs.Common.{append_assoc, append-nil, inl, inr}
use Rattle.std.proofs.lemmas.Bool.{cases_lt}
use Rattle.std.proofs.lemmas.List.{take-append-drop, drop-append-le, drop-drop, map-append}
use Rattle.std.proofs.Math.Seq.{drop-append-add}
use Rattle.std.specs.Io.KnownBytes.{Appends, Keeps}
use Rattle.bike_http_connection.specs.Answers.{concat, bytes_in, left_of, BeginsWith, FreesTaken, Sends}

-- one block more
concat-push : (blocks : List (List ℕ)) (block : List ℕ) → concat (blocks ++ block ∷ []) ≡ concat blocks ++ block
concat-push [] block = append-nil block
concat-push (b ∷ blocks) block = ap (λ (xs : List ℕ). b ++ xs) (concat-push blocks block) ∙ sym (append_assoc b (concat blocks) block)

pub bytes_pushed : (full : List (List ℕ)) (last block : List ℕ) → bytes_in (full ++ last ∷ []) block ≡ bytes_in full last ++ block
bytes_pushed full last block = ap (λ (xs : List ℕ). xs ++ block) (concat-push full last)

-- a block that is taken is no part of what is left
pub left_freed : (taken : ℕ) (first : List ℕ) (full : List (List ℕ)) (last : List ℕ) → length first ≤ taken
    → left_of taken (first ∷ full) last ≡ left_of (taken - length first) full last
left_freed taken first full last over =
    let n : taken ≡ length first + (taken - length first) = omega (arith, over) in
    ap (λ (xs : List ℕ). drop taken xs) (append_assoc first (concat full) last)
    ∙ ap (λ (k : ℕ). drop k (first ++ bytes_in full last)) n
    ∙ drop-append-add first (bytes_in full last) (taken - length first)

-- what is taken of the first block
pub left_sent : (all block rest : List ℕ) (start count : ℕ) → all ≡ block ++ rest → start + count ≤ length block
    → drop start all ≡ take count (drop start block) ++ drop (start + count) all
left_sent all block rest start count is within =
    let early : drop start (block ++ rest) ≡ drop start block ++ rest = drop-append-le start block rest (omega (arith, within)) in
    let late : drop (start + count) (block ++ rest) ≡ drop (start + count) block ++ rest = drop-append-le (start + count) block rest within in
    let parts : take count (drop start block) ++ drop (start + count) block ≡ drop start block =
    ap (λ (xs : List ℕ). take count (drop start block) ++ xs) (sym (drop-drop count start block)) ∙ take-append-drop count (drop start block) in
    ap (λ (xs : List ℕ). drop start xs) is
    ∙ early
    ∙ ap (λ (xs : List ℕ). xs ++ rest) (sym parts)
    ∙ append_assoc (take count (drop start block)) (drop (start + count) block) rest
    ∙ ap (λ (xs : List ℕ). take count (drop start block) ++ xs) (sym late ∙ ap (λ (xs : List ℕ). drop (start + count) xs) (sym is))

-- .. as the slice of it that is written
pub slice_sent : (all block rest : List ℕ) (taken start count : ℕ) → all ≡ block ++ rest → taken ≡ start
    → count ≤ length (take (length block - start) (drop start block)) → start ≤ length block
    → drop taken all ≡ take count (take (length block - start) (drop start block)) ++ drop (start + count) all
slice_sent all block rest taken start count is same some within =
    let long : length (drop start block) ≡ length block - start = length-drop start block in
    let whole : take (length block - start) (drop start block) ≡ drop start block =
    take_all (length block - start) (drop start block) (omega (arith, long)) in
    let less : count ≤ length block - start = subst (λ (n : ℕ). count ≤ n) long (subst (λ (xs : List ℕ). count ≤ length xs) whole some) in
    ap (λ (k : ℕ). drop k all) same
    ∙ left_sent all block rest start count is (omega (arith, less, within))
    ∙ ap (λ (xs : List ℕ). take count xs ++ drop (start + count) all) (sym whole)

-- the first of some blocks
pub first_in : {X : Type 0} (bytes : X → List ℕ) (blocks : List X) (block : X) (last : List ℕ) → 0 < length blocks → block ≡ slice_index_or blocks 0 block
    → BeginsWith (bytes_in (map bytes blocks) last) (bytes block)
first_in bytes [] block last some is = absurd (omega (arith, some))
first_in bytes (b ∷ blocks) block last some is =
    subst (λ (x : _). BeginsWith (bytes_in (map bytes (b ∷ blocks)) last) (bytes x)) (sym is)
    (concat (map bytes blocks) ++ last, append_assoc (bytes b) (concat (map bytes blocks)) last)

-- what is left stays as it was
pub freed_is : (full : List (List ℕ)) (taken : ℕ) (left : List (List ℕ)) (after : ℕ) (last : List ℕ) → FreesTaken full taken left after
    → left_of after left last ≡ left_of taken full last
freed_is [] taken left after last frees = rw (frees.0, frees.1) refl
freed_is (block ∷ blocks) taken left after last frees = elim (cases_lt taken (length block)) [
  | inl less ↦ rw ((frees.1 less).0, (frees.1 less).1) refl
  | inr over ↦
      let sum = (frees.0 over).1 in
      let rest : after ≡ taken - length block = omega (arith, sum) in
      rw ((frees.0 over).0, rest) (sym (left_freed taken block blocks last over))
]

-- one block more, behind one that is full
pub pushed_is : {X : Type 0} (bytes : X → List ℕ) (old new : List X) (full : X) (block more : List ℕ) → new ≡ old ++ full ∷ [] → block ≡ more
    → bytes_in (map bytes new) block ≡ bytes_in (map bytes old) (bytes full) ++ more
pushed_is bytes old new full block more is same =
    ap (λ (xs : List ℕ). bytes_in (map bytes new) xs) same
    ∙ ap (λ (xs : _). bytes_in (map bytes xs) more) is
    ∙ ap (λ (xs : List (List ℕ)). bytes_in xs more) (map-append bytes old (full ∷ []))
    ∙ bytes_pushed (map bytes old) (bytes full) more

-- nothing is sent
pub keeps_appends : (old new : Option (List ℕ)) → Keeps old new → Appends old new []
keeps_appends None new kept = tt
keeps_appends (Some xs) None kept = absurd kept
keeps_appends (Some xs) (Some ys) kept = kept ∙ sym (append-nil xs)

pub appends_nothing : (known : Option (List ℕ)) → Appends known known []
appends_nothing None = tt
appends_nothing (Some xs) = sym (append-nil xs)

-- one part after the other
appends_then : (a b c : Option (List ℕ)) (x y : List ℕ) → Appends a b x → Appends b c y → Appends a c (x ++ y)
appends_then None b c x y p q = tt
appends_then (Some xs₁) None c x y p q = absurd p
appends_then (Some xs₁) (Some xs₂) None x y p q = absurd q
appends_then (Some xs₁) (Some xs₂) (Some xs₃) x y p q = q ∙ ap (λ (xs : List ℕ). xs ++ y) p ∙ append_assoc xs₁ x y

pub sends_nothing : (known : Option (List ℕ)) (left : List ℕ) → Sends known known left left
sends_nothing known left = record { sent = []; left = refl; written = appends_nothing known }

pub sends_then : {a b c : Option (List ℕ)} {x y z : List ℕ} → Sends a b x y → Sends b c y z → Sends a c x z
sends_then {a} {b} {c} {x} {y} {z} p q = record {
  sent = p.sent ++ q.sent;
  left = p.left ∙ ap (λ (xs : List ℕ). p.sent ++ xs) q.left ∙ sym (append_assoc p.sent q.sent z);
  written = appends_then a b c p.sent q.sent p.written q.written;
}
