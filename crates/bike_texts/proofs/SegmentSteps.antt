-- Reading segments, one after the other.
use Rattle.std.proofs.Common.{◌≡◌, ℕ, ◌+◌, List, [], ◌∷◌, ◌++◌, length, Option, Some, None, refl, sym, ap, ◌∙◌, ◌≤◌, false, eqb, arith, append_assoc}
use Rattle.std.proofs.lemmas.Bool.{eqb-false}
use Rattle.std.proofs.lemmas.List.{append-nil, length-append}
use Rattle.std.proofs.lemmas.Option.{some_pair_parts}
use Rattle.bike_fields.specs.Values.{SegmentRow}
use Rattle.bike_texts.specs.Parts.{Parts}
use Rattle.bike_texts.specs.Reading.{◌>>=◌, part_at}
use Rattle.bike_texts.specs.SegmentReading.{segment_of, all_of}

-- what was read, and in front of it what was read before
abbrev pub with_front : List SegmentRow → Option (List SegmentRow) → Option (List SegmentRow)
with_front front read = read >>= λ ss. Some (front ++ ss)

regroup : (front : List SegmentRow) (s : SegmentRow) (read : Option (List SegmentRow)) → with_front front (read >>= λ ss. Some (s ∷ ss)) ≡ with_front (front ++ s ∷ []) read
regroup front s None = refl
regroup front s (Some ss) = ap Some (sym (append_assoc front (s ∷ []) ss))

pub one_more : (front : List SegmentRow) (s : SegmentRow) (p : List ℕ) (old new : Parts) (all : Option (List SegmentRow)) → part_at old ≡ Some (p, new) → segment_of p ≡ Some s
    → with_front front (all_of old) ≡ all → with_front (front ++ s ∷ []) (all_of new) ≡ all
unfolding all_of
one_more front s p [] new all h e i = absurd cc
one_more front s p (q ∷ qs) new all h e i =
    let t = some_pair_parts q p qs new h in
    let a : q ≡ p = t.0 in
    let b : qs ≡ new = t.1 in
    let c : segment_of q ≡ Some s = ap segment_of a ∙ e in
    sym (regroup front s (all_of new)) ∙ ap (λ ps. with_front front (all_of ps >>= λ ss. Some (s ∷ ss))) (sym b) ∙ ap (λ o. with_front front (o >>= λ x. all_of qs >>= λ xs. Some (x ∷ xs))) (sym c) ∙ i

pub fails_here : (front : List SegmentRow) (p : List ℕ) (old new : Parts) (all : Option (List SegmentRow)) → part_at old ≡ Some (p, new) → segment_of p ≡ None → with_front front (all_of old) ≡ all
    → all ≡ None
unfolding all_of
fails_here front p [] new all h e i = absurd cc
fails_here front p (q ∷ qs) new all h e i =
    let t = some_pair_parts q p qs new h in
    let a : q ≡ p = t.0 in
    let c : segment_of q ≡ None = ap segment_of a ∙ e in
    sym i ∙ ap (λ o. with_front front (o >>= λ x. all_of qs >>= λ xs. Some (x ∷ xs))) c

pub is_done : (front : List SegmentRow) (old : Parts) (all : Option (List SegmentRow)) → part_at old ≡ None → with_front front (all_of old) ≡ all → all ≡ Some front
unfolding all_of
is_done front [] all h i = sym i ∙ ap Some (append-nil front)
is_done front (q ∷ qs) all h i = absurd cc

pub fewer : (p : List ℕ) (old new : Parts) → part_at old ≡ Some (p, new) → length old ≡ length new + 1
fewer p [] new h = absurd cc
fewer p (q ∷ qs) new h = let t = some_pair_parts q p qs new h in let b : qs ≡ new = t.1 in omega (arith, ap length b)

pub one_fits : {A : Type 0} → (most : ℕ) (front : List A) (a : A) → false ≡ eqb (length front) most → length front ≤ most → length (front ++ a ∷ []) ≤ most
one_fits most front a room few = let n = length-append front (a ∷ []) in let e = eqb-false (length front) most (sym room) in omega (arith, n, e, few)
