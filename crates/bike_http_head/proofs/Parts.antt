-- What a route's parameter takes of a path is the part behind the path's second slash.
use Rattle.std.proofs.Common.{◌≡◌, ℕ, suc, ◌+◌, ◌-◌, ◌≤◌, List, [], ◌∷◌, ◌++◌, Bool, true, false, ◌==◌, ltb, leb, ◌&&◌, Some, length, take, drop, get_or, refl, sym, ap, ◌∙◌, subst, ◌⊎◌, inl, inr}
use Rattle.std.proofs.Common.{arith, append_assoc, append-nil, length-append}
use Rattle.std.proofs.lemmas.Bool.Decides.{nat_tests}
use Rattle.std.proofs.Math.Seq.{take-append_seam, drop-append_seam, drop-append-add, get_or-append_seam}
use Rattle.std.proofs.lemmas.List.Splits.{slice_split_at, slice_split_none}
use Rattle.std.proofs.lemmas.Str.{IsUtf8-between, IsCharBoundary-after_ascii, IsCharBoundary-before_ascii, IsCharBoundary-end}
use Rattle.std.specs.List.{list_all, slice_split}
use Rattle.std.specs.Str.{IsUtf8, IsCharBoundary}
use Rattle.matchit.specs.Params.{walk, wild_from, wild_stop, part_of}
use Rattle.matchit.specs.Rows.{param_token}
use Rattle.matchit.specs.Seek.{slash, segment}
use Rattle.bike_http_head.specs.Table.{part_in}
use Rattle.bike_http_head.proofs.Fits.{HasNoSlash, Matches}

abbrev pub is_slash : ℕ → Bool
is_slash b = b == slash

-- ---- the form of the patterns with a parameter: a word between slashes, the parameter, and nothing or a slash and more

abbrev pub front : List ℕ → List ℕ
front kind = slash ∷ (kind ++ slash ∷ [])

abbrev pub EndsPlain : List ℕ → Type 0
EndsPlain end = (end ≡ []) ⊎ ((more : List ℕ) × (end ≡ slash ∷ more))

-- ---- where a path that matches is cut

pub and_both : (a b : Bool) → (a && b) ≡ true → (a ≡ true) × (b ≡ true)
and_both true b e = (refl, e)
and_both false b e = absurd (cc e)

and_false : (a b : Bool) → (a && b && false) ≡ false
and_false true true = refl
and_false true false = refl
and_false false b = refl

pub match_text : (text pattern path : List ℕ) → list_all (λ b. ltb b 256) text ≡ true → Matches (text ++ pattern) path → (rest : List ℕ) × (path ≡ text ++ rest) × Matches pattern rest
match_text [] pattern path small m = (path, refl, m)
match_text (b ∷ text) pattern path small (inl (lt, rest, e, m)) =
    let (after, is, more) = match_text text pattern rest (and_both _ _ small).1 m in
    (after, e ∙ ap (λ l. b ∷ l) is, more)
match_text (b ∷ text) pattern path small (inr (inl x)) = let is = x.0 in let lt = (and_both (ltb b 256) _ small).0 in absurd (grind (lt, is, arith, nat_tests))
match_text (b ∷ text) pattern path small (inr (inr x)) = let lt = (and_both (ltb b 256) _ small).0 in absurd (grind (lt, x, arith, nat_tests))

match_end : (end path : List ℕ) → list_all (λ b. ltb b 256) end ≡ true → Matches end path → path ≡ end
match_end end path small m =
    let (rest, is, nothing) = match_text end [] path small (subst (λ l. Matches l path) (sym (append-nil end)) m) in
    is ∙ ap (λ l. end ++ l) nothing ∙ append-nil end

-- the path around the part
abbrev pub Cut : List ℕ → List ℕ → List ℕ → List ℕ → Type 0
Cut kind end path part = (path ≡ front kind ++ (part ++ end)) × HasNoSlash part

pub cut_at : (kind end path : List ℕ) → list_all (λ b. ltb b 256) (front kind) ≡ true → list_all (λ b. ltb b 256) end ≡ true → Matches (front kind ++ param_token ∷ end) path
    → (part : List ℕ) × Cut kind end path part
cut_at kind end path small last m =
    let (rest, is, more) = match_text (front kind) (param_token ∷ end) path small m in
    by rest is more
  where
    by : (rest : List ℕ) → path ≡ front kind ++ rest → Matches (param_token ∷ end) rest → (part : List ℕ) × Cut kind end path part
    by rest is (inl x) = absurd (omega (arith, x.0))
    by rest is (inr (inl (e, part, behind, split, plain, m))) =
        (part, (is ∙ ap (λ l. front kind ++ l) (split ∙ ap (λ l. part ++ l) (match_end end behind last m)), plain))
    by rest is (inr (inr x)) = absurd (omega (arith, x))

-- ---- the part

third : (path a b c : List ℕ) (rest : List (List ℕ)) → slice_split (λ b. b == 47) path ≡ a ∷ b ∷ c ∷ rest → part_in path ≡ Some c
unfolding part_in
third path a b c rest e = rw e refl

split_end : (part end : List ℕ) → HasNoSlash part → EndsPlain end → (rest : List (List ℕ)) × (slice_split is_slash (part ++ end) ≡ part ∷ rest)
split_end part end plain (inl none) = ([], ap (λ l. slice_split is_slash (part ++ l)) none ∙ ap (slice_split is_slash) (append-nil part) ∙ slice_split_none is_slash part plain)
split_end part end plain (inr (more, is)) = (_, ap (λ l. slice_split is_slash (part ++ l)) is ∙ slice_split_at is_slash part slash more plain refl)

front_then : (kind rest : List ℕ) → front kind ++ rest ≡ slash ∷ (kind ++ slash ∷ rest)
front_then kind rest = ap (λ l. slash ∷ l) (append_assoc kind (slash ∷ []) rest)

pub part_there : (kind end path part : List ℕ) → HasNoSlash kind → EndsPlain end → Cut kind end path part → part_in path ≡ Some part
part_there kind end path part plain ends cut =
    let (rest, last) = split_end part end cut.1 ends in
    let middle : slice_split is_slash (kind ++ slash ∷ (part ++ end)) ≡ kind ∷ part ∷ rest =
    slice_split_at is_slash kind slash (part ++ end) plain refl ∙ ap (λ l. kind ∷ l) last in
    third path [] kind part rest (ap (slice_split is_slash) (cut.0 ∙ front_then kind (part ++ end)) ∙ ap (λ l. [] ∷ l) middle)

-- it is text, as the path is

front_long : (kind : List ℕ) → length (front kind) ≡ suc (length kind + 1)
front_long kind = ap suc (length-append kind (slash ∷ []))

slash_before : (kind rest : List ℕ) → get_or (front kind ++ rest) (suc (length kind)) 0 ≡ slash
slash_before kind rest = ap (λ l. get_or l (suc (length kind)) 0) (front_then kind rest) ∙ get_or-append_seam kind slash rest 0

starts_at : (kind rest path : List ℕ) → path ≡ front kind ++ rest → IsUtf8 path → IsCharBoundary path (length (front kind))
starts_at kind rest path is utf8 =
    let here : get_or path (suc (length kind)) 0 ≡ 47 = ap (λ l. get_or l (suc (length kind)) 0) is ∙ slash_before kind rest in
    let len = ap length is ∙ length-append (front kind) rest in
    let long = front_long kind in
    subst (IsCharBoundary path) (omega (arith, long)) (IsCharBoundary-after_ascii path (suc (length kind)) utf8 (omega (arith, len, long)) (omega (arith, here)))

ends_at : (before end path : List ℕ) → path ≡ before ++ end → EndsPlain end → IsCharBoundary path (length before)
ends_at before end path is (inl none) =
    let whole : path ≡ before = is ∙ ap (λ l. before ++ l) none ∙ append-nil before in
    subst (λ (l : List ℕ). IsCharBoundary path (length l)) whole (IsCharBoundary-end path)
ends_at before end path is (inr (more, slashed)) =
    let whole : path ≡ before ++ slash ∷ more = is ∙ ap (λ l. before ++ l) slashed in
    let here : get_or path (length before) 0 ≡ 47 = ap (λ l. get_or l (length before) 0) whole ∙ get_or-append_seam before slash more 0 in
    let len = ap length whole ∙ length-append before (slash ∷ more) in
    IsCharBoundary-before_ascii path (length before) (omega (arith, len)) (omega (arith, here))

between_is : (front part end path : List ℕ) → path ≡ front ++ (part ++ end) → take (length part) (drop (length front) path) ≡ part
between_is front part end path is = ap (λ l. take (length part) (drop (length front) l)) is ∙ ap (take (length part)) (drop-append_seam front (part ++ end)) ∙ take-append_seam part end

pub part_text : (kind end path part : List ℕ) → EndsPlain end → Cut kind end path part → IsUtf8 path → IsUtf8 part
part_text kind end path part ends cut utf8 =
    let n : ℕ = length (front kind) in
    let m : ℕ = length (front kind ++ part) in
    let long : m ≡ n + length part = length-append (front kind) part in
    let whole : path ≡ (front kind ++ part) ++ end = cut.0 ∙ sym (append_assoc (front kind) part end) in
    let text = IsUtf8-between path n m utf8 (omega (arith, long)) (starts_at kind (part ++ end) path cut.0 utf8) (ends_at (front kind ++ part) end path whole ends) in
    let size : m - n ≡ length part = omega (arith, long) in
    subst IsUtf8 (ap (λ k. take k (drop n path)) size ∙ between_is (front kind) part end path cut.0) text

-- ---- what the parameter takes

wild_text : (text end : List ℕ) (len token at : ℕ) → list_all (λ b. ltb b 256) text ≡ true → at + length text ≤ len
    → wild_from (text ++ param_token ∷ end) len token at ≡ (token + length text, at + length text)
wild_text [] end len token at small fits = let t : token + 0 ≡ token = omega arith in let a : at + 0 ≡ at = omega arith in rw (t, a) refl
wild_text (b ∷ text) end len token at small fits =
    let both = and_both (ltb b 256) (list_all (λ b. ltb b 256) text) small in
    let here : ltb at len ≡ true = grind (fits, arith, nat_tests) in
    let more = wild_text text end len (token + 1) (at + 1) both.1 (omega arith) in
    let t : token + 1 + length text ≡ token + suc (length text) = omega arith in
    let a : at + 1 + length text ≡ at + suc (length text) = omega arith in
    rw (both.0, here) (more ∙ rw (t, a) refl)

segment_of : (part more : List ℕ) → HasNoSlash part → length (segment (part ++ slash ∷ more)) ≡ length part + 1
segment_of [] more plain = refl
segment_of (b ∷ part) more plain =
    let no : (b == slash) ≡ false = plain 0 0 (omega arith) in
    let rest = segment_of part more (λ i d lt. plain (suc i) d (omega arith)) in
    rw no (let more : suc (length (segment (part ++ slash ∷ more))) ≡ suc (length part) + 1 = omega (arith, rest) in more)

-- the parameter's part ends where the rest of the pattern begins
stops_at : (text end part : List ℕ) → EndsPlain end → HasNoSlash part
    → wild_stop (text ++ param_token ∷ end) (length text) (text ++ (part ++ end)) (length text) ≡ length text + length part
stops_at text end part (inl none) plain =
    let n : ℕ = length text in
    let len = length-append text (param_token ∷ end) in
    let nothing = ap length none in
    let last : ltb (n + 1) (length (text ++ param_token ∷ end)) ≡ false = grind (len, nothing, arith, nat_tests) in
    let size : length (text ++ (part ++ end)) ≡ n + length part = omega (arith, length-append text (part ++ end), length-append part end, nothing) in
    rw (last, and_false (ltb n (length (text ++ param_token ∷ end))) (get_or (text ++ param_token ∷ end) n 0 == param_token)) size
stops_at text end part (inr (more, is)) plain =
    let n : ℕ = length text in
    let len = length-append text (param_token ∷ end) in
    let some = ap length is in
    let here : ltb n (length (text ++ param_token ∷ end)) ≡ true = grind (len, arith, nat_tests) in
    let next : ltb (n + 1) (length (text ++ param_token ∷ end)) ≡ true = grind (len, some, arith, nat_tests) in
    let token : get_or (text ++ param_token ∷ end) n 0 ≡ param_token = get_or-append_seam text param_token end 0 in
    let first : length (segment (drop n (text ++ (part ++ end)))) ≡ length part + 1 =
    ap (λ l. length (segment l)) (drop-append_seam text (part ++ end) ∙ ap (λ l. part ++ l) is) ∙ segment_of part more plain in
    let second : length (segment (drop (n + 1) (text ++ param_token ∷ end))) ≡ 1 =
    ap (λ l. length (segment l)) (drop-append-add text (param_token ∷ end) 1 ∙ is) in
    rw (here, next, token, first, second) (omega arith)

pub walk_is : (text end part label : List ℕ) (name : ℕ × ℕ) → EndsPlain end → HasNoSlash part → list_all (λ b. ltb b 256) text ≡ true
    → walk (text ++ param_token ∷ end) label (text ++ (part ++ end)) (name ∷ []) 0 0 ≡ (part_of label name.0 name.1, part) ∷ []
walk_is text end part label name ends plain small =
    let path : List ℕ = text ++ (part ++ end) in
    let n : ℕ = length text in
    let size = length-append text (part ++ end) in
    let none : 0 + n ≡ n = omega arith in
    let from : wild_from (text ++ param_token ∷ end) (length path) 0 0 ≡ (n, n) = wild_text text end (length path) 0 0 small (omega (arith, size)) ∙ rw none refl in
    let stop = stops_at text end part ends plain in
    let whole = length-append part end in
    let low : leb n (n + length part) ≡ true = grind (arith, nat_tests) in
    let high : leb (n + length part) (length path) ≡ true = grind (size, whole, arith, nat_tests) in
    let wide : n + length part - n ≡ length part = omega arith in
    rw (from, stop, low, high, wide, between_is text part end path refl) refl
