-- The history behind a number, page by page.
use Rattle.std.proofs.Common.{◌≡◌, ℕ, zero, suc, ◌+◌, ◌-◌, ◌<◌, List, [], ◌∷◌, ◌++◌, length, take, drop, Bool, cond, ◌⊎◌, inl, inr, Option, Some, None, refl, sym, ap, ◌∙◌, subst, arith, append-nil, length-append}
use Rattle.std.specs.Prelude.{map, nat_lt}
use Rattle.std.specs.List.{filter, flat_map}
use Rattle.std.proofs.lemmas.Bool.{lt-ltb, le-ltb}
use Rattle.std.proofs.lemmas.Grind.{flat_map-append}
use Rattle.std.proofs.lemmas.List.{take-append-drop}
use Rattle.std.proofs.lemmas.List.Folds.{flat_map-map}
use Rattle.bike_operator.specs.Operator.{Operator, AcceptedRequest}
use Rattle.bike_operator.specs.Requests.{RequestTexts, request_texts, line_again}
use Rattle.bike_book.specs.Stored.{numbers_from}
use Rattle.bike_queries.specs.declared.requests.TheConstants.{REQUESTS_A_PAGE}
use Rattle.bike_queries.specs.Requests.{request_page}
use Rattle.bike_batch.specs.Again.{lines_again, history_text}

-- ---- lists

module _ {X : Type 0} where
  -- where all numbers are later, all are behind
  all_behind : (m a : ℕ) (xs : List X) → m < a → filter (λ (e : ℕ × X). nat_lt m e.0) (numbers_from a xs) ≡ numbers_from a xs
  all_behind m a [] lt = refl
  all_behind m a (x ∷ xs) lt =
      let rest = filter (λ (e : ℕ × X). nat_lt m e.0) (numbers_from (suc a) xs) in
      ap (λ (b : Bool). cond b ((a, x) ∷ rest) rest) (lt-ltb m a lt)
      ∙ ap (λ (es : List (ℕ × X)). (a, x) ∷ es) (all_behind m (suc a) xs (omega (arith, lt)))

  -- what is behind a number: all but so many, as many as it is greater than that before the first
  behind_from : (m a n : ℕ) (xs : List X) → m - a ≡ n
      → filter (λ (e : ℕ × X). nat_lt m e.0) (numbers_from (suc a) xs) ≡ numbers_from (suc (a + n)) (drop n xs)
  behind_from m a zero xs is =
      let same : a ≡ a + zero = omega arith in
      all_behind m (suc a) xs (omega (arith, is)) ∙ ap (λ (k : ℕ). numbers_from (suc k) xs) same
  behind_from m a (suc n) [] is = refl
  behind_from m a (suc n) (x ∷ xs) is =
      let rest = filter (λ (e : ℕ × X). nat_lt m e.0) (numbers_from (suc (suc a)) xs) in
      let same : suc a + n ≡ a + suc n = omega arith in
      ap (λ (b : Bool). cond b ((suc a, x) ∷ rest) rest) (le-ltb m (suc a) (omega (arith, is)))
      ∙ (behind_from m (suc a) n xs (omega (arith, is)) ∙ ap (λ (k : ℕ). numbers_from (suc k) (drop n xs)) same)

  numbers_then : (a b : ℕ) (xs ys : List X) → b ≡ a + length xs → numbers_from a (xs ++ ys) ≡ numbers_from a xs ++ numbers_from b ys
  numbers_then a b [] ys is = let same : a ≡ b = omega (arith, is) in ap (λ (k : ℕ). numbers_from k ys) same
  numbers_then a b (x ∷ xs) ys is = ap (λ (es : List (ℕ × X)). (a, x) ∷ es) (numbers_then (suc a) b xs ys (omega (arith, is)))

  take_numbers : (k a : ℕ) (xs : List X) → take k (numbers_from a xs) ≡ numbers_from a (take k xs)
  take_numbers zero a xs = refl
  take_numbers (suc k) a [] = refl
  take_numbers (suc k) a (x ∷ xs) = ap (λ (es : List (ℕ × X)). (a, x) ∷ es) (take_numbers k (suc a) xs)

  drop_taken : (k : ℕ) (xs : List X) → drop (length (take k xs)) xs ≡ drop k xs
  drop_taken zero xs = refl
  drop_taken (suc k) [] = refl
  drop_taken (suc k) (x ∷ xs) = drop_taken k xs

  drop_then : (n k m : ℕ) (xs : List X) → m ≡ n + k → drop k (drop n xs) ≡ drop m xs
  drop_then zero k m xs is = let same : k ≡ m = omega (arith, is) in ap (λ (i : ℕ). drop i xs) same
  drop_then (suc n) k zero xs is = absurd (omega (arith, is))
  drop_then (suc n) zero (suc m) [] is = refl
  drop_then (suc n) (suc k) (suc m) [] is = refl
  drop_then (suc n) k (suc m) (x ∷ xs) is = drop_then n k m xs (omega (arith, is))

-- ---- the lines of requests

pub lines_more : (xs : List RequestTexts) (x : RequestTexts) → lines_again (xs ++ x ∷ []) ≡ lines_again xs ++ (line_again x ++ 10 ∷ [])
lines_more xs x =
    flat_map-append (λ (y : RequestTexts). line_again y ++ 10 ∷ []) xs (x ∷ [])
    ∙ ap (λ (bytes : List ℕ). lines_again xs ++ bytes) (append-nil (line_again x ++ 10 ∷ []))

lines_then : (xs ys : List RequestTexts) → lines_again (xs ++ ys) ≡ lines_again xs ++ lines_again ys
lines_then xs ys = flat_map-append (λ (y : RequestTexts). line_again y ++ 10 ∷ []) xs ys

-- ---- pages

-- accepted requests with their numbers, as texts
abbrev pub texts_from : ℕ → List AcceptedRequest → List RequestTexts
texts_from a xs = map request_texts (numbers_from a xs)

-- so many of the requests that are there have no later number
abbrev pub passed : Operator → ℕ → ℕ
passed s n = n - s.history.archived

-- the number before the first that is later: this one, or that of the last that was archived
abbrev pub number_before : Operator → ℕ → ℕ
number_before s n = s.history.archived + passed s n

-- the history behind a number, as texts
pub text_behind : (s : Operator) (n : ℕ) → history_text s n ≡ lines_again (texts_from (suc (number_before s n)) (drop (passed s n) s.history.items))
text_behind s n =
    ap (flat_map (λ (e : ℕ × AcceptedRequest). line_again (request_texts e) ++ 10 ∷ []))
    (behind_from n s.history.archived (passed s n) s.history.items refl)
    ∙ sym (flat_map-map (λ (x : RequestTexts). line_again x ++ 10 ∷ []) request_texts
    (numbers_from (suc (number_before s n)) (drop (passed s n) s.history.items)))

page_behind : (s : Operator) (n : ℕ)
    → request_page s n ≡ texts_from (suc (number_before s n)) (take REQUESTS_A_PAGE (drop (passed s n) s.history.items))
page_behind s n =
    ap (λ (es : List (ℕ × AcceptedRequest)). map request_texts (take REQUESTS_A_PAGE es))
    (behind_from n s.history.archived (passed s n) s.history.items refl)
    ∙ ap (map request_texts) (take_numbers REQUESTS_A_PAGE (suc (number_before s n)) (drop (passed s n) s.history.items))

map_then : {X Y : Type 0} (f : X → Y) (xs ys : List X) → map f (xs ++ ys) ≡ map f xs ++ map f ys
map_then f [] ys = refl
map_then f (x ∷ xs) ys = ap (λ zs. f x ∷ zs) (map_then f xs ys)

-- The requests end with one of this number, and one at least is there.
pub record EndsAt (xs : List RequestTexts) (number : ℕ) : Type 0 where
  pub front : List RequestTexts
  pub last : RequestTexts
  pub split : xs ≡ front ++ last ∷ []
  pub number_is : last.number ≡ number

ends_at : (a : ℕ) (x : AcceptedRequest) (xs : List AcceptedRequest) → EndsAt (texts_from (suc a) (x ∷ xs)) (a + length (x ∷ xs))
ends_at a x [] = record { front = []; last = request_texts (suc a, x); split = refl; number_is = omega arith }
ends_at a x (y ∷ ys) =
    let it = ends_at (suc a) y ys in
    record {
      front = request_texts (suc a, x) ∷ it.front;
      last = it.last;
      split = ap (λ (zs : List RequestTexts). request_texts (suc a, x) ∷ zs) it.split;
      number_is = omega (arith, it.number_is);
    }

-- THE PAGE behind a number: it is empty and nothing is left, or it ends with a later number, behind which the rest is
pub record IsLastPage (s : Operator) (n : ℕ) : Type 0 where
  pub page : request_page s n ≡ []
  pub text : history_text s n ≡ []

pub record HasPage (s : Operator) (n : ℕ) : Type 0 where
  pub last : ℕ
  pub ends : EndsAt (request_page s n) last
  pub later : n < last
  pub text : history_text s n ≡ lines_again (request_page s n) ++ history_text s last

pub page_of : (s : Operator) (n : ℕ) → IsLastPage s n ⊎ HasPage s n
page_of s n = go (drop (passed s n) s.history.items) refl where
  go : (ys : List AcceptedRequest) → drop (passed s n) s.history.items ≡ ys → IsLastPage s n ⊎ HasPage s n
  go [] is = inl (record {
    page = page_behind s n ∙ ap (λ (ys : List AcceptedRequest). texts_from (suc (number_before s n)) (take REQUESTS_A_PAGE ys)) is;
    text = text_behind s n ∙ ap (λ (ys : List AcceptedRequest). lines_again (texts_from (suc (number_before s n)) ys)) is;
  })
  go (y ∷ ys) is =
      let front = take REQUESTS_A_PAGE (y ∷ ys) in
      let rest = drop REQUESTS_A_PAGE (y ∷ ys) in
      let begin = number_before s n in
      let last = begin + length front in
      let page : request_page s n ≡ texts_from (suc begin) front =
      page_behind s n ∙ ap (λ (zs : List AcceptedRequest). texts_from (suc begin) (take REQUESTS_A_PAGE zs)) is in
      let more : passed s last ≡ passed s n + length front = omega arith in
      let left : drop (passed s last) s.history.items ≡ rest =
      ap (λ (k : ℕ). drop k s.history.items) more
      ∙ (sym (drop_then (passed s n) (length front) (passed s n + length front) s.history.items refl)
      ∙ (ap (drop (length front)) is ∙ drop_taken REQUESTS_A_PAGE (y ∷ ys))) in
      let whole : texts_from (suc begin) (drop (passed s n) s.history.items) ≡ texts_from (suc begin) front ++ texts_from (suc last) rest =
      ap (texts_from (suc begin)) (is ∙ sym (take-append-drop REQUESTS_A_PAGE (y ∷ ys)))
      ∙ (ap (map request_texts) (numbers_then (suc begin) (suc last) front rest (omega arith))
      ∙ map_then request_texts (numbers_from (suc begin) front) (numbers_from (suc last) rest)) in
      let own : number_before s last ≡ last = omega arith in
      let behind : lines_again (texts_from (suc last) rest) ≡ history_text s last =
      sym (text_behind s last ∙ (ap (λ (zs : List AcceptedRequest). lines_again (texts_from (suc (number_before s last)) zs)) left
      ∙ ap (λ (k : ℕ). lines_again (texts_from (suc k) rest)) own)) in
      inr (record {
        last = last;
        ends = subst (λ (xs : List RequestTexts). EndsAt xs last) (sym page) (ends_at begin y (take 63 ys));
        later = omega arith;
        text = text_behind s n ∙ (ap lines_again whole ∙ (lines_then (texts_from (suc begin) front) (texts_from (suc last) rest)
            ∙ (ap (λ (bytes : List ℕ). lines_again (texts_from (suc begin) front) ++ bytes) behind
            ∙ ap (λ (xs : List RequestTexts). lines_again xs ++ history_text s last) (sym page))));
      })

-- What is told of a page: the number of its last request, where that is later.
abbrev pub TellsLast : List RequestTexts → ℕ → Option ℕ → Type 0
TellsLast page n result = ((front : List RequestTexts) (x : RequestTexts) → page ≡ front ++ x ∷ [] → n < x.number → result ≡ Some x.number)
    × (page ≡ [] → result ≡ None)

pub page_ended : (s : Operator) (n : ℕ) (page : List RequestTexts) → page ≡ request_page s n → TellsLast page n None → history_text s n ≡ []
page_ended s n page is tells = go (page_of s n) where
  go : IsLastPage s n ⊎ HasPage s n → history_text s n ≡ []
  go (inl it) = it.text
  go (inr it) =
      let ends = it.ends in
      let told : None ≡ Some ends.last.number = tells.0 ends.front ends.last (is ∙ ends.split) (omega (arith, it.later, ends.number_is)) in
      absurd cc

-- one line at least is in it
pub record GoesOn (s : Operator) (n last : ℕ) (page : List RequestTexts) : Type 0 where
  pub some : 0 < length (lines_again page)
  pub text : history_text s n ≡ lines_again page ++ history_text s last

some_lines : (xs front : List RequestTexts) (x : RequestTexts) → xs ≡ front ++ x ∷ [] → 0 < length (lines_again xs)
some_lines xs front x is =
    let one = length-append (line_again x) (10 ∷ []) in
    let all = length-append (lines_again front) (line_again x ++ 10 ∷ []) in
    let split : lines_again xs ≡ lines_again front ++ (line_again x ++ 10 ∷ []) = ap lines_again is ∙ lines_more front x in
    omega (arith, one, all, ap length split)

pub page_goes : (s : Operator) (n last : ℕ) (page : List RequestTexts) → page ≡ request_page s n → TellsLast page n (Some last) → GoesOn s n last page
page_goes s n last page is tells = go (page_of s n) where
  go : IsLastPage s n ⊎ HasPage s n → GoesOn s n last page
  go (inl it) = let told : Some last ≡ None = tells.1 (is ∙ it.page) in absurd cc
  go (inr it) =
      let ends = it.ends in
      let told : Some last ≡ Some ends.last.number = tells.0 ends.front ends.last (is ∙ ends.split) (omega (arith, it.later, ends.number_is)) in
      let shown : last ≡ ends.last.number = cc in
      let same : it.last ≡ last = sym (shown ∙ ends.number_is) in
      record {
        some = some_lines page ends.front ends.last (is ∙ ends.split);
        text = it.text ∙ (ap (λ (xs : List RequestTexts). lines_again xs ++ history_text s it.last) (sym is)
            ∙ ap (λ (k : ℕ). lines_again page ++ history_text s k) same);
      }
