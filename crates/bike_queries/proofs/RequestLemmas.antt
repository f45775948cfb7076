-- What is found and read of the history behind a number. No number of a row is greater than the greatest: so a request that was read is behind a number
-- just where it is behind the lesser of that and the greatest, and where none is behind the greatest, none is behind a greater number.
use Rattle.std.proofs.Common.{◌≡◌, ◌<◌, ◌≤◌, inl, inr, ℕ, List, [], ◌∷◌, map, filter, find, take, slice_get, min, nat_le, ◌&&◌, Bool, true, false, cond, Option, Some, None}
use Rattle.std.proofs.Common.{Result, Ok, refl, sym, ap, ap₂, subst, ◌∙◌, arith}
use Rattle.std.specs.Prelude.{nat_lt, option_map}
use Rattle.std.specs.List.{AllZip}
use Rattle.std.proofs.lemmas.Bool.{lt-ltb, ltb-true, leb-true, leb-false}
use Rattle.std.proofs.lemmas.List.{take-map}
use Rattle.std.proofs.lemmas.Option.{same_Some}
use Rattle.sqlite_value.specs.declared.value.Value.{Value}
use Rattle.sqlite_value.specs.Order.{Row, column}
use Rattle.sqlite_rules.specs.Lists.{Has}
use Rattle.bike_sql.proofs.RowListLemmas.{has_filter}
use Rattle.bike_operator.specs.Operator.{Operator, AcceptedRequest}
use Rattle.bike_operator.specs.Requests.{RequestTexts, request_texts}
use Rattle.bike_book.specs.Numbers.{most_requests}
use Rattle.bike_book.specs.Rows.{number_value}
use Rattle.bike_book.specs.Stored.{stored_request, with_numbers}
use Rattle.bike_schema.specs.declared.fault.StatementFault.{StatementFault}
use Rattle.bike_schema.specs.Columns.{moment_in, read_or_failed, request_count_in, text_in}
use Rattle.bike_schema.proofs.ReadLemmas.{moment_read, text_read}
use Rattle.bike_queries.specs.declared.requests.RequestRow.{RequestRow}
use Rattle.bike_queries.specs.Requests.{ReadsRequest, is_behind, request_after, request_page, texts_row}
use Rattle.bike_queries.specs.Spans.{lies_in}
use Rattle.bike_queries.proofs.AfterLaw.{first_passed}
use Rattle.bike_queries.proofs.SpanLaw.{behind_number, is_spanned, spanned_is}

-- ---- lists

-- the rows that pass are those of the entries that do
passing_rows : {A : Type 0} (row : A → Row) (pass : Row → Bool) (test : A → Bool) (xs : List A) → ((x : A) → pass (row x) ≡ test x) → filter pass (map row xs) ≡ map row (filter test xs)
passing_rows row pass test [] same = refl
passing_rows {A} row pass test (x ∷ xs) same = rw (same x) (go (test x) (passing_rows row pass test xs same)) where
  go : (b : Bool) → filter pass (map row xs) ≡ map row (filter test xs)
      → cond b (row x ∷ filter pass (map row xs)) (filter pass (map row xs)) ≡ map row (cond b (x ∷ filter test xs) (filter test xs))
  go true rest = ap (λ (rs : List Row). row x ∷ rs) rest
  go false rest = rest

found_passes : {A : Type 0} (p : A → Bool) (xs : List A) (x : A) → find p xs ≡ Some x → p x ≡ true
found_passes p [] x is = absurd cc
found_passes {A} p (y ∷ ys) x is = go (p y) refl is (found_passes p ys x) where
  go : (b : Bool) → p y ≡ b → cond b (Some y) (find p ys) ≡ Some x → (find p ys ≡ Some x → p x ≡ true) → p x ≡ true
  go true passes is rest = ap p (sym (same_Some y x is)) ∙ passes
  go false fails is rest = rest is

-- what passes the one test passes the other
module _ {A : Type 0} (p q : A → Bool) (then : (x : A) → q x ≡ true → p x ≡ true) where
  none_passes : (xs : List A) → filter p xs ≡ [] → filter q xs ≡ []
  none_passes [] none = refl
  none_passes (x ∷ xs) none = go (q x) refl (p x) refl none (none_passes xs) where
    go : (b : Bool) → q x ≡ b → (a : Bool) → p x ≡ a → cond a (x ∷ filter p xs) (filter p xs) ≡ [] → (filter p xs ≡ [] → filter q xs ≡ []) → cond b (x ∷ filter q xs) (filter q xs) ≡ []
    go b is true was none rest = absurd cc
    go false is false was none rest = rest none
    go true is false was none rest = absurd (let e : true ≡ false = sym (then x is) ∙ was in cc)

  none_found : (xs : List A) → find p xs ≡ None → find q xs ≡ None
  none_found [] none = refl
  none_found (x ∷ xs) none = go (q x) refl (p x) refl none (none_found xs) where
    go : (b : Bool) → q x ≡ b → (a : Bool) → p x ≡ a → cond a (Some x) (find p xs) ≡ None → (find p xs ≡ None → find q xs ≡ None) → cond b (Some x) (find q xs) ≡ None
    go b is true was none rest = absurd cc
    go false is false was none rest = rest none
    go true is false was none rest = absurd (let e : true ≡ false = sym (then x is) ∙ was in cc)

and_first : (a b : Bool) → (a && b) ≡ true → a ≡ true
and_first true b is = refl
and_first false b is = absurd cc

-- ---- numbers beyond the greatest

later_still : (most number n : ℕ) → most < number → nat_lt number n ≡ true → nat_lt most n ≡ true
later_still most number n far is = lt-ltb most n (omega (arith, far, ltb-true number n is))

module _ {A : Type 0} (number most : ℕ) (es : List (ℕ × A)) where
  abbrev behind : ℕ → List (ℕ × A)
  behind n = filter (λ e. nat_lt n e.0) es

  -- the first entries, none of which has a greater number than the greatest
  first_behind : ((e : ℕ × A) → Has (take 64 (behind (min number most))) e → e.0 ≤ most) → take 64 (behind (min number most)) ≡ take 64 (behind number)
  first_behind within = by (nat_le number most) refl where
    none_left : (xs : List (ℕ × A)) → behind most ≡ xs → ((e : ℕ × A) → Has (take 64 xs) e → e.0 ≤ most) → xs ≡ []
    none_left [] is few = refl
    none_left (e ∷ xs) is few =
        let passes = (has_filter (λ (x : ℕ × A). nat_lt most x.0) es e (subst (λ (ys : List (ℕ × A)). Has ys e) (sym is) (inl refl))).1 in
        absurd (omega (arith, few e (inl refl), ltb-true most e.0 passes))

    by : (b : Bool) → nat_le number most ≡ b → take 64 (behind (min number most)) ≡ take 64 (behind number)
    by true is = let near : min number most ≡ number = omega (arith, leb-true number most is) in ap (λ (n : ℕ). take 64 (behind n)) near
    by false is =
        let far : most < number = omega (arith, leb-false number most is) in
        let greatest : min number most ≡ most = omega (arith, far) in
        let none = none_left (behind most) refl (subst (λ (n : ℕ). (e : ℕ × A) → Has (take 64 (behind n)) e → e.0 ≤ most) greatest within) in
        let beyond = none_passes (λ (e : ℕ × A). nat_lt most e.0) (λ e. nat_lt number e.0) (λ e. later_still most number e.0 far) es none in
        ap (λ (n : ℕ). take 64 (behind n)) greatest ∙ ap (take 64) (none ∙ sym beyond)

  -- the first entry that passes a test
  module _ (test : ℕ × A → Bool) where
    abbrev found : ℕ → Option (ℕ × A)
    found n = find (λ e. nat_lt n e.0 && test e) es

    then_behind : most < number → (e : ℕ × A) → (nat_lt number e.0 && test e) ≡ true → (nat_lt most e.0 && test e) ≡ true
    then_behind far e is = go (nat_lt number e.0) refl is where
      go : (b : Bool) → nat_lt number e.0 ≡ b → (b && test e) ≡ true → (nat_lt most e.0 && test e) ≡ true
      go true behind is = ap (λ b. b && test e) (later_still most number e.0 far behind) ∙ is
      go false behind is = absurd cc

    found_behind : ((e : ℕ × A) → found (min number most) ≡ Some e → e.0 ≤ most) → found (min number most) ≡ found number
    found_behind within = by (nat_le number most) refl where
      by : (b : Bool) → nat_le number most ≡ b → found (min number most) ≡ found number
      by true is = let near : min number most ≡ number = omega (arith, leb-true number most is) in ap found near
      by false is = go (found most) refl where
        far : most < number
        far = omega (arith, leb-false number most is)

        greatest : min number most ≡ most
        greatest = omega (arith, far)

        go : (o : Option (ℕ × A)) → found most ≡ o → found (min number most) ≡ found number
        go None none =
            ap found greatest ∙ none ∙ sym (none_found (λ (e : ℕ × A). nat_lt most e.0 && test e) (λ e. nat_lt number e.0 && test e) (then_behind far) es none)
        go (Some e) one =
            let passes = found_passes (λ (x : ℕ × A). nat_lt most x.0 && test x) es e one in
            absurd (omega (arith, within e (ap found greatest ∙ one), ltb-true most e.0 (and_first _ _ passes)))

-- ---- what is read

-- the value, or a failure
abbrev Told : {X : Type 0} → X → Option X → Type 0
Told x found = ◌≡◌ {A = Result _ StatementFault} (Ok x) (read_or_failed found)

count_read : {count n : ℕ} {v : Value} → Told count (request_count_in v) → v ≡ number_value n → count ≡ n
count_read {count} {n} told is = let same : Told count (Some n) = told ∙ ap (λ w. read_or_failed (request_count_in w)) is in cc

-- of the columns of a row
pub columns_read : (count : ℕ) {x : RequestTexts} {row : Row} → count ≤ most_requests → x.number ≡ count → Told count (request_count_in (column row 0)) → Told x.moment (moment_in (column row 1))
    → text_in (column row 2) ≡ Some x.caller → text_in (column row 3) ≡ Some x.key → text_in (column row 4) ≡ Some x.command → text_in (column row 5) ≡ Some x.reply → ReadsRequest row x
columns_read count {x} {row} few is number moment caller key command reply = record {
  number = omega (arith, few, is);
  request = λ y same.
      let at : (k : ℕ) → column row k ≡ column (texts_row y) k = λ k. ap (λ r. column r k) same in
      let number_is : x.number ≡ y.number = is ∙ count_read number (at 0) in
      let moment_is = moment_read moment (at 1) in
      let caller_is = text_read caller (at 2) in
      let key_is = text_read key (at 3) in
      let command_is = text_read command (at 4) in
      let reply_is = text_read reply (at 5) in
      λ i. record { number = number_is i; moment = moment_is i; caller = caller_is i; key = key_is i; command = command_is i; reply = reply_is i };
}

-- of a request's row
request_read : (e : ℕ × AcceptedRequest) (x : RequestTexts) → ReadsRequest (stored_request e) x → (x ≡ request_texts e) × (e.0 ≤ most_requests)
request_read e x read =
    let same = read.request (request_texts e) refl in
    let number : x.number ≡ e.0 = ap (λ (y : RequestTexts). y.number) same in (same, omega (arith, number, read.number))

abbrev pub ReadsRow : Row → RequestRow → Type 0
ReadsRow row x = ReadsRequest row x.request

-- of the rows of some
all_read : (es : List (ℕ × AcceptedRequest)) (xs : List RequestRow) → AllZip ReadsRow (map stored_request es) xs
    → (map (λ (x : RequestRow). x.request) xs ≡ map request_texts es) × ((e : ℕ × AcceptedRequest) → Has es e → e.0 ≤ most_requests)
all_read [] [] read = (refl, λ e has. elim has [ ])
all_read [] (x ∷ xs) read = absurd read
all_read (e ∷ es) [] read = absurd read
all_read (e ∷ es) (x ∷ xs) read =
    let one = request_read e x.request read.0 in
    let rest = all_read es xs read.1 in
    (ap₂ (λ (y : RequestTexts) (ys : List RequestTexts). y ∷ ys) one.0 rest.0, within one.1 rest.1)
  where
    within : e.0 ≤ most_requests → ((f : ℕ × AcceptedRequest) → Has es f → f.0 ≤ most_requests) → (f : ℕ × AcceptedRequest) → Has (e ∷ es) f → f.0 ≤ most_requests
    within first later f (inl is) = subst (λ (g : ℕ × AcceptedRequest). g.0 ≤ most_requests) (sym is) first
    within first later f (inr has) = later f has

-- THE PAGE
pub page_read : (s : Operator) (number : ℕ) (xs : List RequestRow) → AllZip ReadsRow (take 64 (filter (is_behind (min number most_requests)) (map stored_request (with_numbers s.history)))) xs
    → map (λ (x : RequestRow). x.request) xs ≡ request_page s number
page_read s number xs read =
    let all = with_numbers s.history in
    let least = min number most_requests in
    let few = take 64 (filter (λ (e : ℕ × AcceptedRequest). nat_lt least e.0) all) in
    let rows : take 64 (filter (is_behind least) (map stored_request all)) ≡ map stored_request few =
    ap (take 64) (passing_rows stored_request (is_behind least) (λ e. nat_lt least e.0) all (λ e. behind_number least e.0)) ∙ take-map stored_request 64 _ in
    let it = all_read few xs (subst (λ (rs : List Row). AllZip ReadsRow rs xs) rows read) in
    it.0 ∙ ap (map request_texts) (first_behind number most_requests all it.1)

-- THE FIRST IN A SPAN: its row
pub request_found : (s : Operator) (number begin end : ℕ)
    → slice_get (filter (is_spanned 1 number begin end) (map stored_request (with_numbers s.history))) 0 ≡ option_map stored_request (request_after s number begin end)
request_found s number begin end =
    first_passed stored_request (is_spanned 1 number begin end) (λ e. nat_lt number e.0 && lies_in begin end e.1.moment) (with_numbers s.history)
    (λ e has. spanned_is 1 number begin end e.0 e.1.moment (stored_request e) refl refl)

-- .. and what is read of that
module _ (s : Operator) (number begin end : ℕ) where
  abbrev least : Option (ℕ × AcceptedRequest)
  least = request_after s (min number most_requests) begin end

  same_request : ((e : ℕ × AcceptedRequest) → least ≡ Some e → e.0 ≤ most_requests) → least ≡ request_after s number begin end
  same_request = found_behind number most_requests (with_numbers s.history) (λ e. lies_in begin end e.1.moment)

  pub request_shown : {row : Row} {x : RequestTexts} → ReadsRequest row x → Some row ≡ option_map stored_request least → Some x ≡ option_map request_texts (request_after s number begin end)
  request_shown {row} {x} read is = by least refl is where
    by : (o : Option (ℕ × AcceptedRequest)) → least ≡ o → Some row ≡ option_map stored_request o → Some x ≡ option_map request_texts (request_after s number begin end)
    by None is row_is = absurd cc
    by (Some e) is row_is =
        let one = request_read e x (subst (λ (r : Row). ReadsRequest r x) (same_Some row (stored_request e) row_is) read) in
        let so = same_request (λ f found. subst (λ (g : ℕ × AcceptedRequest). g.0 ≤ most_requests) (same_Some e f (sym is ∙ found)) one.1) in
        ap Some one.0 ∙ ap (option_map request_texts) (sym is ∙ so)

  pub no_request : None ≡ option_map stored_request least → None ≡ option_map request_texts (request_after s number begin end)
  no_request is = by least refl is where
    by : (o : Option (ℕ × AcceptedRequest)) → least ≡ o → None ≡ option_map stored_request o → None ≡ option_map request_texts (request_after s number begin end)
    by None none row_is = ap (option_map request_texts) (sym none ∙ same_request (λ f found. absurd (let e = sym none ∙ found in cc)))
    by (Some e) one row_is = absurd cc
