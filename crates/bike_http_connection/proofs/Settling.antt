-- Inputs of which no more need be read.
use Rattle.std.proofs.Common.{◌≡◌, ℕ, ◌+◌, ◌<◌, ◌≤◌, List, [], ◌++◌, true, nat_le, length, take, map, refl, sym, ap, ◌∙◌, subst, inl, inr, arith, append-nil, length-append}
use Rattle.std.proofs.lemmas.Bool.{cases_lt, le-leb}
use Rattle.std.proofs.lemmas.List.{take-append-le}
use Rattle.httparse.specs.Grammar.{RequestHead, ReadsRequest, print_request}
use Rattle.httparse.specs.Spans.{name_and_value}
use Rattle.httparse.proofs.GrammarLemmas.{request_unique, ReadsRequest-append}
use Rattle.bike_http_head.specs.Head.{HasHead, HasNoHead, IsRead}
use Rattle.bike_http_head.specs.Length.{body_length}
use Rattle.bike_http_head.specs.declared.head.Head.{Head}
use Rattle.bike_http_head.specs.declared.head.HeadReading.TheVariants.{Whole}
use Rattle.bike_http_head.specs.declared.length.BodyLength.{BodyLength}
use Rattle.bike_http_head.specs.declared.length.BodyLength.TheVariants.{Malformed, TooLong, Of}
use Rattle.bike_http_request.specs.Asked.{asked_for, asked_behind}
use Rattle.bike_http_request.specs.Received.{IsOpened}
use Rattle.bike_http_request.proofs.Receiving.{opened_within}
use Rattle.bike_http_connection.specs.Settled.{wanted_of, IsSettled, IsWhole}

-- a head stays what it is, whatever follows
head_stays : (read more : List ℕ) (head : RequestHead) (rest : List ℕ) → HasHead read head rest → HasHead (read ++ more) head (rest ++ more)
head_stays read more head rest has = record { reads = ReadsRequest-append read head rest more has.reads; short = has.short; few = has.few }

-- no head can come
pub settled_unreadable : (bytes : List ℕ) → ((more : List ℕ) → HasNoHead (bytes ++ more)) → IsSettled bytes
settled_unreadable bytes none asked (inl x) more = absurd (subst HasNoHead (append-nil bytes) (none []) x.0 x.1 x.2)
settled_unreadable bytes none asked (inr x) more = inr (none more, x.1)

behind_stays : (b : BodyLength) (head : RequestHead) (rest more : List ℕ) → wanted_of b ≤ length rest → asked_behind b head rest ≡ asked_behind b head (rest ++ more)
behind_stays Malformed head rest more there = refl
behind_stays TooLong head rest more there = refl
behind_stays (Of n) head rest more there =
    let long : n ≤ length (rest ++ more) = omega (arith, length-append rest more, there) in
    let before : nat_le n (length rest) ≡ true = le-leb n (length rest) there in
    let after : nat_le n (length (rest ++ more)) ≡ true = le-leb n (length (rest ++ more)) long in
    let same : take n (rest ++ more) ≡ take n rest = take-append-le n rest more there in
    rw (before, after) (ap (asked_for head.method head.target) (sym same))

pub settled_there : (bytes : List ℕ) (head : RequestHead) (rest : List ℕ) → HasHead bytes head rest → wanted_of (body_length (map name_and_value head.fields)) ≤ length rest → IsSettled bytes
settled_there bytes head rest has there asked (inr x) more = absurd (x.0 head rest has)
settled_there bytes head rest has there asked (inl x) more =
    let same = request_unique bytes head x.0 rest x.1 has.reads x.2.reads in
    let there_now : wanted_of (body_length (map name_and_value x.0.fields)) ≤ length x.1 =
    subst (λ (h : RequestHead). wanted_of (body_length (map name_and_value h.fields)) ≤ length x.1) same.0
    (subst (λ (l : List ℕ). wanted_of (body_length (map name_and_value head.fields)) ≤ length l) same.1 there) in
    inl (x.0, x.1 ++ more, head_stays bytes more x.0 x.1 x.2, x.3 ∙ behind_stays (body_length (map name_and_value x.0.fields)) x.0 x.1 more there_now)

-- .. as whole bytes are
pub settled_whole : (bytes : List ℕ) → ((IsWhole bytes → ⊥) → ⊥) → IsSettled bytes
settled_whole bytes known asked (inr (none, rejects)) more = absurd (known (λ (whole : IsWhole bytes). none whole.0 whole.1 whole.2))
settled_whole bytes known asked (inl (head, rest, has, asks)) more = elim (cases_lt (length rest) (wanted_of (body_length (map name_and_value head.fields)))) [
  | inl short ↦ absurd (known (λ whole. few short whole))
  | inr there ↦ settled_there bytes head rest has there asked (inl (head, rest, has, asks)) more
]
  where
    few : length rest < wanted_of (body_length (map name_and_value head.fields)) → IsWhole bytes → ⊥
    few short (other, behind, is, body) =
        let same = request_unique bytes other head behind rest is.reads has.reads in
        let enough : wanted_of (body_length (map name_and_value head.fields)) ≤ length behind =
        subst (λ (h : RequestHead). wanted_of (body_length (map name_and_value h.fields)) ≤ length behind) same.0 body in
        let there : wanted_of (body_length (map name_and_value head.fields)) ≤ length rest =
        subst (λ (l : List ℕ). wanted_of (body_length (map name_and_value head.fields)) ≤ length l) same.1 enough in
        omega (arith, short, there)

-- ---- a head that is whole, and with its body has so many bytes

module _ (bytes : List ℕ) (told : Head) (is : IsRead bytes (Whole told)) where
  opened : IsOpened bytes told
  opened = record { head = is.0; rest = is.1; has = is.2; tells = is.3 }

  pub ends_within : told.length + wanted_of told.body ≤ 24576
  ends_within = by told.body refl
    where
      short : told.length + 0 ≤ 24576
      short = omega (arith, is.2.short, is.3.length)

      by : (b : BodyLength) → told.body ≡ b → told.length + wanted_of b ≤ 24576
      by Malformed e = short
      by TooLong e = short
      by (Of n) e = opened_within bytes told n opened e

  module _ (more : List ℕ) (end : ℕ) (ends : end ≡ told.length + wanted_of told.body) where
    reads : ReadsRequest (bytes ++ more) is.0 (is.1 ++ more)
    reads = ReadsRequest-append bytes is.0 is.1 more is.2.reads

    -- whole bytes are as many ..
    pub body_there : IsWhole (bytes ++ more) → end ≤ length (bytes ++ more)
    body_there (head, rest, has, body) =
        let same = request_unique (bytes ++ more) is.0 head (is.1 ++ more) rest reads has.reads in
        let here : wanted_of (body_length (map name_and_value is.0.fields)) ≤ length rest =
        subst (λ (h : RequestHead). wanted_of (body_length (map name_and_value h.fields)) ≤ length rest) (sym same.0) body in
        let wanted : wanted_of told.body ≤ length rest = subst (λ (b : BodyLength). wanted_of b ≤ length rest) (sym is.3.body) here in
        let all : length (bytes ++ more) ≡ length (print_request is.0) + length rest =
        ap length (has.reads.1 ∙ ap (λ (h : RequestHead). print_request h ++ rest) (sym same.0)) ∙ length-append (print_request is.0) rest in
        omega (arith, ends, wanted, all, is.3.length)

    -- .. and so many are whole
    pub enough : (IsWhole (bytes ++ more) → ⊥) → length (bytes ++ more) < end
    enough not_whole = elim (cases_lt (length (bytes ++ more)) end) [
      | inl few ↦ few
      | inr many ↦ absurd (not_whole (is.0, is.1 ++ more, head_stays bytes more is.0 is.1 is.2, behind many))
    ]
      where
        behind : end ≤ length (bytes ++ more) → wanted_of (body_length (map name_and_value is.0.fields)) ≤ length (is.1 ++ more)
        behind many =
            let all : length (bytes ++ more) ≡ length (print_request is.0) + length (is.1 ++ more) = ap length reads.1 ∙ length-append (print_request is.0) (is.1 ++ more) in
            subst (λ (b : BodyLength). wanted_of b ≤ length (is.1 ++ more)) is.3.body (omega (arith, ends, many, all, is.3.length))
