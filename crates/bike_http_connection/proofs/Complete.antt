-- A request of which no more is wanted asks for what all asks that its client sends.
use Rattle.std.proofs.Common.{◌≡◌, ℕ, ◌+◌, ◌≤◌, List, [], ◌∷◌, ◌++◌, Bool, true, false, if◌then◌else◌, nat_le, length, take, drop, map, codes, Option, Some, None, refl, sym, ap, ◌∙◌, subst, inl, inr}
use Rattle.std.proofs.Common.{arith, append-nil, length-append, take-append-drop}
use Rattle.std.proofs.Math.Seq.{take-append_seam}
use Rattle.std.proofs.lemmas.Bool.Decides.{nat_tests}
use Rattle.std.proofs.lemmas.List.{take-append-le}
use Rattle.std.proofs.lemmas.List.Sums.{AllPass-from_list_all}
use Rattle.std.proofs.lemmas.List.Elements.{All-cons, All-nil}
use Rattle.std.specs.List.{filter, list_any}
use Rattle.std.specs.Str.Parse.{digits_value}
use Rattle.httparse.specs.Grammar.{RequestHead, Field, lf, IsRequestHead, IsField, is_token_byte, is_uri_byte, is_value_byte, trim_ows, print_request}
use Rattle.httparse.specs.Spans.{name_and_value}
use Rattle.httparse.proofs.GrammarLemmas.{request_unique}
use Rattle.bike_http_head.specs.Head.{HasHead}
use Rattle.bike_http_head.specs.Length as sizes
use Rattle.bike_http_head.specs.Length.{is_transfer_encoding, is_content_length, is_digits, size_of, sizes_tell, body_length}
use Rattle.bike_http_head.specs.declared.length.BodyLength.{BodyLength}
use Rattle.bike_http_head.specs.declared.length.BodyLength.TheVariants.{Malformed, TooLong, Of}
use Rattle.bike_http_head.specs.declared.rejection.Rejection.TheVariants.{BadRequest, TooLarge}
use Rattle.bike_http_request.specs.Asked.{asked_behind}
use Rattle.bike_http_request.specs.Received.{Received}
use Rattle.bike_http_request.specs.declared.action.Action.{Action}
use Rattle.bike_http_request.specs.declared.action.Action.TheVariants.{Reject}
use Rattle.bike_http_request.proofs.Receiving.{nothing_none}
use Rattle.bike_http_connection.specs.Asking.{AsksAs}
use Rattle.bike_http_connection.specs.Settled.{IsSettled, IsComplete, wanted_of}
use Rattle.bike_http_connection.proofs.Settling.{settled_there}

-- ---- as many bytes as a head and a body have at most

size_bound : (d b : Bool) (v n : ℕ) → nat_le v 16384 ≡ b → (if d then (if b then Of v else TooLong) else Malformed) ≡ Of n → n ≤ 16384
size_bound true true v n e is = let same : v ≡ n = cc in grind (e, same, arith, nat_tests)
size_bound true false v n e is = absurd (cc is)
size_bound false b v n e is = absurd (cc is)

size_within : (text : List ℕ) (n : ℕ) → size_of text ≡ Of n → n ≤ 16384
unfolding size_of
size_within text n is = size_bound (is_digits text) (nat_le (digits_value 10 text) 16384) (digits_value 10 text) n refl is

sizes_within : (fields : List sizes.Field) (n : ℕ) → sizes_tell fields ≡ Of n → n ≤ 16384
sizes_within [] n is = let same : 0 ≡ n = cc in omega arith
sizes_within (f ∷ []) n is = size_within f.1 n is
sizes_within (f ∷ g ∷ fields) n is = absurd (cc is)

if_within : (b : Bool) (x : BodyLength) (n : ℕ) → ((if b then Malformed else x) ≡ Of n) → (x ≡ Of n → n ≤ 16384) → n ≤ 16384
if_within true x n is next = absurd (cc is)
if_within false x n is next = next is

body_within : (fields : List sizes.Field) (n : ℕ) → body_length fields ≡ Of n → n ≤ 16384
unfolding body_length
body_within fields n is =
    if_within (list_any is_transfer_encoding fields) (sizes_tell (filter is_content_length fields)) n is (sizes_within (filter is_content_length fields) n)

has_body : (b : BodyLength) (rest : List ℕ) → ((n : ℕ) → b ≡ Of n → n ≤ length rest) → wanted_of b ≤ length rest
has_body Malformed rest within = omega arith
has_body TooLong rest within = omega arith
has_body (Of n) rest within = within n refl

-- a head that stands at the front of more stands at the front of these
head_within : (bytes more : List ℕ) (head : RequestHead) (rest : List ℕ) → 24576 ≤ length bytes → HasHead (bytes ++ more) head rest
    → HasHead bytes head (drop (length (print_request head)) bytes)
head_within bytes more head rest full has =
    let n : ℕ = length (print_request head) in
    let front : take n bytes ≡ print_request head =
    sym (take-append-le n bytes more (omega (arith, full, has.short))) ∙ ap (take n) has.reads.1 ∙ take-append_seam (print_request head) rest in
    record { reads = (has.reads.0, sym (take-append-drop n bytes) ∙ ap (λ (xs : List ℕ). xs ++ drop n bytes) front); short = has.short; few = has.few }

settled_full : (bytes : List ℕ) → 24576 ≤ length bytes → IsSettled bytes
settled_full bytes full asked (inl x) more =
    let long : length bytes ≡ length (print_request x.0) + length x.1 = ap length x.2.reads.1 ∙ length-append (print_request x.0) x.1 in
    let body : wanted_of (body_length (map name_and_value x.0.fields)) ≤ length x.1 =
    has_body (body_length (map name_and_value x.0.fields)) x.1
    (λ n is. let most = body_within (map name_and_value x.0.fields) n is in omega (arith, most, long, full, x.2.short)) in
    settled_there bytes x.0 x.1 x.2 body asked (inl x) more
settled_full bytes full asked (inr x) more =
    inr (λ head rest has. x.0 head (drop (length (print_request head)) bytes) (head_within bytes more head rest full has), x.1)

-- ---- of no byte it isn't known what is asked for

-- a head, whose body is too long
abbrev long_field : Field
long_field = record { name = codes "Content-Length"; raw = codes "99999"; end = lf }

abbrev long_head : RequestHead
long_head = record { blank = []; method = codes "G"; target = codes "/"; minor = 1; line_end = lf; fields = long_field ∷ []; last = lf }

is_field : IsField long_field
unfolding is_token_byte
is_field = record {
  name = (omega arith, AllPass-from_list_all is_token_byte (codes "Content-Length") refl);
  raw = AllPass-from_list_all is_value_byte (codes "99999") refl;
}

is_head : IsRequestHead long_head
unfolding is_token_byte lib.Utf8.encode
is_head = record {
  method = (omega arith, AllPass-from_list_all is_token_byte (codes "G") refl);
  target = (omega arith, AllPass-from_list_all is_uri_byte (codes "/") refl);
  target_text = (codes "/", (refl, refl));
  minor = omega arith;
  fields = All-cons IsField long_field [] is_field (All-nil IsField);
}

has_head : HasHead (print_request long_head) long_head []
unfolding print_request
has_head = record { reads = (is_head, sym (append-nil (print_request long_head))); short = omega arith; few = omega arith }

is_long : body_length (map name_and_value (long_field ∷ [])) ≡ TooLong
unfolding body_length size_of trim_ows
is_long = refl

nothing_settled : IsSettled [] → ⊥
nothing_settled settled = elim (settled (Reject BadRequest) (inr (λ head rest has. nothing_none head rest has.reads, refl)) (print_request long_head)) [
  | inl x ↦
      let same = request_unique (print_request long_head) long_head x.0 [] x.1 has_head.reads x.2.reads in
      let told : body_length (map name_and_value x.0.fields) ≡ TooLong =
      subst (λ (h : RequestHead). body_length (map name_and_value h.fields) ≡ TooLong) same.0 is_long in
      let both : Reject BadRequest ≡ Reject TooLarge = x.3 ∙ ap (λ (b : BodyLength). asked_behind b x.0 x.1) told in absurd (cc both)
  | inr x ↦ x.0 long_head [] has_head
]

pub asks_as : (ended : Bool) (coming bytes : List ℕ) → IsComplete true ended coming bytes → AsksAs bytes (bytes ++ coming)
asks_as ended coming bytes (inl x) told received =
    subst (λ (xs : List ℕ). Received xs told) (sym (ap (λ (xs : List ℕ). bytes ++ xs) (x.1 refl) ∙ append-nil bytes)) received
asks_as ended coming bytes (inr x) told received = asks_more told received where
  settled : IsSettled bytes
  settled = elim x [ inl it ↦ it | inr full ↦ settled_full bytes full ]

  asks_more : (told : Option Action) → Received bytes told → Received (bytes ++ coming) told
  asks_more None none = absurd (nothing_settled (subst IsSettled none settled))
  asks_more (Some asked) some = (omega (arith, some.0, length-append bytes coming), settled asked some.1 coming)
