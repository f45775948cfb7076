-- What the front of an input says of its head.
use Rattle.std.proofs.Common.{◌≡◌, ℕ, ◌+◌, ◌-◌, ◌≤◌, List, ◌++◌, length, take, drop, min, sym, ap, ◌∙◌, subst, arith, append_assoc, length-take, take-append-drop}
use Rattle.std.proofs.Math.Seq.{take-append_seam, take-append-add}
use Rattle.std.proofs.lemmas.List.{length-map, length-drop, drop-append-le, take-append-le}
use Rattle.httparse.specs.Grammar.{RequestHead, print_request, ReadsRequest, HasNoRequest}
use Rattle.httparse.specs.Spans.{IsRequestAt, IsRequestOf, IsRequestWithin, RequestOverflows, IsWithin, span_bytes, header_bytes, name_and_value}
use Rattle.httparse.specs.declared.spans.Span.{Span}
use Rattle.httparse.specs.declared.spans.HeaderSpan.{HeaderSpan}
use Rattle.httparse.specs.declared.spans.RequestSpans.{RequestSpans}
use Rattle.bike_http_head.specs.Head.{HasHead, HasNoHead, IsTold, IsRead}
use Rattle.bike_http_head.specs.declared.head.Head.{Head}
use Rattle.bike_http_head.specs.declared.head.HeadReading.TheVariants.{Whole}

-- a head within the bounds lies in any front that is as long
head_in_front : (front back : List ℕ) (head : RequestHead) (rest : List ℕ) → 8192 ≤ length front → HasHead (front ++ back) head rest
    → ReadsRequest front head (take (length front - length (print_request head)) rest)
head_in_front front back head rest long has =
    let n = length (print_request head) in
    let short : n ≤ 8192 = has.short in
    let at : length front ≡ n + (length front - n) = omega arith in (
      has.reads.0,
      sym (take-append_seam front back) ∙ ap (take (length front)) has.reads.1
          ∙ ap (λ k. take k (print_request head ++ rest)) at ∙ take-append-add (print_request head) rest (length front - n),
    )

pub full_none : (front back : List ℕ) → 8192 ≤ length front → HasNoRequest front → HasNoHead (front ++ back)
full_none front back long none head rest has = none head _ (head_in_front front back head rest long has)

pub many_none : (front back : List ℕ) → RequestOverflows 32 front → HasNoHead (front ++ back)
many_none front back over head rest has = let few = has.few in let many = over back head rest has.reads in omega arith

-- how many fields a head has that was read into the spans
few_fields : (front : List ℕ) (fields : List HeaderSpan) (spans : RequestSpans) (head : RequestHead) → IsRequestAt front fields spans head
    → length head.fields ≤ length fields
few_fields front fields spans head at =
    let e = sym (length-map (take spans.headers fields) (header_bytes front)) ∙ ap length at.fields ∙ length-map head.fields name_and_value in
    omega (arith, length-take spans.headers fields)

pub head_here : (front back : List ℕ) (fields : List HeaderSpan) (spans : RequestSpans) (head : RequestHead) → length front ≤ 8192 → length fields ≡ 32
    → IsRequestWithin front fields spans → IsRequestAt front fields spans head → HasHead (front ++ back) head (drop spans.len front ++ back)
head_here front back fields spans head short room within at =
    let few = few_fields front fields spans head at in
    let len = at.len in
    let fits = within.section.len_fits in
    record {
      reads = (at.reads.0, ap (λ l. l ++ back) at.reads.1 ∙ append_assoc (print_request head) (drop spans.len front) back);
      short = omega arith;
      few = omega arith;
    }

-- a span within a front covers the same, whatever follows
span_stays : (front more : List ℕ) (s : Span) → IsWithin (length front) s → span_bytes (front ++ more) s ≡ span_bytes front s
span_stays front more s within =
    ap (take (s.end - s.start)) (drop-append-le s.start front more (omega (arith, within)))
    ∙ take-append-le (s.end - s.start) (drop s.start front) more (omega (arith, within, length-drop s.start front))

pub told_stays : (front more : List ℕ) (head : RequestHead) (told : Head) → told.length ≤ length front → IsTold front head told → IsTold (front ++ more) head told
told_stays front more head told long is = record {
  method = span_stays front more told.method (is.within.0.0, (omega (arith, long, is.within.0))) ∙ is.method;
  target = span_stays front more told.target (is.within.1.0, (omega (arith, long, is.within.1))) ∙ is.target;
  within = is.within;
  length = is.length;
  body = is.body;
}

module _ (bytes : List ℕ) (n : ℕ) (is : n ≡ min (length bytes) 8192) where
  front_short : length (take n bytes) ≤ 8192
  front_short = omega (arith, length-take n bytes, is)

  behind : (more : List ℕ) → take n bytes ++ (drop n bytes ++ more) ≡ bytes ++ more
  behind more = sym (append_assoc (take n bytes) (drop n bytes) more) ∙ ap (λ l. l ++ more) (take-append-drop n bytes)

  pub none_full : 8192 ≤ length bytes → HasNoRequest (take n bytes) → (more : List ℕ) → HasNoHead (bytes ++ more)
  none_full long none more =
      subst HasNoHead (behind more) (full_none (take n bytes) (drop n bytes ++ more) (omega (arith, length-take n bytes, is)) none)

  pub none_many : RequestOverflows 32 (take n bytes) → (more : List ℕ) → HasNoHead (bytes ++ more)
  none_many over more = subst HasNoHead (behind more) (many_none (take n bytes) (drop n bytes ++ more) over)

  pub whole_is_read : (fields : List HeaderSpan) (spans : RequestSpans) (told : Head) → length fields ≡ 32
      → IsRequestWithin (take n bytes) fields spans → IsRequestOf (take n bytes) fields spans
      → ((head : RequestHead) → IsRequestAt (take n bytes) fields spans head → IsTold (take n bytes) head told) → IsRead bytes (Whole told)
  whole_is_read fields spans told room within of tells =
      let front : List ℕ = take n bytes in
      let here = head_here front (drop n bytes) fields spans of.0 front_short room within of.1 in
      let rest = drop spans.len front ++ drop n bytes in
      let is = tells of.0 of.1 in
      let fits = within.section.len_fits in
      let size : told.length ≡ spans.len = is.length ∙ sym of.1.len in (
        of.0,
        rest,
        subst (λ l. HasHead l of.0 rest) (take-append-drop n bytes) here,
        subst (λ (l : List ℕ). IsTold l of.0 told) (take-append-drop n bytes) (told_stays front (drop n bytes) of.0 told (omega (arith, size, fits)) is),
      )
