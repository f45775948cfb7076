-- What the bytes that were read say of the whole input.
use Rattle.std.proofs.Common.{◌≡◌, ℕ, zero, suc, ◌+◌, ◌-◌, ◌<◌, ◌≤◌, List, [], ◌∷◌, ◌++◌, Bool, true, false, if◌then◌else◌, Option, Some, None, IfSome, Result, Ok, Err, IsErrAnd, nat_le, nat_lt}
use Rattle.std.proofs.Common.{length, take, drop, map, slice_range, refl, sym, ap, ◌∙◌, subst, inl, inr, arith, append-nil, append_assoc, length-append, length-take}
use Rattle.std.proofs.Math.Seq.{take-append-add, drop-append_seam}
use Rattle.std.proofs.lemmas.Bool.{lt-leb, le-leb, lt-ltb}
use Rattle.std.proofs.lemmas.Bool.Decides.{nat_tests}
use Rattle.std.proofs.lemmas.List.{take-append-le}
use Rattle.std.proofs.KnownBytes.{Consumes-nil, Consumes-trans}
use Rattle.std.specs.Io.KnownBytes.{Consumes, IsAtEnd}
use Rattle.httparse.specs.Grammar.{RequestHead, IsRequestHead, HasNoRequest, print_request}
use Rattle.httparse.specs.Spans.{IsWithin, span_bytes, name_and_value}
use Rattle.httparse.proofs.GrammarLemmas.{ReadsRequest-append}
use Rattle.std.specs.List.{filter, list_any}
use Rattle.std.specs.Str.{IsUtf8}
use Rattle.std.specs.Str.Parse.{digits_value}
use Rattle.bike_http_head.specs.Head.{HasHead, HasNoHead, IsRead, IsTold}
use Rattle.bike_http_head.specs.Length.{Field, is_transfer_encoding, is_content_length, is_digits, size_of, sizes_tell, body_length}
use Rattle.bike_http_head.specs.declared.rejection.Rejection.TheVariants.{BadRequest}
use Rattle.bike_http_head.proofs.Fronts.{told_stays}
use Rattle.bike_http_head.specs.declared.head.Head.{Head}
use Rattle.bike_http_head.specs.declared.head.HeadReading.TheVariants.{Whole}
use Rattle.bike_http_head.specs.declared.length.BodyLength.{BodyLength}
use Rattle.bike_http_head.specs.declared.length.BodyLength.TheVariants.{Malformed, TooLong, Of}
use Rattle.bike_http_request.specs.Asked.{asked_for, asked_behind, Asks, IsToAct}
use Rattle.bike_http_request.specs.Received.{Grew, Came, ReadsMore, Fills, IsOpened, NeverOpens, Opens, Received, WantsMemory}
use Rattle.bike_http_request.specs.declared.action.Action.{Action}
use Rattle.bike_http_request.specs.declared.action.Action.TheVariants.{Reject}
use Rattle.bike_http_request.specs.declared.incoming.Opening.TheVariants.{Empty, Unreadable}
use Rattle.bike_http_request.specs.declared.incoming.ReceiveFault.{ReceiveFault}
use Rattle.bike_http_request.specs.declared.incoming.ReceiveFault.TheVariants.{NoMemory}

pub nonempty : (head : RequestHead) → IsRequestHead head → 0 < length (print_request head)
unfolding print_request
nonempty head is = let m : 0 < length head.method = is.method.0 in simp length-append (omega arith)

pub nothing_none : HasNoRequest []
nothing_none head rest reads =
    let long = nonempty head reads.0 in
    let len = ap length reads.1 ∙ length-append (print_request head) rest in
    omega arith

pub none_head : (read : List ℕ) → HasNoRequest read → HasNoHead read
none_head read none head rest has = none head rest has.reads

-- a head stays what it is, whatever follows
pub head_stays : (read more : List ℕ) (head : RequestHead) (rest : List ℕ) → HasHead read head rest → HasHead (read ++ more) head (rest ++ more)
head_stays read more head rest has = record { reads = ReadsRequest-append read head rest more has.reads; short = has.short; few = has.few }

-- ---- growing

pub grew_nothing : (a : Option (List ℕ)) (read : List ℕ) → Grew a a read read
grew_nothing a read = record { got = []; grown = sym (append-nil read); consumed = Consumes-nil a }

pub grew_then : {a b c : Option (List ℕ)} {x y z : List ℕ} → Grew a b x y → Grew b c y z → Grew a c x z
grew_then {a} {b} {c} {x} {y} {z} p q = record {
  got = p.got ++ q.got;
  grown = q.grown ∙ (ap (λ l. l ++ q.got) p.grown ∙ append_assoc x p.got q.got);
  consumed = Consumes-trans a b c p.got q.got p.consumed q.consumed;
}

-- the whole input is what was read, and what is left
pub all_read : (all : List ℕ) (c : Option (List ℕ)) (before after : List ℕ) → Grew (Some all) c before after
    → (left : List ℕ) × (c ≡ Some left) × (before ++ all ≡ after ++ left)
all_read all None before after grew = absurd grew.consumed
all_read all (Some left) before after grew =
    (left, refl, ap (λ l. before ++ l) grew.consumed ∙ (sym (append_assoc before grew.got left) ∙ ap (λ l. l ++ left) (sym grew.grown)))

-- what was left before is what came, and what is left
left_before : (all : List ℕ) (c : Option (List ℕ)) (before after left : List ℕ) (grew : Grew (Some all) c before after) → c ≡ Some left → all ≡ grew.got ++ left
left_before all c before after left grew e = rw e at grew.consumed

-- ---- the head

pub told_opened : (read : List ℕ) (told : Head) → IsRead read (Whole told) → IsOpened read told
told_opened read told is = record { head = is.0; rest = is.1; has = is.2; tells = is.3 }

-- where no head came before the end of the input
pub ended_opens : (read : List ℕ) (left : Option (List ℕ)) → HasNoRequest read → IsAtEnd left → 0 < length read → Opens read left Unreadable
ended_opens read left none end some = (some, inl (end, none_head read none))

-- ---- the body

size_bound : (d b : Bool) (v n : ℕ) → nat_le v 16384 ≡ b → (if d then (if b then Of v else TooLong) else Malformed) ≡ Of n → n ≤ 16384
size_bound true true v n e is = let same : v ≡ n = cc in grind (e, same, arith, nat_tests)
size_bound true false v n e is = absurd (cc is)
size_bound false b v n e is = absurd (cc is)

size_within : (text : List ℕ) (n : ℕ) → size_of text ≡ Of n → n ≤ 16384
unfolding size_of
size_within text n is = size_bound (is_digits text) (nat_le (digits_value 10 text) 16384) (digits_value 10 text) n refl is

sizes_within : (fields : List Field) (n : ℕ) → sizes_tell fields ≡ Of n → n ≤ 16384
sizes_within [] n is = let same : 0 ≡ n = cc in omega arith
sizes_within (f ∷ []) n is = size_within f.1 n is
sizes_within (f ∷ g ∷ fields) n is = absurd (cc is)

if_within : (b : Bool) (x : BodyLength) (n : ℕ) → ((if b then Malformed else x) ≡ Of n) → (x ≡ Of n → n ≤ 16384) → n ≤ 16384
if_within true x n is next = absurd (cc is)
if_within false x n is next = next is

body_within : (fields : List Field) (n : ℕ) → body_length fields ≡ Of n → n ≤ 16384
unfolding body_length
body_within fields n is =
    if_within (list_any is_transfer_encoding fields) (sizes_tell (filter is_content_length fields)) n is (sizes_within (filter is_content_length fields) n)

pub opened_within : (read : List ℕ) (o : Head) (n : ℕ) → IsOpened read o → o.body ≡ Of n → o.length + n ≤ 24576
opened_within read o n is e =
    let size = body_within (map name_and_value is.head.fields) n (sym is.tells.body ∙ e) in
    let short = is.has.short in
    let len = is.tells.length in
    omega arith

-- what is behind the head
pub asks_behind : (read left : List ℕ) (o : Head) (asked : Action) (is : IsOpened read o) → asked ≡ asked_behind o.body is.head (is.rest ++ left) → Asks (read ++ left) asked
asks_behind read left o asked is e =
    inl (is.head, is.rest ++ left, head_stays read left is.head is.rest is.has, e ∙ ap (λ (b : BodyLength). asked_behind b is.head (is.rest ++ left)) is.tells.body)

pub asks_known : (a : Option (List ℕ)) (read : List ℕ) (o : Head) (asked : Action) (is : IsOpened read o)
    → ((left : List ℕ) → a ≡ Some left → asked ≡ asked_behind o.body is.head (is.rest ++ left)) → IfSome a (λ left. Asks (read ++ left) asked)
asks_known None read o asked is e = tt
asks_known (Some left) read o asked is e = asks_behind read left o asked is (e left refl)

-- the length of all that is there
read_length : (read : List ℕ) (o : Head) (is : IsOpened read o) → length read ≡ o.length + length is.rest
read_length read o is = ap length is.has.reads.1 ∙ (length-append (print_request is.head) is.rest ∙ ap (λ (n : ℕ). n + length is.rest) (sym is.tells.length))

pub cut_body : (a b : Option (List ℕ)) (before after : List ℕ) (o : Head) (n : ℕ) → IsOpened before o → o.body ≡ Of n
    → Fills a b before after (o.length + n) false → IfSome a (λ left. Asks (before ++ left) (Reject BadRequest))
cut_body None b before after o n is e fills = tt
cut_body (Some all) b before after o n is e fills =
    let (left, known, whole) = all_read all b before after fills.0 in
    let ended : left ≡ [] = subst IsAtEnd known fills.1.1 in
    let len = read_length before o is in
    let lens = sym (length-append before all) ∙ (ap length whole ∙ length-append after left) in
    let none = ap length ended in
    let few : length (is.rest ++ all) < n = omega (arith, length-append is.rest all, fills.1.0) in
    let test : nat_le n (length (is.rest ++ all)) ≡ false = lt-leb n (length (is.rest ++ all)) few in
    asks_behind before all o (Reject BadRequest) is (rw e (rw test refl))

-- the bytes behind a front
behind_front : (front rest : List ℕ) (n : ℕ) → slice_range (front ++ rest) (length front) (length front + n) ≡ take n rest
behind_front front rest n =
    let some : length front + n - length front ≡ n = omega arith in
    ap (λ m. take m (drop (length front) (front ++ rest))) some ∙ ap (take n) (drop-append_seam front rest)

-- the head stays where it is told, whatever is read behind it
pub still_told : (a b : Option (List ℕ)) (before after : List ℕ) (o : Head) (is : IsOpened before o) → Grew a b before after → IsTold after is.head o
still_told a b before after o is grew =
    let len = read_length before o is in
    subst (λ (l : List ℕ). IsTold l is.head o) (sym grew.grown) (told_stays before grew.got is.head o (omega (arith, len)) is.tells)

-- the method and the target lie in what was read, and the target is text
pub spans_within : (a b : Option (List ℕ)) (before after : List ℕ) (o : Head) (n : ℕ) → IsOpened before o → Fills a b before after (o.length + n) true
    → IsWithin (length after) o.method × IsWithin (length after) o.target
spans_within a b before after o n is fills =
    let within = is.tells.within in
    let long = fills.1 in
    ((within.0.0, (omega (arith, long, within.0))), (within.1.0, (omega (arith, long, within.1))))

pub no_text : (a b : Option (List ℕ)) (before after : List ℕ) (o : Head) → IsOpened before o → Grew a b before after → (IsUtf8 (span_bytes after o.target) → ⊥) → ⊥
no_text a b before after o is grew none =
    none (subst IsUtf8 (sym (still_told a b before after o is grew).target) is.has.reads.0.target_text)

pub whole_body : (a b : Option (List ℕ)) (before after : List ℕ) (o : Head) (n : ℕ) (asked : Action) → IsOpened before o → o.body ≡ Of n
    → Fills a b before after (o.length + n) true
    → asked ≡ asked_for (span_bytes after o.method) (span_bytes after o.target) (slice_range after o.length (o.length + n))
    → IfSome a (λ left. Asks (before ++ left) asked)
whole_body None b before after o n asked is e fills answer = tt
whole_body (Some all) b before after o n asked is e fills answer =
    let (left, known, whole) = all_read all b before after fills.0 in
    let len = read_length before o is in
    let got = fills.0.got in
    let lens : length after ≡ length before + length got = ap length fills.0.grown ∙ length-append before got in
    let there : n ≤ length (is.rest ++ got) = omega (arith, length-append is.rest got, fills.1) in
    let behind : is.rest ++ all ≡ (is.rest ++ got) ++ left = ap (λ l. is.rest ++ l) (left_before all b before after left fills.0 known) ∙ sym (append_assoc is.rest got left) in
    let enough : n ≤ length (is.rest ++ all) = omega (arith, ap length behind, length-append (is.rest ++ got) left) in
    let test : nat_le n (length (is.rest ++ all)) ≡ true = le-leb n (length (is.rest ++ all)) enough in
    let parts : after ≡ print_request is.head ++ (is.rest ++ got) = fills.0.grown ∙ (ap (λ l. l ++ got) is.has.reads.1 ∙ append_assoc (print_request is.head) is.rest got) in
    let body : slice_range after o.length (o.length + n) ≡ take n (is.rest ++ all) =
    rw (parts, is.tells.length) (behind_front (print_request is.head) (is.rest ++ got) n ∙ (sym (take-append-le n (is.rest ++ got) left there) ∙ ap (take n) (sym behind))) in
    let told = still_told (Some all) b before after o is fills.0 in
    let named : asked ≡ asked_for is.head.method is.head.target (take n (is.rest ++ all)) =
    answer ∙ (ap (λ (l : List ℕ). asked_for l (span_bytes after o.target) (slice_range after o.length (o.length + n))) told.method
    ∙ (ap (λ (l : List ℕ). asked_for is.head.method l (slice_range after o.length (o.length + n))) told.target ∙ ap (asked_for is.head.method is.head.target) body)) in
    asks_behind before all o asked is (rw e (rw test named))

pub whole_asked : (a b : Option (List ℕ)) (before after : List ℕ) (o : Head) (n : ℕ) (method target body : List ℕ) (asked : Action) → IsOpened before o → o.body ≡ Of n
    → Fills a b before after (o.length + n) true → method ≡ span_bytes after o.method → target ≡ span_bytes after o.target
    → body ≡ slice_range after o.length (o.length + n) → asked ≡ asked_for method target body → IfSome a (λ left. Asks (before ++ left) asked)
whole_asked a b before after o n method target body asked is e fills m t s answer =
    whole_body a b before after o n asked is e fills
    (answer ∙ (ap (λ (l : List ℕ). asked_for l target body) m ∙ (ap (λ (l : List ℕ). asked_for (span_bytes after o.method) l body) t
    ∙ ap (asked_for (span_bytes after o.method) (span_bytes after o.target)) s)))

-- ---- memory

pub wants_whole : (a b : Option (List ℕ)) (before after : List ℕ) (o : Head) (n : ℕ) (is : IsOpened before o) → o.body ≡ Of n
    → Fills a b before after (o.length + n) true → IsToAct is.head.method is.head.target → IfSome a (λ left. WantsMemory (before ++ left))
wants_whole None b before after o n is e fills acts = tt
wants_whole (Some all) b before after o n is e fills acts =
    let len = read_length before o is in
    let got = fills.0.got in
    let lens : length after ≡ length before + length got = ap length fills.0.grown ∙ length-append before got in
    let (left, known, whole) = all_read all b before after fills.0 in
    let more : length (is.rest ++ all) ≡ length is.rest + (length got + length left) =
    length-append is.rest all ∙ ap (λ (k : ℕ). length is.rest + k) (ap length (left_before all b before after left fills.0 known) ∙ length-append got left) in
    record {
      head = is.head;
      rest = is.rest ++ all;
      has = head_stays before all is.head is.rest is.has;
      size = n;
      told = sym is.tells.body ∙ e;
      whole = omega (arith, fills.1, len, lens, more);
      acts = acts;
    }

pub wants_asked : (a b : Option (List ℕ)) (before after : List ℕ) (o : Head) (n : ℕ) (method target : List ℕ) (is : IsOpened before o) → o.body ≡ Of n
    → Fills a b before after (o.length + n) true → method ≡ span_bytes after o.method → target ≡ span_bytes after o.target
    → IsToAct method target → IfSome a (λ left. WantsMemory (before ++ left))
wants_asked a b before after o n method target is e fills m t acts =
    let told = still_told a b before after o is fills.0 in
    wants_whole a b before after o n is e fills
    (subst (λ (l : List ℕ). IsToAct l is.head.target) (m ∙ told.method) (subst (λ (l : List ℕ). IsToAct method l) (t ∙ told.target) acts))

-- ---- the whole

pub received_empty : (a b : Option (List ℕ)) (read : List ℕ) → Grew a b [] read → Opens read b Empty → IfSome a (λ input. Received input None)
received_empty None b read grew opens = tt
received_empty (Some all) b read grew opens =
    let (left, known, whole) = all_read all b [] read grew in
    let ended : left ≡ [] = subst IsAtEnd known opens.1 in
    whole ∙ (ap (λ l. l ++ left) opens.0 ∙ ended)

never : (read left : List ℕ) → NeverOpens read (Some left) → HasNoHead (read ++ left)
never read left (inl x) = subst HasNoHead (sym (ap (λ l. read ++ l) x.0 ∙ append-nil read)) x.1
never read left (inr x) = x left

pub received_unreadable : (a b : Option (List ℕ)) (read : List ℕ) → Grew a b [] read → Opens read b Unreadable
    → IfSome a (λ input. Received input (Some (Reject BadRequest)))
received_unreadable None b read grew opens = tt
received_unreadable (Some all) b read grew opens =
    let (left, known, whole) = all_read all b [] read grew in
    let none = never read left (subst (NeverOpens read) known opens.1) in
    (omega (arith, ap length whole, length-append read left, opens.0), inr (subst HasNoHead (sym whole) none, refl))

pub received_whole : (a b : Option (List ℕ)) (read : List ℕ) (o : Head) (asked : Action) → Grew a b [] read → IsOpened read o
    → IfSome b (λ left. Asks (read ++ left) asked) → IfSome a (λ input. Received input (Some asked))
received_whole None b read o asked grew is asks = tt
received_whole (Some all) b read o asked grew is asks =
    let (left, known, whole) = all_read all b [] read grew in
    let here : Asks (read ++ left) asked = rw known at asks in
    let long = nonempty is.head is.has.reads.0 in
    let len = ap length is.has.reads.1 ∙ length-append (print_request is.head) is.rest in
    (omega (arith, ap length whole, length-append read left, long, len), subst (λ (l : List ℕ). Asks l asked) (sym whole) here)

pub received_wants : (a b : Option (List ℕ)) (read : List ℕ) → Grew a b [] read → IfSome b (λ left. WantsMemory (read ++ left)) → IfSome a WantsMemory
received_wants None b read grew wants = tt
received_wants (Some all) b read grew wants =
    let (left, known, whole) = all_read all b [] read grew in
    let here : WantsMemory (read ++ left) = rw known at wants in
    subst WantsMemory (sym whole) here

-- a want of memory that is handed on was one before
want_before : {A B : Type 0} (fault other : ReceiveFault) → other ≡ fault → ◌≡◌ {A = Result B ReceiveFault} (Err other) (Err NoMemory) → ◌≡◌ {A = Result A ReceiveFault} (Err fault) (Err NoMemory)
want_before fault other told is = cc

pub want_told : {A B : Type 0} (fault : ReceiveFault) (result : Result B ReceiveFault) → IsErrAnd result (λ told. told ≡ fault)
    → result ≡ Err NoMemory → ◌≡◌ {A = Result A ReceiveFault} (Err fault) (Err NoMemory)
want_told fault (Ok x) told is = absurd told
want_told fault (Err other) told is = want_before fault other told is

-- ---- one read

taken_more : (len n : ℕ) (xs ys post : List ℕ) → len ≤ length xs → n ≤ length ys → take (len + n) (take len xs ++ (ys ++ post)) ≡ take len xs ++ take n ys
taken_more len n xs ys post le fits =
    let at : len + n ≡ length (take len xs) + n = omega (arith, length-take len xs) in
    ap (λ k. take k (take len xs ++ (ys ++ post))) at ∙ take-append-add (take len xs) (ys ++ post) n ∙ ap (λ l. take len xs ++ l) (take-append-le n ys post fits)

came_so : (b : Option (List ℕ)) (n : ℕ) (before after ys : List ℕ) → n ≤ length ys → after ≡ before ++ take n ys → (n ≡ 0 → IsAtEnd b) → Came (nat_lt 0 n) b before after
came_so b zero before after ys fits grown end = (grown ∙ append-nil before, end refl)
came_so b (suc n) before after ys fits grown end =
    let len = ap length grown ∙ length-append before (take (suc n) ys) in
    let long : length before < length after = omega (arith, len, length-take (suc n) ys, fits) in
    subst (λ (some : Bool). Came some b before after) (sym (lt-ltb 0 (suc n) (omega arith))) long

pub reads_more : (a b : Option (List ℕ)) (before xs ys post : List ℕ) (len n : ℕ) → before ≡ take len xs → len ≤ length xs → n ≤ length ys
    → Consumes a b (take n ys) → (n ≡ 0 → IsAtEnd b) → ReadsMore a b before (take (len + n) (take len xs ++ (ys ++ post))) (nat_lt 0 n)
reads_more a b before xs ys post len n is le fits consumed end =
    let grown = taken_more len n xs ys post le fits ∙ ap (λ l. l ++ take n ys) (sym is) in
    (record { got = take n ys; grown = grown; consumed = consumed }, came_so b n before _ ys fits grown end)
