-- What a request waits for that isn't whole.
use Rattle.std.proofs.Common.{◌≡◌, ℕ, ◌+◌, ◌-◌, ◌<◌, ◌≤◌, List, [], ◌∷◌, ◌++◌, Bool, true, false, ◌&&◌, ◌||◌, ◌==◌, length, take, drop, Result, Ok, Err, is_ok, if◌then◌else◌, IsTrue, refl, sym, ap}
use Rattle.std.proofs.Common.{◌∙◌, subst, inl, inr, arith, append_assoc, append-nil, length-append}
use Rattle.std.proofs.lemmas.Bool.{cases_lt, or_cases, or_left, or_right}
use Rattle.std.proofs.lemmas.List.{drop-append-le}
use Rattle.std.proofs.Math.Seq.{take-append_seam, take-append-add, drop-append_seam}
use Rattle.httparse.specs.Ascii.{line_feed, carriage_return, space}
use Rattle.std.specs.List.{flat_map, list_all}
use Rattle.httparse.specs.Grammar.{LineEnd, crlf, lf, print_end, print_blank, print_version, print_section, print_field, RequestHead, print_request, HasNoRequest}
use Rattle.bike_http_head.specs.Head.{HasNoHead}
use Rattle.bike_http_connection.specs.Settled.{IsSettled, IsWhole}
use Rattle.bike_http_connection.proofs.Settling.{settled_unreadable, settled_whole}
use Rattle.bike_http_connection.specs.declared.stage.Stage.{Stage}
use Rattle.bike_http_connection.specs.declared.stage.Stage.TheVariants as stages
use Rattle.bike_http_connection.specs.Awaiting.{has_line_end, is_line_byte, KnowsHead, AwaitsLineEnd, AwaitsBytes, AwaitsNothing, Awaits, AsksFeed, shows_feed, ShowsFeeds}
use Rattle.std.proofs.Math.Bool.{or_assoc}
use Rattle.std.proofs.lemmas.List.Folds.{list_any-append, list_all-append}

-- ---- a head ends with a line end

abbrev EndsLine : List ℕ → Type 0
EndsLine bytes = (front : List ℕ) × (bytes ≡ front ++ line_feed ∷ [])

ends_after : (xs ys : List ℕ) → EndsLine ys → EndsLine (xs ++ ys)
ends_after xs ys ends = (xs ++ ends.0, ap (λ (l : List ℕ). xs ++ l) ends.1 ∙ sym (append_assoc xs ends.0 (line_feed ∷ [])))

line_ends : (end : LineEnd) → EndsLine (print_end end)
line_ends crlf = (carriage_return ∷ [], refl)
line_ends lf = ([], refl)

head_ends : (head : RequestHead) → EndsLine (print_request head)
unfolding print_request
head_ends h =
    ends_after _ (print_section h.fields h.last) (ends_after (flat_map print_field h.fields) (print_end h.last) (line_ends h.last))

-- ---- what comes ends one

line_in : (xs ys : List ℕ) → has_line_end (xs ++ line_feed ∷ ys) ≡ true
line_in [] ys = refl
line_in (x ∷ xs) ys = grind (arith, line_in xs ys)

-- a head that was not there ends in what came
late_line : (bytes more front rest : List ℕ) → length bytes ≤ length front → bytes ++ more ≡ front ++ line_feed ∷ rest → has_line_end more ≡ true
late_line bytes more front rest late is =
    let behind : more ≡ drop (length bytes) front ++ line_feed ∷ rest =
    sym (drop-append_seam bytes more) ∙ ap (λ (l : List ℕ). drop (length bytes) l) is ∙ drop-append-le (length bytes) front (line_feed ∷ rest) late in
    ap has_line_end behind ∙ line_in (drop (length bytes) front) rest

-- .. since else it was there
early_head : (bytes more head rest : List ℕ) → length head ≤ length bytes → bytes ++ more ≡ head ++ rest
    → bytes ≡ head ++ take (length bytes - length head) rest
early_head bytes more head rest early is =
    let size : length bytes ≡ length head + (length bytes - length head) = omega (arith, early) in
    sym (take-append_seam bytes more)
    ∙ ap (λ (l : List ℕ). take (length bytes) l) is
    ∙ ap (λ (n : ℕ). take n (head ++ rest)) size
    ∙ take-append-add head rest (length bytes - length head)

pub no_line_yet : (bytes more : List ℕ) → HasNoRequest bytes → IsWhole (bytes ++ more) → has_line_end more ≡ true
no_line_yet bytes more none (head, rest, has, body) =
    let ends = head_ends head in
    let is : bytes ++ more ≡ print_request head ++ rest = has.reads.1 in
    let size : length (print_request head) ≡ length ends.0 + 1 = ap length ends.1 ∙ length-append ends.0 (line_feed ∷ []) in
    elim (cases_lt (length ends.0) (length bytes)) [
      | inl early ↦ absurd (none head (take (length bytes - length (print_request head)) rest)
          (has.reads.0, early_head bytes more (print_request head) rest (omega (arith, early, size)) is))
      | inr late ↦ late_line bytes more ends.0 rest late (is ∙ ap (λ (l : List ℕ). l ++ rest) ends.1 ∙ append_assoc ends.0 (line_feed ∷ []) rest)
    ]

-- ---- bytes that are looked at again

added : (P : List ℕ → Type 0) (bytes came more : List ℕ) → ((more : List ℕ) → P (bytes ++ more)) → P ((bytes ++ came) ++ more)
added P bytes came more holds = subst P (sym (append_assoc bytes came more)) (holds (came ++ more))

-- what came of what was waited for, as more is added
awaits_more : (stage : Stage) (old new : Bool) (bytes came : List ℕ) → Awaits stage old bytes → new ≡ (old || has_line_end came)
    → Awaits stage new (bytes ++ came)
awaits_more stage old new bytes came awaits is = (
  λ most at more whole. ap (λ (b : Bool). b || has_line_end more) is
      ∙ or_assoc old (has_line_end came) (has_line_end more)
      ∙ ap (λ (b : Bool). old || b) (sym (list_any-append (λ (b : ℕ). b == line_feed) came more))
      ∙ awaits.0 most at (came ++ more) (subst IsWhole (append_assoc bytes came more) whole),
  λ end may_ask_feed at more.
      added (λ (all : List ℕ). (IsWhole all → end ≤ length all) × ((IsWhole all → ⊥) → length all < end)) bytes came more (awaits.1 end may_ask_feed at),
  λ at more. added HasNoHead bytes came more (awaits.2 at),
)

-- .. though nothing more may have been added
pub awaits_anyway : (stage : Stage) (old new more : Bool) (bytes : List ℕ) → Awaits stage old bytes → new ≡ (old || more) → Awaits stage new bytes
awaits_anyway stage old new more bytes awaits is = (
  λ most at later whole. elim (or_cases old (has_line_end later) (awaits.0 most at later whole)) [
    | inl e ↦ or_left new (has_line_end later) (is ∙ or_left old more e)
    | inr e ↦ or_right new (has_line_end later) e
  ],
  awaits.1,
  awaits.2,
)

pub awaits_added : {E : Type 0} (told : Result (Unit {0}) E) (stage : Stage) (old new : Bool) (bytes reserved came after : List ℕ)
    → Awaits stage old bytes → new ≡ (old || has_line_end came) → reserved ≡ bytes
    → after ≡ (if is_ok told then reserved ++ came else reserved) → Awaits stage new after
awaits_added {E} (Ok x) stage old new bytes reserved came after awaits flag same is =
    subst (λ (l : List ℕ). Awaits stage new l) (sym (is ∙ ap (λ (l : List ℕ). l ++ came) same)) (awaits_more stage old new bytes came awaits flag)
awaits_added {E} (Err e) stage old new bytes reserved came after awaits flag same is =
    subst (λ (l : List ℕ). Awaits stage new l) (sym (is ∙ same)) (awaits_anyway stage old new (has_line_end came) bytes awaits flag)

-- nothing came yet
nothing_whole : HasNoRequest []
nothing_whole head rest reads =
    let ends = head_ends head in
    omega (arith, ap length reads.1, length-append (print_request head) rest, ap length ends.1, length-append ends.0 (line_feed ∷ []))

-- ---- one stage

pub at_head : (most : ℕ) (came : Bool) (bytes : List ℕ) → AwaitsLineEnd came bytes → Awaits (stages.Head most) came bytes
at_head most came bytes awaits = (λ other at. awaits, λ end may_ask_feed at. absurd (cc at), λ at. absurd (cc at))

pub at_body : (end : ℕ) (may_ask_feed came : Bool) (bytes : List ℕ) → AwaitsBytes end bytes → Awaits (stages.Body end may_ask_feed) came bytes
at_body end may_ask_feed came bytes awaits = (
  λ most at. absurd (cc at),
  λ other may at. let same : end ≡ other = cc in subst (λ (n : ℕ). AwaitsBytes n bytes) same awaits,
  λ at. absurd (cc at),
)

pub at_none : (came : Bool) (bytes : List ℕ) → AwaitsNothing bytes → Awaits stages.Unreadable came bytes
at_none came bytes awaits = (λ most at. absurd (cc at), λ end may_ask_feed at. absurd (cc at), λ at. awaits)

pub no_feed_yet : (most : ℕ) (bytes : List ℕ) → ShowsFeeds (stages.Head most) bytes
no_feed_yet most bytes known = absurd known

pub no_feed_ever : (bytes : List ℕ) → ((more : List ℕ) → HasNoHead (bytes ++ more)) → ShowsFeeds stages.Unreadable bytes
no_feed_ever bytes none known more (head, rest, has, feed, takes) = absurd (none more head rest has)

-- what was known of a feed is known still, as more is added
feeds_more : (stage : Stage) (bytes came : List ℕ) → ShowsFeeds stage bytes → ShowsFeeds stage (bytes ++ came)
feeds_more stage bytes came shows known more asks = shows known (came ++ more) (subst AsksFeed (append_assoc bytes came more) asks)

pub feeds_added : {E : Type 0} (told : Result (Unit {0}) E) (stage : Stage) (bytes reserved came after : List ℕ) → ShowsFeeds stage bytes
    → reserved ≡ bytes → after ≡ (if is_ok told then reserved ++ came else reserved) → ShowsFeeds stage after
feeds_added {E} (Ok x) stage bytes reserved came after shows same is =
    subst (λ (l : List ℕ). ShowsFeeds stage l) (sym (is ∙ ap (λ (l : List ℕ). l ++ came) same)) (feeds_more stage bytes came shows)
feeds_added {E} (Err e) stage bytes reserved came after shows same is = subst (λ (l : List ℕ). ShowsFeeds stage l) (sym (is ∙ same)) shows

pub feed_shown : (stage : Stage) (bytes : List ℕ) → ShowsFeeds stage bytes → KnowsHead stage → AsksFeed bytes → IsTrue (shows_feed stage)
feed_shown stage bytes shows known asks = shows known [] (subst AsksFeed (sym (append-nil bytes)) asks)

pub none_yet : (most : ℕ) (bytes : List ℕ) → bytes ≡ [] → Awaits (stages.Head most) false bytes
none_yet most bytes is = at_head most false bytes (λ more whole. no_line_yet bytes more (subst HasNoRequest (sym is) nothing_whole) whole)

-- ---- what is known of the bytes that came

pub line_came : (came : Bool) (bytes : List ℕ) → AwaitsLineEnd came bytes → IsWhole bytes → came ≡ true
line_came came bytes awaits whole = elim (or_cases came false (awaits [] (subst IsWhole (sym (append-nil bytes)) whole))) [
  | inl e ↦ e
  | inr e ↦ absurd (cc)
]

bytes_came : (end : ℕ) (bytes : List ℕ) → AwaitsBytes end bytes → (IsWhole bytes → end ≤ length bytes) × ((IsWhole bytes → ⊥) → length bytes < end)
bytes_came end bytes awaits = subst (λ (all : List ℕ). (IsWhole all → end ≤ length all) × ((IsWhole all → ⊥) → length all < end)) (append-nil bytes) (awaits [])

pub all_there : (end : ℕ) (bytes : List ℕ) → AwaitsBytes end bytes → IsWhole bytes → end ≤ length bytes
all_there end bytes awaits whole = (bytes_came end bytes awaits).0 whole

pub settled_with : (end : ℕ) (bytes : List ℕ) → AwaitsBytes end bytes → end ≤ length bytes → IsSettled bytes
settled_with end bytes awaits long = settled_whole bytes (λ not_whole. let few : length bytes < end = (bytes_came end bytes awaits).1 not_whole in omega (arith, few, long))

pub settled_without : (bytes : List ℕ) → AwaitsNothing bytes → IsSettled bytes
settled_without bytes awaits = settled_unreadable bytes awaits

-- whole bytes that are looked at have their head
pub head_known : (stage : Stage) (bytes : List ℕ) → Awaits stage false bytes → IsWhole bytes → KnowsHead stage
head_known (stages.Head most) bytes awaits whole = absurd (let no : false ≡ true = line_came false bytes (awaits.0 most refl) whole in cc)
head_known (stages.Body end may_ask_feed) bytes awaits whole = tt
head_known stages.Unreadable bytes awaits whole = tt

-- ---- empty lines alone

both_true : (x y : Bool) → (x && y) ≡ true → (x ≡ true) × (y ≡ true)
both_true true y e = (refl, e)
both_true false y e = absurd (let no : false ≡ true = e in cc)

all_front : (xs ys : List ℕ) → list_all is_line_byte (xs ++ ys) ≡ true → list_all is_line_byte xs ≡ true
all_front xs ys is = (both_true (list_all is_line_byte xs) (list_all is_line_byte ys) (sym (list_all-append is_line_byte xs ys) ∙ is)).0

all_back : (xs ys : List ℕ) → list_all is_line_byte (xs ++ ys) ≡ true → list_all is_line_byte ys ≡ true
all_back xs ys is = (both_true (list_all is_line_byte xs) (list_all is_line_byte ys) (sym (list_all-append is_line_byte xs ys) ∙ is)).1

-- a head has a space, before its version
head_in : (head : RequestHead) (rest : List ℕ) → list_all is_line_byte (print_request head ++ rest) ≡ true → ⊥
unfolding print_request
head_in h rest is =
    let line : List ℕ = print_blank h.blank ++ h.method ++ space ∷ h.target ++ space ∷ print_version h.minor in
    let front = all_front line (print_end h.line_end)
    (all_front (line ++ print_end h.line_end) (print_section h.fields h.last) (all_front (print_request h) rest is)) in
    let no : false ≡ true = all_back (print_blank h.blank ++ h.method ++ space ∷ h.target) (space ∷ print_version h.minor) front in
    cc

blank_waits : (bytes : List ℕ) → list_all is_line_byte bytes ≡ true → IsWhole bytes → ⊥
blank_waits bytes blank (head, rest, has, body) = head_in head rest (sym (ap (list_all is_line_byte) has.reads.1) ∙ blank)

pub not_blank : (blank : Bool) (bytes : List ℕ) → (blank ≡ true → list_all is_line_byte bytes ≡ true) → IsWhole bytes → blank ≡ false
not_blank true bytes is whole = absurd (blank_waits bytes (is refl) whole)
not_blank false bytes is whole = refl

pub blank_none : (bytes : List ℕ) → bytes ≡ [] → list_all is_line_byte bytes ≡ true
blank_none bytes is = ap (list_all is_line_byte) is

pub blank_anyway : (old new more : Bool) (bytes : List ℕ) → (old ≡ true → list_all is_line_byte bytes ≡ true) → new ≡ (old && more) → new ≡ true
    → list_all is_line_byte bytes ≡ true
blank_anyway old new more bytes blank flag still = blank (both_true old more (sym flag ∙ still)).0

pub blank_added : {E : Type 0} (told : Result (Unit {0}) E) (old new : Bool) (bytes reserved came after : List ℕ)
    → (old ≡ true → list_all is_line_byte bytes ≡ true) → new ≡ (old && list_all is_line_byte came) → reserved ≡ bytes
    → after ≡ (if is_ok told then reserved ++ came else reserved) → new ≡ true → list_all is_line_byte after ≡ true
blank_added {E} (Ok x) old new bytes reserved came after blank flag same is still =
    let both = both_true old (list_all is_line_byte came) (sym flag ∙ still) in
    ap (list_all is_line_byte) (is ∙ ap (λ (l : List ℕ). l ++ came) same)
    ∙ list_all-append is_line_byte bytes came
    ∙ ap (λ (b : Bool). b && list_all is_line_byte came) (blank both.0)
    ∙ both.1
blank_added {E} (Err e) old new bytes reserved came after blank flag same is still =
    ap (list_all is_line_byte) (is ∙ same) ∙ blank (both_true old (list_all is_line_byte came) (sym flag ∙ still)).0
