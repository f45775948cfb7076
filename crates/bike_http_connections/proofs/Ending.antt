-- When connections end: the soonest of their deadlines, and those whose time is over.
use Rattle.std.proofs.Common.{◌≡◌, ℕ, zero, suc, ◌+◌, ◌-◌, ◌<◌, ◌≤◌, leb, not, cond, All, List, [], ◌∷◌, ◌++◌, map, length, min, Option, Some, None, Bool, true, false, if◌then◌else◌, slice_set, slice_index_or, Result, Ok, Err, IfOk, IsOk}
use Rattle.std.proofs.Common.{OnErr, is_err, IsPermutation, inl, inr, refl, sym, subst, ap, ◌∙◌, arith}
use Rattle.std.proofs.Math.Nat.{min-le_left, min-le_right, min-eq_left, min-eq_right, le_refl}
use Rattle.std.proofs.lemmas.Bool.{cases_eq, cases_lt, lt-leb}
use Rattle.std.proofs.lemmas.List.{map-append, get_or_past}
use Rattle.std.proofs.lemmas.List.Sorted.{IsPermutation-sym, IsPermutation-map, sum_by_popped, sum_by_pushed}
use Rattle.std.specs.Duration.{as_nanos}
use Rattle.slab.specs.Slab.{Slab, get, Updates, HasRoomFor}
use Rattle.bike_http_connections.specs.Turns.{sooner_of, time_until, HasCome}
use Rattle.bike_http_connections.specs.Table.{Table}
use Rattle.bike_http_connection.specs.Connected.{Connected, Opened}
use Rattle.bike_http_connections.specs.Kept.{Kept, kept_as, opened_of, blocks_of, blocks_in, GivesOut, TakesIn, ComesIn}
use Rattle.bike_http_connections.specs.Ahead.{Loses, Stay, open_in}
use Rattle.bike_http_connections.specs.Ending.{clients_in, IsNoted, NoneSooner, IsOfOne, unless_late, EndsLate, EndsLateAt, in_time, ComesFirst, EndsFirst}
use Rattle.bike_http_connections.proofs.Losing.{loses_none, loses_then, loses_front, taken_from, taken_out, put_in, put_back, nothing_found, as_many}

-- ---- clients of connections

pub loses_clients : (old new : List Kept) → Loses old new → Loses (map (λ one. one.who) old) (map (λ one. one.who) new)
loses_clients old new lost = (
  map (λ one. one.who) lost.0,
  subst (λ (xs : List Connected). IsPermutation (map (λ one. one.who) old) xs) (map-append (λ (one : Kept). one.who) lost.0 new)
      (IsPermutation-map (λ (one : Kept). one.who) old (lost.0 ++ new) lost.1),
)

pub client_taken : (old new : Slab Kept) (key : ℕ) (x : Kept) (seen : List Connected) → clients_in old.slots ≡ seen → Some x ≡ get old key
    → new.slots ≡ slice_set old.slots key None → Loses seen (x.who ∷ clients_in new.slots)
client_taken old new key x seen is found set =
    subst (λ (xs : List Connected). Loses xs (x.who ∷ clients_in new.slots)) is
    (loses_clients (open_in old.slots) (x ∷ open_in new.slots) (taken_from old new key x (open_in old.slots) refl found set))

pub client_put : {F : Type 0} (told : Result ℕ F) (old new : Slab Kept) (x : Kept) (seen : List Connected) → clients_in old.slots ≡ seen
    → IfOk told (λ key. get old key ≡ None) → IfOk told (λ key. Updates old new key (Some x)) → OnErr told (new ≡ record old { capacity = new.capacity })
    → Loses (x.who ∷ seen) (clients_in new.slots)
client_put {F} told old new x seen is free updates full =
    subst (λ (xs : List Connected). Loses (x.who ∷ xs) (clients_in new.slots)) is
    (loses_clients (x ∷ open_in old.slots) (open_in new.slots) (put_back told old new x (open_in old.slots) refl free updates full))

-- ---- connections that go out and come in, with all that is known of them

pub kept_taken : (old new : Slab Kept) (key : ℕ) (x : Kept) (one : Opened) (seen : List Kept) → open_in old.slots ≡ seen → Some x ≡ get old key
    → new.slots ≡ slice_set old.slots key None → one ≡ opened_of x → GivesOut one seen (open_in new.slots)
kept_taken old new key x one seen is found set same = (
  x.blocks,
  subst (λ (xs : List Kept). IsPermutation xs (kept_as one x.blocks ∷ open_in new.slots)) is
      (subst (λ (y : Opened). IsPermutation (open_in old.slots) (kept_as y x.blocks ∷ open_in new.slots)) (sym same)
      (subst (λ (slots : List (Option Kept)). IsPermutation (open_in old.slots) (x ∷ open_in slots)) (sym set) (taken_out old.slots key x (sym found)))),
)

pub kept_put : {F : Type 0} (told : Result ℕ F) (old new : Slab Kept) (x : Kept) (one : Opened) (blocks : ℕ) (seen : List Kept)
    → open_in old.slots ≡ seen → x ≡ kept_as one blocks → IfOk told (λ key. get old key ≡ None)
    → IfOk told (λ key. Updates old new key (Some x)) → OnErr told (new ≡ record old { capacity = new.capacity }) → TakesIn one seen (open_in new.slots)
kept_put {F} told old new x one blocks seen is same free updates full = (
  blocks,
  subst (λ (y : Kept). Loses (y ∷ seen) (open_in new.slots)) same (put_back told old new x seen is free updates full),
)

-- .. the others stay
pub others_stay : {F : Type 0} (told : Result ℕ F) (old new : Slab Kept) (x : Kept) (seen : List Kept) → open_in old.slots ≡ seen
    → IfOk told (λ key. get old key ≡ None) → IfOk told (λ key. Updates old new key (Some x)) → OnErr told (new ≡ record old { capacity = new.capacity })
    → Stay seen (open_in new.slots)
others_stay {F} (Ok key) old new x seen is free updates full = (
  x ∷ [],
  subst (λ (xs : List Kept). IsPermutation (open_in new.slots) (x ∷ xs)) is
      (IsPermutation-sym (x ∷ open_in old.slots) (open_in new.slots) (put_in old new key x free updates)),
)
others_stay {F} (Err fault) old new x seen is free updates full =
    subst (λ (s : Slab Kept). Stay seen (open_in s.slots)) (sym full)
    (subst (λ (xs : List Kept). Stay xs (open_in old.slots)) is (loses_none (open_in old.slots)))

-- .. and it comes in where it has a place
pub comes_in : {F : Type 0} (told : Result ℕ F) (old new : Slab Kept) (x : Kept) (one : Opened) (blocks most : ℕ) (seen : List Kept)
    → open_in old.slots ≡ seen → x ≡ kept_as one blocks → IfOk told (λ key. get old key ≡ None) → IfOk told (λ key. Updates old new key (Some x))
    → (HasRoomFor old 1 → IsOk told) → most ≤ old.capacity → length seen < most → ComesIn one seen (open_in new.slots)
comes_in {F} (Ok key) old new x one blocks most seen is same free updates succeeds places few = (
  blocks,
  subst (λ (y : Kept). IsPermutation (open_in new.slots) (y ∷ seen)) same
      (subst (λ (xs : List Kept). IsPermutation (open_in new.slots) (x ∷ xs)) is
      (IsPermutation-sym (x ∷ open_in old.slots) (open_in new.slots) (put_in old new key x free updates))),
)
comes_in {F} (Err fault) old new x one blocks most seen is same free updates succeeds places few =
    absurd (let well = succeeds (omega (arith, as_many old seen is, places, few)) in cc)

-- ---- the soonest

come_old : (soonest : Option ℕ) (end now : ℕ) → HasCome soonest now → HasCome (sooner_of soonest (Some end)) now
come_old None end now come = absurd come
come_old (Some moment) end now come = let least = min-le_left moment end in omega (arith, come, least)

come_new : (soonest : Option ℕ) (end : ℕ) → HasCome (sooner_of soonest (Some end)) end
come_new None end = le_refl end
come_new (Some moment) end = min-le_right moment end

nobody_sooner : (soonest : Option ℕ) (slab : Slab Kept) → slab.slots ≡ [] → NoneSooner soonest slab
nobody_sooner soonest slab none key one found =
    absurd (let both : None ≡ Some one = sym (ap (λ (slots : List (Option Kept)). slice_index_or slots key None) none) ∙ found in cc)

pub nobody_noted : (soonest : Option ℕ) (slab : Slab Kept) → slab.slots ≡ [] → 1000 ≤ slab.capacity → IsNoted soonest 0 slab
nobody_noted soonest slab none places = record {
  soonest = nobody_sooner soonest slab none;
  counted = sym (ap (λ (slots : List (Option Kept)). blocks_of (open_in slots)) none);
  places = places;
}

pub sooner_put : {F : Type 0} (told : Result ℕ F) (before after : Option ℕ) (old new : Slab Kept) (x : Kept) → NoneSooner before old
    → after ≡ sooner_of before (Some (as_nanos x.end)) → IfOk told (λ key. Updates old new key (Some x))
    → OnErr told (new ≡ record old { capacity = new.capacity }) → NoneSooner after new
sooner_put {F} (Ok at) before after old new x none is updates full key one found = elim (cases_eq key at) [
  | inl same ↦
      let both : Some x ≡ Some one = sym updates.changed ∙ sym (ap (get new) same) ∙ found in
      let that : x ≡ one = cc in
      subst (λ (s : Option ℕ). HasCome s (as_nanos one.end)) (sym is)
      (subst (λ (y : Kept). HasCome (sooner_of before (Some (as_nanos x.end))) (as_nanos y.end)) that (come_new before (as_nanos x.end)))
  | inr differs ↦
      subst (λ (s : Option ℕ). HasCome s (as_nanos one.end)) (sym is)
      (come_old before (as_nanos x.end) (as_nanos one.end) (none key one (sym (updates.others key differs) ∙ found)))
]
sooner_put {F} (Err fault) before after old new x none is updates full key one found =
    subst (λ (s : Option ℕ). HasCome s (as_nanos one.end)) (sym is)
    (come_old before (as_nanos x.end) (as_nanos one.end) (none key one (sym (ap (λ (s : Slab Kept). slice_index_or s.slots key None) full) ∙ found)))

pub sooner_taken : (soonest : Option ℕ) (old new : Slab Kept) (at : ℕ) → NoneSooner soonest old → Updates old new at None → NoneSooner soonest new
sooner_taken soonest old new at none updates key one found = elim (cases_eq key at) [
  | inl same ↦ absurd (let both : None ≡ Some one = sym updates.changed ∙ sym (ap (get new) same) ∙ found in cc)
  | inr differs ↦ none key one (sym (updates.others key differs) ∙ found)
]

-- ---- the soonest of all, found key by key

abbrev pub NoneSoonerBelow : Option ℕ → Slab Kept → ℕ → Type 0
NoneSoonerBelow soonest slab below = (key : ℕ) (one : Kept) → key < below → get slab key ≡ Some one → HasCome soonest (as_nanos one.end)

pub below_none : (soonest : Option ℕ) (slab : Slab Kept) → NoneSoonerBelow soonest slab 0
below_none soonest slab key one less found = absurd (omega (arith, less))

pub below_empty : (soonest : Option ℕ) (slab : Slab Kept) (at : ℕ) → NoneSoonerBelow soonest slab at → None ≡ get slab at → NoneSoonerBelow soonest slab (at + 1)
below_empty soonest slab at none empty key one less found = elim (cases_lt key at) [
  | inl before ↦ none key one before found
  | inr after ↦
      let same : key ≡ at = omega (arith, less, after) in
      absurd (let both : None ≡ Some one = empty ∙ sym (ap (get slab) same) ∙ found in cc)
]

pub below_noted : (before after : Option ℕ) (slab : Slab Kept) (at : ℕ) (x : Kept) → NoneSoonerBelow before slab at → Some x ≡ get slab at
    → after ≡ sooner_of before (Some (as_nanos x.end)) → NoneSoonerBelow after slab (at + 1)
below_noted before after slab at x none there is key one less found = subst (λ (s : Option ℕ). HasCome s (as_nanos one.end)) (sym is) (elim (cases_lt key at) [
  | inl early ↦ come_old before (as_nanos x.end) (as_nanos one.end) (none key one early found)
  | inr late ↦
      let same : key ≡ at = omega (arith, less, late) in
      let both : Some x ≡ Some one = there ∙ sym (ap (get slab) same) ∙ found in
      let that : x ≡ one = cc in
      subst (λ (y : Kept). HasCome (sooner_of before (Some (as_nanos x.end))) (as_nanos y.end)) that (come_new before (as_nanos x.end))
])

pub below_all : (soonest : Option ℕ) (slab : Slab Kept) (below : ℕ) → length slab.slots ≤ below → NoneSoonerBelow soonest slab below → NoneSooner soonest slab
below_all soonest slab below long none key one found = elim (cases_lt key below) [
  | inl early ↦ none key one early found
  | inr late ↦ absurd (let both : None ≡ Some one = sym (get_or_past slab.slots key None (omega (arith, long, late))) ∙ found in cc)
]

pub of_none : (soonest : Option ℕ) (slab : Slab Kept) → soonest ≡ None → IsOfOne soonest slab
of_none soonest slab is moment at = absurd (let both : None ≡ Some moment = sym is ∙ at in cc)

of_sooner : (before : Option ℕ) (slab : Slab Kept) (key : ℕ) (x : Kept) → IsOfOne before slab → Some x ≡ get slab key
    → IsOfOne (sooner_of before (Some (as_nanos x.end))) slab
of_sooner None slab key x one there moment at = (key, x, sym there, let that : as_nanos x.end ≡ moment = cc in sym that)
of_sooner (Some other) slab key x one there moment at =
    let that : min other (as_nanos x.end) ≡ moment = cc in
    elim (cases_lt (as_nanos x.end) other) [
      | inl less ↦ (key, x, sym there, sym that ∙ min-eq_right (omega (arith, less)))
      | inr more ↦ let it = one other refl in (it.0, it.1, it.2, sym that ∙ min-eq_left more ∙ it.3)
    ]

pub of_noted : (before after : Option ℕ) (slab : Slab Kept) (key : ℕ) (x : Kept) → IsOfOne before slab → Some x ≡ get slab key
    → after ≡ sooner_of before (Some (as_nanos x.end)) → IsOfOne after slab
of_noted before after slab key x one there is = subst (λ (s : Option ℕ). IsOfOne s slab) (sym is) (of_sooner before slab key x one there)

-- ---- those whose time is over

pub ends_one : (old new : Slab Kept) (key : ℕ) (x : Kept) → Some x ≡ get old key → new.slots ≡ slice_set old.slots key None
    → Loses (clients_in old.slots) (clients_in new.slots)
ends_one old new key x found set =
    loses_then (clients_in old.slots) (x.who ∷ clients_in new.slots) (clients_in new.slots)
    (client_taken old new key x (clients_in old.slots) refl found set) (loses_front (x.who ∷ []) (clients_in new.slots))

-- below this key they ended, and the others are as they were
pub record EndsLateBelow (now : ℕ) (old new : Slab Kept) (below : ℕ) : Type 0 where
  pub lost : Loses (clients_in old.slots) (clients_in new.slots)
  pub done : (key : ℕ) → key < below → get new key ≡ unless_late now (get old key)
  pub kept : (key : ℕ) → below ≤ key → get new key ≡ get old key

pub ends_below_none : (now : ℕ) (slab : Slab Kept) → EndsLateBelow now slab slab 0
ends_below_none now slab = record {
  lost = loses_none (clients_in slab.slots);
  done = λ key less. absurd (omega (arith, less));
  kept = λ key more. refl;
}

pub ends_below_one : (now : ℕ) (old middle new : Slab Kept) (at : ℕ) → EndsLateBelow now old middle at
    → Loses (clients_in middle.slots) (clients_in new.slots) → EndsLateAt now middle new at → EndsLateBelow now old new (at + 1)
ends_below_one now old middle new at so_far lost ends = record {
  lost = loses_then (clients_in old.slots) (clients_in middle.slots) (clients_in new.slots) so_far.lost lost;
  done = λ key less. elim (cases_eq key at) [
    | inl same ↦
        ap (get new) same ∙ ends.changed ∙ ap (unless_late now) (so_far.kept at (le_refl at)) ∙ sym (ap (λ (k : ℕ). unless_late now (get old k)) same)
    | inr differs ↦ ends.others key differs ∙ (elim (cases_lt key at) [
      | inl early ↦ so_far.done key early
      | inr late ↦ absurd (differs (omega (arith, less, late)))
    ])
  ];
  kept = λ key more. elim (cases_eq key at) [
    | inl same ↦ absurd (omega (arith, more, same))
    | inr differs ↦ ends.others key differs ∙ so_far.kept key (omega (arith, more))
  ];
}

pub ends_below_all : (now : ℕ) (old new : Slab Kept) (below : ℕ) → length old.slots ≤ below → EndsLateBelow now old new below → EndsLate now old new
ends_below_all now old new below long so_far key = elim (cases_lt key below) [
  | inl early ↦ so_far.done key early
  | inr late ↦
      let none : get old key ≡ None = get_or_past old.slots key None (omega (arith, long, late)) in
      so_far.kept key late ∙ none ∙ sym (ap (unless_late now) none)
]

-- ---- those that are left, as they are seen

late_if : (late : Bool) (one : Kept) → None ≡ (if late then None else Some one) → late ≡ true
late_if true one is = refl
late_if false one is = absurd (cc)

stays_if : (late : Bool) (one left : Kept) → Some left ≡ (if late then None else Some one) → (late ≡ false) × (left ≡ one)
stays_if true one left is = absurd (cc)
stays_if false one left is = (refl, cc)

kept_there : (now : ℕ) (old new : List (Option Kept))
    → ((key : ℕ) → slice_index_or new key None ≡ unless_late now (slice_index_or old key None)) → open_in new ≡ in_time now (open_in old)
kept_there now [] new ends = nothing_found new ends
kept_there now (None ∷ old) [] ends = kept_there now old [] (λ key. ends (suc key))
kept_there now (None ∷ old) (None ∷ new) ends = kept_there now old new (λ key. ends (suc key))
kept_there now (None ∷ old) (Some x ∷ new) ends = absurd (let at : Some x ≡ None = ends zero in cc)
kept_there now (Some y ∷ old) [] ends =
    let late : leb (as_nanos y.end) now ≡ true = late_if (leb (as_nanos y.end) now) y (ends zero) in
    kept_there now old [] (λ key. ends (suc key))
    ∙ sym (ap (λ (b : Bool). cond (not b) (y ∷ in_time now (open_in old)) (in_time now (open_in old))) late)
kept_there now (Some y ∷ old) (None ∷ new) ends =
    let late : leb (as_nanos y.end) now ≡ true = late_if (leb (as_nanos y.end) now) y (ends zero) in
    kept_there now old new (λ key. ends (suc key))
    ∙ sym (ap (λ (b : Bool). cond (not b) (y ∷ in_time now (open_in old)) (in_time now (open_in old))) late)
kept_there now (Some y ∷ old) (Some x ∷ new) ends =
    let stays = stays_if (leb (as_nanos y.end) now) y x (ends zero) in
    ap (λ (z : Kept). z ∷ open_in new) stays.1
    ∙ ap (λ (zs : List Kept). y ∷ zs) (kept_there now old new (λ key. ends (suc key)))
    ∙ sym (ap (λ (b : Bool). cond (not b) (y ∷ in_time now (open_in old)) (in_time now (open_in old))) stays.0)

pub in_time_is : (now : ℕ) (old new : Slab Kept) (seen : List Kept) → open_in old.slots ≡ seen → EndsLate now old new
    → open_in new.slots ≡ in_time now seen
in_time_is now old new seen is ends = kept_there now old.slots new.slots ends ∙ ap (in_time now) is

-- where the soonest deadline is still to come, none is late
still_to_come : (soonest : Option ℕ) (end now : ℕ) → HasCome soonest end → (HasCome soonest now → ⊥) → now < end
still_to_come None end now come later = absurd come
still_to_come (Some moment) end now come later = elim (cases_lt now moment) [
  | inl before ↦ omega (arith, before, come)
  | inr after ↦ absurd (later after)
]

stays_there : (now : ℕ) (slot : Option Kept) → ((one : Kept) → slot ≡ Some one → now < as_nanos one.end) → slot ≡ unless_late now slot
stays_there now None later = refl
stays_there now (Some one) later =
    sym (ap (λ (late : Bool). if late then None else Some one) (lt-leb (as_nanos one.end) now (later one refl)))

pub none_late : (soonest : Option ℕ) (now : ℕ) (slab : Slab Kept) → NoneSooner soonest slab → (HasCome soonest now → ⊥) → EndsLate now slab slab
none_late soonest now slab none later key =
    stays_there now (get slab key) (λ one found. still_to_come soonest (as_nanos one.end) now (none key one found) later)

-- ---- the soonest, as those that are open are seen

all_open : (P : Kept → Type 0) (slots : List (Option Kept)) → ((key : ℕ) (one : Kept) → slice_index_or slots key None ≡ Some one → P one)
    → All P (open_in slots)
all_open P [] holds k d less = absurd (omega (arith, less))
all_open P (None ∷ slots) holds k d less = all_open P slots (λ key. holds (suc key)) k d less
all_open P (Some x ∷ slots) holds zero d less = holds zero x refl
all_open P (Some x ∷ slots) holds (suc k) d less = all_open P slots (λ key. holds (suc key)) k d (omega (arith, less))

pub comes_first : (soonest : Option ℕ) (slab : Slab Kept) (table : Table) → open_in slab.slots ≡ table.opened → soonest ≡ table.soonest
    → NoneSooner soonest slab → ComesFirst table.soonest table.opened
comes_first soonest slab table is same none =
    subst (λ (moment : Option ℕ). ComesFirst moment table.opened) same
    (subst (λ (opened : List Kept). ComesFirst soonest opened) is (all_open (λ one. HasCome soonest (as_nanos one.end)) slab.slots none))

time_left : (moment : Option ℕ) (end now : ℕ) → HasCome moment end → HasCome (time_until moment now) (end - now)
time_left None end now come = absurd come
time_left (Some moment) end now come = omega (arith, come)

pub ends_first : (wait soonest : Option ℕ) (now : ℕ) (opened : List Kept) → wait ≡ time_until soonest now → ComesFirst soonest opened
    → EndsFirst wait now opened
ends_first wait soonest now opened is first k d less =
    let one = slice_index_or opened k d in
    subst (λ (w : Option ℕ). HasCome w (as_nanos one.end - now)) (sym is) (time_left soonest (as_nanos one.end) now (first k d less))

come_either : (wait other : Option ℕ) (time : ℕ) → HasCome wait time → HasCome (sooner_of wait other) time
come_either None other time come = absurd come
come_either (Some moment) None time come = come
come_either (Some moment) (Some other) time come = come_old (Some moment) other time come

-- a wait that another moment, or work to be done, cuts short
pub cut_short : (wait patience other : Option ℕ) (has_work : Bool) (now : ℕ) (opened : List Kept)
    → wait ≡ (if has_work then Some 0 else sooner_of patience other) → EndsFirst patience now opened → EndsFirst wait now opened
cut_short wait patience other true now opened is first k d less =
    subst (λ (w : Option ℕ). HasCome w (as_nanos (slice_index_or opened k d).end - now)) (sym is) (omega arith)
cut_short wait patience other false now opened is first k d less =
    subst (λ (w : Option ℕ). HasCome w (as_nanos (slice_index_or opened k d).end - now)) (sym is)
    (come_either patience other (as_nanos (slice_index_or opened k d).end - now) (first k d less))

-- ---- the blocks that are counted

-- one is taken out, and its blocks are given back
pub blocks_taken : (old new : Slab Kept) (key held left : ℕ) (x : Kept) → Some x ≡ get old key → new.slots ≡ slice_set old.slots key None
    → held ≡ blocks_in old → left ≡ held - x.blocks → left ≡ blocks_in new
blocks_taken old new key held left x found set counted back =
    let rest = open_in (slice_set old.slots key None) in
    let popped : blocks_of rest + x.blocks ≡ blocks_in old =
    sum_by_popped (λ (one : Kept). one.blocks) x (open_in old.slots) rest (taken_out old.slots key x (sym found)) in
    let here : left ≡ blocks_of rest = omega (arith, popped, counted, back) in
    here ∙ sym (ap (λ (slots : List (Option Kept)). blocks_of (open_in slots)) set)

-- one is put in, whose blocks were taken; where it has no place, they are given back
pub blocks_put : {F : Type 0} (told : Result ℕ F) (old new : Slab Kept) (held more : ℕ) (x : Kept) → held ≡ blocks_in old → more ≡ held + x.blocks
    → is_err told ≡ false → IfOk told (λ key. get old key ≡ None) → IfOk told (λ key. Updates old new key (Some x)) → more ≡ blocks_in new
blocks_put {F} (Ok key) old new held more x counted taken well free updates =
    let pushed : blocks_in new ≡ x.blocks + blocks_in old =
    sum_by_pushed (λ (one : Kept). one.blocks) x (open_in old.slots) (open_in new.slots) (put_in old new key x free updates) in
    omega (arith, pushed, counted, taken)
blocks_put {F} (Err fault) old new held more x counted taken fails free updates = absurd (let e : true ≡ false = fails in cc)

pub blocks_back : {F : Type 0} (told : Result ℕ F) (old new : Slab Kept) (held more : ℕ) (x : Kept) (left : ℕ) → held ≡ blocks_in old
    → more ≡ held + x.blocks → left ≡ more - x.blocks → is_err told ≡ true → OnErr told (new ≡ record old { capacity = new.capacity })
    → left ≡ blocks_in new
blocks_back {F} (Ok key) old new held more x left counted taken back well full = absurd (let e : false ≡ true = well in cc)
blocks_back {F} (Err fault) old new held more x left counted taken back fails full =
    let here : left ≡ blocks_in old = omega (arith, counted, taken, back) in
    here ∙ sym (ap (λ (s : Slab Kept). blocks_in s) full)
