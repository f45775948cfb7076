-- What the rows that are found say of the operator.
use Rattle.std.proofs.Common.{◌≡◌, ◌+◌, ◌+ℤ◌, ◌<◌, ◌≤◌, inl, ℕ, suc, ℤ, cond, List, [], ◌∷◌, map, length, slice_get, nat_le, ◌==◌, ◌&&◌, Bool, true, false, T, Option, Some, None}
use Rattle.std.proofs.Common.{Result, Ok, if◌then◌else◌, refl, sym, ap, subst, ◌∙◌, arith}
use Rattle.std.specs.Prelude.{option_map, IfOk}
use Rattle.std.specs.Option.{ok_or}
use Rattle.std.proofs.lemmas.Bool.{leb-true, eqb-true}
use Rattle.std.proofs.lemmas.Option.{same_Some}
use Rattle.std.specs.declared.cmp.Ordering.{Ordering}
use Rattle.std.specs.declared.cmp.Ordering.TheVariants.{Less, Equal, Greater}
use Rattle.std.specs.Ordering.{nat_cmp, is_lt, eq_by_cmp, MatchOrdering}
use Rattle.std.specs.Cmp.{ranks}
use Rattle.std.specs.FinMap as fin
use Rattle.std.specs.FinMap.Entries.{is_sorted, below_all}
use Rattle.sqlite_value.specs.declared.value.Value.{Value}
use Rattle.sqlite_value.specs.declared.value.Value.TheVariants.{Int}
use Rattle.sqlite_value.specs.Order.{Row, column}
use Rattle.sqlite_rules.specs.Lists.{Has}
use Rattle.bike_sql.specs.View.{last_of}
use Rattle.bike_fields.specs.Values.{SegmentRow}
use Rattle.bike_catalogue.specs.Rows.{PlanRow}
use Rattle.bike_commands.specs.Replies.{IsReply}
use Rattle.bike_ledger.specs.Entries.{Entry}
use Rattle.bike_ledger.specs.Ledger.{balance_of, refunded_of}
use Rattle.bike_operator.specs.declared.records.Rental.{Rental}
use Rattle.bike_operator.specs.declared.records.Closing.{Closing}
use Rattle.bike_operator.specs.Operator.{Operator, Rider, AcceptedRequest, Key, Numbered, item_at, item_numbered, key_in, kept_under, texts_cmp}
use Rattle.bike_operator.specs.Sound.{IsAccepted, IsHistory}
use Rattle.bike_operator.specs.View.{rider_view, before_of}
use Rattle.bike_operator.specs.declared.view.RiderView.{RiderView}
use Rattle.bike_laws.proofs.SingleSteps.ItemLemmas.{number_of_place}
use Rattle.bike_book.specs.Tables.{Riders, Rentals}
use Rattle.bike_book.specs.Rows.{number_value, books_row, rider_row, rental_row, plan_row}
use Rattle.bike_book.specs.Stored.{stored_rider, books_rows}
use Rattle.bike_book.specs.Found.{row_under, last_row, WhereListed, IsLast, AreRowOf}
use Rattle.bike_book.proofs.FoundKeys.{found_by_key}
use Rattle.bike_book.proofs.Keys.{numbers}
use Rattle.bike_book.proofs.MapRows.{has_get}
use Rattle.bike_schema.specs.declared.fault.StatementFault.{StatementFault}
use Rattle.bike_schema.specs.Columns.{number_in, moment_in, whole_in, flag_in, ident_in, name_in, request_count_in, or_none, read_or_failed}
use Rattle.bike_schema.proofs.ReadLemmas.{flag_read, name_read, number_read, moment_read, whole_read, ident_read, optional_moment_read, optional_whole_read, optional_ident_read}
use Rattle.bike_office_reads.specs.declared.books.Archived.{Archived}
use Rattle.bike_office_reads.specs.declared.kept.KeptRow.{KeptRow}
use Rattle.bike_office_reads.specs.declared.kept.LastRequest.{LastRequest}
use Rattle.bike_office_reads.specs.Accounts.{KeepsSame, archived_of, stored_rental_at}
use Rattle.bike_office_reads.specs.ReadRows.{shown_rider_row, IsBalanceOf, HasClosing, KeepsRow, IsLastRead}

-- the value, or a failure
abbrev Told : {X : Type 0} → X → Option X → Type 0
Told x found = ◌≡◌ {A = Result _ StatementFault} (Ok x) (read_or_failed found)

-- a count of requests
count_told : {x n : ℕ} {v : Value} → Told x (request_count_in v) → v ≡ number_value n → x ≡ n
count_told {x} {n} told is = let same : ◌≡◌ {A = Result ℕ StatementFault} (Ok x) (Ok n) = told ∙ ap (λ w. read_or_failed (request_count_in w)) is in cc

-- ---- riders

-- the row of a rider
abbrev pub rider_row_at : Operator → ℕ → Rider → Row
rider_row_at s rider r = rider_row rider r (r.before +ℤ balance_of rider s.entries.items)

-- a rider's columns are read as they were stored
pub rider_read : {x : RiderView} {row : Row} {paid : ℤ} (rider : ℕ) (before : ℤ) (y : RiderView) → Told x.is_blocked (flag_in (column row 1)) → or_none ident_in (column row 4) ≡ Some x.plan
    → Told paid (whole_in (column row 2)) → x.balance ≡ paid → row ≡ shown_rider_row rider before y → x ≡ y
rider_read {x} {row} rider before y blocked plan balance shown is =
    let at : (k : ℕ) → column row k ≡ column (shown_rider_row rider before y) k = λ k. ap (λ r. column r k) is in
    let blocked_is = flag_read y.is_blocked blocked (at 1) in
    let plan_is = optional_ident_read y.plan plan (at 4) in
    let balance_is = whole_read balance (at 2) in
    λ i. record { is_blocked = blocked_is i; plan = plan_is i; balance = (shown ∙ balance_is) i }

-- the rider whose row was read, as the view shows him
pub rider_shown : (s : Operator) (rider : ℕ) (o : Option Rider) {row : Row} {x : RiderView} → ((before : ℤ) (y : RiderView) → row ≡ shown_rider_row rider before y → x ≡ y)
    → Some row ≡ option_map (rider_row_at s rider) o → Some x ≡ rider_view s rider o
rider_shown s rider None reads is = absurd cc
rider_shown s rider (Some r) {row} reads is =
    ap Some (reads r.before (record { is_blocked = r.is_blocked; plan = r.plan; balance = r.before +ℤ balance_of rider s.entries.items }) (same_Some row (rider_row_at s rider r) is))

pub no_rider : (s : Operator) (rider : ℕ) (o : Option Rider) → None ≡ option_map (rider_row_at s rider) o → None ≡ rider_view s rider o
no_rider s rider None is = refl
no_rider s rider (Some r) is = absurd cc

-- the balance in his row
pub balance_read : (s : Operator) (rider : ℕ) (o : Option Rider) {row : Row} {x : ℤ} → IsBalanceOf row x → Some row ≡ option_map (rider_row_at s rider) o
    → x ≡ before_of o +ℤ balance_of rider s.entries.items
balance_read s rider None reads is = absurd cc
balance_read s rider (Some r) {row} reads is = reads rider r (r.before +ℤ balance_of rider s.entries.items) (same_Some row (rider_row_at s rider r) is)

both_true : (a b : Bool) → T (a && b) → T a × T b
both_true true true t = (tt, tt)
both_true true false t = absurd t
both_true false b t = absurd t

below : (a b : ℕ) → T (is_lt (nat_cmp a b)) → a < b
below a b t = go (nat_cmp a b) (ranks a b) t where
  go : (r : Ordering) → MatchOrdering r (a < b) (a ≡ b) (b < a) → T (is_lt r) → a < b
  go Less h t = h
  go Equal h t = absurd t
  go Greater h t = absurd t

-- numbers that rise from above a least one are at most as many as the last is above it
rising : (es : List Entry) (least : ℕ) (e : ℕ × Rider) (rs : List (ℕ × Rider)) → least < e.0 → T (is_sorted nat_cmp (e ∷ rs))
    → (n : ℕ) × IsLast 0 n (slice_get (last_of (map (stored_rider es) (e ∷ rs))) 0) × (least + length (e ∷ rs) ≤ n)
rising es least e [] above sorted = (e.0, refl, omega (arith, above))
rising es least e (f ∷ rs) above sorted =
    let parts = both_true (below_all nat_cmp e.0 (f ∷ rs)) (is_sorted nat_cmp (f ∷ rs)) sorted in
    let next = below e.0 f.0 (both_true (is_lt (nat_cmp e.0 f.0)) (below_all nat_cmp e.0 rs) parts.0).0 in
    let rest = rising es e.0 f rs next parts.1 in
    (rest.0, rest.1, omega (arith, above, rest.2))

-- there are at most as many riders as the number of the last, since their numbers begin at 1
pub riders_at_most : WhereListed (λ s m. (n : ℕ) × IsLast 0 n (last_row s m Riders) × (fin.len s.riders ≤ n))
riders_at_most s m sound listing =
    let it = at_most (fin.entries s.riders) (λ e has. (sound.ledger.riders e.0 e.1 (has_get numbers.total s.riders e has)).low) (fin.entries_sorted s.riders) in
    (it.0, it.1, omega (arith, it.2, fin.len-entries s.riders))
  where
    at_most : (rs : List (ℕ × Rider)) → ((e : ℕ × Rider) → Has rs e → 1 ≤ e.0) → T (is_sorted nat_cmp rs)
        → (n : ℕ) × IsLast 0 n (slice_get (last_of (map (stored_rider s.entries.items) rs)) 0) × (length rs ≤ n)
    at_most [] low sorted = (0, refl, omega arith)
    at_most (e ∷ rs) low sorted = let it = rising s.entries.items 0 e rs (omega (arith, low e (inl refl))) sorted in (it.0, it.1, omega (arith, it.2))

-- fewer than there may be
pub not_full : (most n last : ℕ) → n ≤ last → last < most → false ≡ nat_le most n
not_full most n last few below = by (nat_le most n) refl
  where
    by : (b : Bool) → nat_le most n ≡ b → false ≡ b
    by false is = refl
    by true is = absurd (omega (arith, few, below, leb-true most n is))

-- ---- what was archived

-- the columns of how much was archived are read as they were stored
pub archived_read : {x : Archived} {row : Row} (y : Archived) → Told x.requests (request_count_in (column row 1)) → ((n : ℕ) → column row 2 ≡ number_value n → x.entries ≡ n)
    → ((n : ℕ) → column row 3 ≡ number_value n → x.rentals ≡ n) → row ≡ books_row y.requests y.entries y.rentals → x ≡ y
archived_read {x} {row} y requests entries rentals is =
    let at : (k : ℕ) → column row k ≡ column (books_row y.requests y.entries y.rentals) k = λ k. ap (λ r. column r k) is in
    let requests_is = count_told requests (at 1) in
    let entries_is = entries y.entries (at 2) in
    let rentals_is = rentals y.rentals (at 3) in
    λ i. record { requests = requests_is i; entries = entries_is i; rentals = rentals_is i }

-- the row, where there is one
pub some_archived : (s : Operator) {row : Row} → Some row ≡ slice_get (books_rows s.history.archived s.entries.archived s.rentals.archived) 0
    → row ≡ books_row s.history.archived s.entries.archived s.rentals.archived
some_archived s {row} is = by (s.history.archived + s.entries.archived + s.rentals.archived == 0) (books_row s.history.archived s.entries.archived s.rentals.archived) is
  where
    by : (b : Bool) (stored : Row) → Some row ≡ slice_get (cond b [] (stored ∷ [])) 0 → row ≡ stored
    by true stored is = absurd cc
    by false stored is = same_Some row stored is

-- there is none where nothing was archived
pub none_archived : (s : Operator) (none : ℕ) → none ≡ 0 → None ≡ slice_get (books_rows s.history.archived s.entries.archived s.rentals.archived) 0
    → record { requests = none; entries = 0; rentals = 0 } ≡ archived_of s
none_archived s none zero is = by (s.history.archived + s.entries.archived + s.rentals.archived == 0) (books_row s.history.archived s.entries.archived s.rentals.archived) refl is
  where
    by : (b : Bool) (stored : Row) → (s.history.archived + s.entries.archived + s.rentals.archived == 0) ≡ b → None ≡ slice_get (cond b [] (stored ∷ [])) 0
        → record { requests = none; entries = 0; rentals = 0 } ≡ archived_of s
    by true stored all is =
        let sum = eqb-true (s.history.archived + s.entries.archived + s.rentals.archived) 0 all in
        let requests : none ≡ s.history.archived = omega (arith, sum, zero) in
        let entries : 0 ≡ s.entries.archived = omega (arith, sum) in
        let rentals : 0 ≡ s.rentals.archived = omega (arith, sum) in
        λ i. record { requests = requests i; entries = entries i; rentals = rentals i }
    by false stored some is = absurd cc

-- the number in the last row is how many there are
pub last_counted : (archived n : ℕ) {x : ℕ} {row : Row} {o : Option Row} → Some row ≡ o → IsLast archived n o → ((k : ℕ) → column row 0 ≡ number_value k → x ≡ k) → x ≡ n
last_counted archived n is last reads = reads n (subst (IsLast archived n) (sym is) last)

-- all were archived where there is no row
pub all_archived : (archived n : ℕ) {o : Option Row} → None ≡ o → IsLast archived n o → archived ≡ n
all_archived archived n is last = sym (subst (IsLast archived n) (sym is) last)

-- ---- rentals

-- the row of a rental with its refunds
pub rental_found : (rental : ℕ) → WhereListed (λ s m. row_under s m Rentals (number_value rental ∷ []) ≡ option_map (λ (x : Rental × ℤ). rental_row rental x.0 x.1) (stored_rental_at s rental))
rental_found rental s m sound listing = (found_by_key s m sound listing).rentals rental ∙ shown (item_numbered rental s.rentals)
  where
    shown : (o : Option Rental) → option_map (λ (r : Rental). rental_row rental r (refunded_of rental s.entries.items)) o
        ≡ option_map (λ (x : Rental × ℤ). rental_row rental x.0 x.1) (option_map (λ (r : Rental). (r, refunded_of rental s.entries.items)) o)
    shown None = refl
    shown (Some r) = refl

-- a closed rental's columns are read as they were stored
pub closing_read : {x : Closing} {fare : ℤ} (row : Row) (closing : Option Closing) → or_none ident_in (column row 6) ≡ Some x.to_station → Told (Some x.finish) (or_none moment_in (column row 7))
    → Told (Some fare) (or_none whole_in (column row 8)) → x.fare ≡ fare → HasClosing row closing
    → Some x ≡ closing
closing_read {x} row None to_station finish fare shown is = let e = optional_moment_read None finish (ap (λ r. column r 1) is) in absurd cc
closing_read {x} {fare = paid} row (Some c) to_station finish fare shown is =
    let to_is = optional_ident_read c.to_station to_station (ap (λ r. column r 0) is) in
    let finish_is : x.finish ≡ c.finish = let e = optional_moment_read (Some c.finish) finish (ap (λ r. column r 1) is) in cc in
    let paid_is : paid ≡ c.fare = let e = optional_whole_read (Some c.fare) fare (ap (λ r. column r 2) is) in cc in
    λ i. Some (record { to_station = to_is i; finish = finish_is i; fare = (shown ∙ paid_is) i })

-- what stands in the last columns of a rental's row
closing_in : (number : ℕ) (r : Rental) (closing : Option Closing) (refunded : ℤ) → HasClosing (rental_row number (record r { closing = closing }) refunded) closing
closing_in number r None refunded = refl
closing_in number r (Some c) refunded = refl

refunded_in : (number : ℕ) (r : Rental) (closing : Option Closing) (refunded : ℤ) → column (rental_row number (record r { closing = closing }) refunded) 9 ≡ Int refunded
refunded_in number r None refunded = refl
refunded_in number r (Some c) refunded = refl

-- a rental's columns are read as they were stored
pub rental_read : {x : Rental × ℤ} {row : Row} {refunds : ℤ} (number : ℕ) (y : Rental × ℤ) → Told x.0.rider (number_in 1 999999 (column row 1)) → Told x.0.bike (number_in 1 999999 (column row 2))
    → ident_in (column row 3) ≡ Some x.0.plan
    → ident_in (column row 4) ≡ Some x.0.from_station → Told x.0.start (moment_in (column row 5)) → ((closing : Option Closing) → HasClosing row closing → x.0.closing ≡ closing)
    → Told refunds (whole_in (column row 9)) → x.1 ≡ refunds
    → row ≡ rental_row number y.0 y.1 → x ≡ y
rental_read {x} {row} number y rider bike plan from_station start closing refunded shown is =
    let at : (k : ℕ) → column row k ≡ column (rental_row number y.0 y.1) k = λ k. ap (λ r. column r k) is in
    let rider_is = number_read 1 999999 rider (at 1) in
    let bike_is = number_read 1 999999 bike (at 2) in
    let plan_is = ident_read plan (at 3) in
    let from_is = ident_read from_station (at 4) in
    let start_is = moment_read start (at 5) in
    let closing_is = closing y.0.closing (ap (λ r. map (column r) (6 ∷ 7 ∷ 8 ∷ [])) is ∙ closing_in number y.0 y.0.closing y.1) in
    let refunded_is = whole_read refunded (at 9 ∙ refunded_in number y.0 y.0.closing y.1) in
    λ i. (record { rider = rider_is i; bike = bike_is i; plan = plan_is i; from_station = from_is i; start = start_is i; closing = closing_is i }, (shown ∙ refunded_is) i)

-- ---- plans

-- a plan's columns are read as they were stored
pub plan_read : (x : PlanRow) (row : Row) (p : PlanRow) → ident_in (column row 0) ≡ Some x.plan_id → name_in (column row 1) ≡ Some x.name → Told x.price (number_in 0 1000000 (column row 2))
    → Told x.taxable (flag_in (column row 3))
    → name_in (column row 4) ≡ Some x.description → x.segments ≡ p.segments → row ≡ plan_row p.plan_id p → x ≡ p
plan_read x row p id name price taxable description segments is =
    let at : (k : ℕ) → column row k ≡ column (plan_row p.plan_id p) k = λ k. ap (λ r. column r k) is in
    let id_is = ident_read id (at 0) in
    let name_is = name_read name (at 1) in
    let price_is = number_read 0 1000000 price (at 2) in
    let taxable_is = flag_read p.taxable taxable (at 3) in
    let description_is = name_read description (at 4) in
    λ i. record { plan_id = id_is i; name = name_is i; price = price_is i; taxable = taxable_is i; description = description_is i; segments = segments i }

-- the row of a plan that is there, with its segments
pub plan_found : (plan : List ℕ) (o : Option PlanRow) {row : Row} {x : PlanRow} {segments : List SegmentRow} → ((p : PlanRow) → o ≡ Some p → plan ≡ p.plan_id) → Some row ≡ option_map (plan_row plan) o
    → ((p : PlanRow) → o ≡ Some p → segments ≡ p.segments)
    → ((p : PlanRow) → row ≡ plan_row p.plan_id p → segments ≡ p.segments → x ≡ p) → Some x ≡ o
plan_found plan None named is have reads = absurd cc
plan_found plan (Some p) {row} named is have reads =
    let row_is : row ≡ plan_row plan p = cc in
    ap Some (reads p (row_is ∙ ap (λ id. plan_row id p) (named p refl)) (have p refl))

-- what is made where a test passes, or a fault
pub made_if : {X E : Type 0} {made : X} {o : Option X} (fault : E) (result : Result X E) (P : X → Type 0) (b : Bool) → result ≡ ok_or o fault → o ≡ (if b then Some made else None) → P made
    → IfOk result P
made_if {made = made} fault result P b result_is is it = subst (λ r. IfOk r P) (sym (result_is ∙ ap (λ p. ok_or p fault) is)) (by b)
  where
    by : (b : Bool) → IfOk (ok_or (if b then Some made else None) fault) P
    by true = it
    by false = tt

-- ---- the history

-- what is kept under a key stands in the history
standing : (key : Key) (h : List AcceptedRequest) (a : AcceptedRequest) → kept_under key h ≡ Some a → (at : ℕ) × (item_at at h ≡ Some a)
standing key [] a e = absurd cc
standing key (x ∷ h) a e = go (eq_by_cmp texts_cmp key (key_in x.request)) e (standing key h a) where
  go : (b : Bool) → cond b (Some x) (kept_under key h) ≡ Some a → (kept_under key h ≡ Some a → (at : ℕ) × (item_at at h ≡ Some a)) → (at : ℕ) × (item_at at (x ∷ h) ≡ Some a)
  go true e behind = (0, e)
  go false e behind = let it = behind e in (suc it.0, it.1)

-- so it was accepted
pub kept_good : (now : ℕ) (key : Key) (h : Numbered AcceptedRequest) (a : AcceptedRequest) → IsHistory now h → kept_under key h.items ≡ Some a → IsAccepted now a
kept_good now key h a sound e = let it = standing key h.items a e in sound.requests (h.archived + suc it.0) a (number_of_place it.0 h a it.1)

-- the row of what is kept
pub kept_found : (o : Option AcceptedRequest) {row : Row} (x : KeptRow) → ((a : AcceptedRequest) → o ≡ Some a → IsReply a.reply) → KeepsRow row x → AreRowOf o (Some row) → KeepsSame o (Some x)
kept_found None x good reads is = absurd is
kept_found (Some a) x good reads is = reads is.number a (good a refl) is.row_is

pub nothing_kept : (o : Option AcceptedRequest) → AreRowOf o None → KeepsSame o None
nothing_kept None is = tt
nothing_kept (Some a) is = absurd is

-- the number and the moment of a row
pub last_read : (found : Row) (x : LastRequest) → Told x.number (request_count_in (column found 0)) → Told x.moment (moment_in (column found 1)) → IsLastRead found x
last_read found x n t number moment is at =
    let same = count_told n is in
    let when = moment_read t at in
    λ i. record { number = same i; moment = when i }
