-- What both passes over the history find is the verdict on the table.
use Rattle.std.proofs.Common.{◌≡◌, inl, inr, ℕ, ◌+◌, ◌==◌, ◌&&◌, List, [], ◌∷◌, ◌++◌, length, map, take, Bool, true, false, cond, Option, Some, None, refl, sym, ap, subst, ◌∙◌}
use Rattle.std.specs.Prelude.{option_map, nat_le}
use Rattle.std.specs.Cmp.Lexicographic.{slice_cmp}
use Rattle.std.specs.List.{filter_map}
use Rattle.std.specs.Option.{IsSomeAnd}
use Rattle.std.specs.Ordering.{eq_by_cmp, nat_cmp, ordering_reverse}
use Rattle.std.specs.declared.cmp.Ordering.{Ordering}
use Rattle.std.specs.declared.cmp.Ordering.TheVariants.{Less, Equal, Greater}
use Rattle.std.proofs.lemmas.Cmp.{tied_itself}
use Rattle.std.proofs.lemmas.Bool.{and_from, and_parts, le-leb, leb-true, true≢false}
use Rattle.std.proofs.lemmas.Bool.Decides.{Decides-eqb}
use Rattle.std.proofs.lemmas.List.{take_at, map-append, length-map}
use Rattle.std.proofs.lemmas.Option.{same_Some}
use Rattle.sqlite_value.specs.Order.{Row, row_cmp}
use Rattle.sqlite_value.proofs.OrderLemmas.{row_cmp_total, value_cmp-Text}
use Rattle.sqlite_rules.specs.Lists.{Has}
use Rattle.sqlite.specs.Effect.{Database}
use Rattle.bike_fields.specs.Caller.{caller_text}
use Rattle.bike_operator.specs.Operator.{Operator, AcceptedRequest, item_in, texts_cmp, key_in, kept_under}
use Rattle.bike_sql.specs.View.{by_key}
use Rattle.bike_sql.proofs.OrderLemmas.{Rises, all_has}
use Rattle.bike_sql.proofs.TreeLemmas.{by_key_total}
use Rattle.bike_book.specs.Stored.{stored_request}
use Rattle.bike_book.specs.Tables.{Tables, History}
use Rattle.bike_schema.specs.Tables.{tables_of, IsOurs}
use Rattle.bike_readings.specs.Readings.{request_read}
use Rattle.bike_readings.proofs.RequestRows.{request_reading}
use Rattle.bike_readings.specs.ReadOff.{operator_of}
use Rattle.bike_readings.specs.Demands.{IsGoodRequest}
use Rattle.bike_readings.specs.Rules.{AreInOrder, IsGoodKey, IsGoodAt, rows_below, row_under}
use Rattle.bike_readings.proofs.Places.{has_under, under_has, has_between, lesser_before}
use Rattle.bike_readings.proofs.RowRules.{some_with, some_and, below_tied}
use Rattle.bike_readings.proofs.RulesLaws.{stored_in_order}
use Rattle.bike_judges.specs.declared.key.BadKey.{BadKey}
use Rattle.bike_judges.specs.declared.query.Query.TheVariants as query
use Rattle.bike_judges.specs.Judging.{key_row}
use Rattle.bike_judges.specs.Least.{least_key}
use Rattle.bike_judges.specs.Lines.{lines_of}
use Rattle.bike_judges.specs.Passes.{first_failing, Demands}
use Rattle.bike_judges.specs.Verdicts.{IsFirstFailing, IsTableVerdict}
use Rattle.bike_judges.proofs.LeastLaw.{least_verdict}
use Rattle.bike_judges.proofs.LineLaw.{rows_verdict}
use Rattle.bike_ledger_rules.specs.History.{is_later, request_passes, last_moment, first_astray, request_test, least_again}
use Rattle.bike_ledger_rules.proofs.FirstItems.{split, has_front, read_append, read_all}
use Rattle.bike_ledger_rules.proofs.HistoryKeys.{both_tie, have_one_key, IsAnew, keys_verdict}
use Rattle.bike_ledger_rules.proofs.HistoryRows.{rows_pass, requests, EachSpells, one_spelled, last_is, later_than, than_later, passing_spells}
use Rattle.bike_ledger_rules.proofs.Rows.{demanded, demands, lacking}
use Rattle.bike_ledger_rules.proofs.Widths.{history_wide}

some_none : {A : Type 0} (x : A) → ◌≡◌ {A = Option A} (Some x) None → ⊥
some_none x is = cc

less_equal : (o : Ordering) → o ≡ Less → o ≡ Equal → ⊥
less_equal o low tie = cc

less_greater : (o : Ordering) → o ≡ Less → o ≡ Greater → ⊥
less_greater o low high = cc

-- ---- callers and keys

same_texts : (e x : ℕ × AcceptedRequest) → have_one_key (stored_request e) (stored_request x) ≡ eq_by_cmp texts_cmp (key_in e.1.request) (key_in x.1.request)
same_texts e x =
    let a = e.1.request in
    let b = x.1.request in
    rw (value_cmp-Text (caller_text a.caller) (caller_text b.caller), value_cmp-Text a.key b.key)
    (both_tie (slice_cmp nat_cmp (caller_text a.caller) (caller_text b.caller)) (slice_cmp nat_cmp a.key b.key))

-- rows that spell these have one caller and key just where those have
keys_same : (r z : Row) (e x : ℕ × AcceptedRequest) → request_read r ≡ Some e → request_read z ≡ Some x → have_one_key r z ≡ eq_by_cmp texts_cmp (key_in e.1.request) (key_in x.1.request)
keys_same r z e x is has =
    (λ i. have_one_key ((request_reading.sound r e is).0 i) ((request_reading.sound z x has).0 i)) ∙ same_texts e x

module _ (r : Row) (e : ℕ × AcceptedRequest) (is : request_read r ≡ Some e) where
  none_kept : (rows : List Row) → EachSpells rows → ((z : Row) → Has rows z → have_one_key r z ≡ true → ⊥) → kept_under (key_in e.1.request) (requests rows) ≡ None
  none_kept [] each anew = refl
  none_kept (z ∷ rows) each anew =
      let x = each z (inl refl) in
      ap (kept_under (key_in e.1.request)) (one_spelled z rows x.0 x.1)
      ∙ go (have_one_key r z) refl (keys_same r z e x.0 is x.1) x.0.1 (none_kept rows (λ y h. each y (inr h)) (λ y h. anew y (inr h)))
    where
      go : (b : Bool) → have_one_key r z ≡ b → {c : Bool} → have_one_key r z ≡ c → (a : AcceptedRequest) → kept_under (key_in e.1.request) (requests rows) ≡ None
          → cond c (Some a) (kept_under (key_in e.1.request) (requests rows)) ≡ None
      go true same also a rest = absurd (anew z (inl refl) same)
      go false apart also a rest = ap (λ (d : Bool). cond d (Some a) (kept_under (key_in e.1.request) (requests rows))) (sym also ∙ apart) ∙ rest

  -- no request of these has the key, so no row has it
  abbrev NoneHas : List Row → Type 0
  NoneHas rows = (z : Row) → Has rows z → have_one_key r z ≡ true → ⊥

  kept_none : (rows : List Row) → EachSpells rows → kept_under (key_in e.1.request) (requests rows) ≡ None → NoneHas rows
  kept_none [] each none = λ z has same. elim has [ ]
  kept_none (y ∷ rows) each none =
      let x = each y (inl refl) in
      go (have_one_key r y) refl (keys_same r y e x.0 is x.1) x.0.1 (ap (kept_under (key_in e.1.request)) (sym (one_spelled y rows x.0 x.1)) ∙ none)
      (kept_none rows (λ w h. each w (inr h)))
    where
      go : (b : Bool) → have_one_key r y ≡ b → {c : Bool} → have_one_key r y ≡ c → (a : AcceptedRequest) → cond c (Some a) (kept_under (key_in e.1.request) (requests rows)) ≡ None
          → (kept_under (key_in e.1.request) (requests rows) ≡ None → NoneHas rows) → NoneHas (y ∷ rows)
      go true it also a found rest z has same = some_none a (ap (λ (d : Bool). cond d (Some a) (kept_under (key_in e.1.request) (requests rows))) (sym it ∙ also) ∙ found)
      go false apart also a found rest z (inl here) same = true≢false (sym same ∙ ap (have_one_key r) here ∙ apart)
      go false apart also a found rest z (inr later) same =
          rest (ap (λ (d : Bool). cond d (Some a) (kept_under (key_in e.1.request) (requests rows))) (sym apart ∙ also) ∙ found) z later same

-- ---- the table

module _ (t : Tables) (up : AreInOrder t) where
  abbrev s : Operator
  s = operator_of t

  abbrev below : Row → ℕ
  below = rows_below t History

  -- how many requests stand before it, archived ones included
  abbrev before_of : Row → ℕ
  before_of key = s.history.archived + below key

  abbrev under : Row → Option Row
  under = row_under t History

  abbrev test : ℕ → Row → Bool
  test = request_test s.now s.history.archived t.history

  -- what both passes ask of a key
  abbrev Asked : Row → Type 0
  Asked key = Demands t History test key × IsAnew t key

  abbrev LowAsked : Row → Type 0
  LowAsked key = (other : Row) → row_cmp other key ≡ Less → Asked other

  -- ---- a row among those before and behind it

  module _ (key r : Row) (is : under key ≡ Some r) (before behind : List Row) (parts : t.history ≡ before ++ r ∷ behind) (all : LowAsked key) where
    at : Has t.history r × (row_cmp (take 1 r) key ≡ Equal)
    at = under_has 1 key t.history r is

    rising : Rises (by_key_total 1) (before ++ r ∷ behind)
    rising = subst (Rises (by_key_total 1)) parts (up History)

    so_many : below key ≡ length before
    so_many =
        sym (below_tied 1 (take 1 r) key at.1 t.history)
        ∙ ap (λ (rows : List Row). rows_below (record t { history = rows }) History (take 1 r)) parts ∙ lesser_before 1 before r behind rising

    from_before : (xs : List Row) → Rises (by_key_total 1) (xs ++ r ∷ behind) → (x : Row) → Has xs x → by_key 1 x r ≡ Less
    from_before [] order x has = elim has [ ]
    from_before (z ∷ xs) order x (inl same) =
        ap (λ (y : Row). by_key 1 y r) same ∙ all_has (λ y. by_key 1 z y ≡ Less) (xs ++ r ∷ behind) r order.0 (has_between 1 xs r behind)
    from_before (z ∷ xs) order x (inr later) = from_before xs order.1 x later

    has_low : (xs : List Row) → Rises (by_key_total 1) (xs ++ r ∷ behind) → (x : Row) → Has (xs ++ r ∷ behind) x → by_key 1 x r ≡ Less → Has xs x
    has_low [] order x (inl here) low = absurd (less_equal (by_key 1 r r) (ap (λ (y : Row). by_key 1 y r) (sym here) ∙ low) (tied_itself (by_key_total 1) r))
    has_low [] order x (inr later) low =
        let above : by_key 1 r x ≡ Less = all_has (λ y. by_key 1 r y ≡ Less) behind x order.0 later in
        absurd (less_greater (by_key 1 x r) low ((by_key_total 1).antisymm x r ∙ ap ordering_reverse above))
    has_low (z ∷ xs) order x (inl here) low = inl here
    has_low (z ∷ xs) order x (inr later) low = inr (has_low xs order.1 x later low)

    in_table : (x : Row) → Has before x → Has t.history x
    in_table x has = subst (λ (rows : List Row). Has rows x) (sym parts) (has_front before (r ∷ behind) x has)

    each : EachSpells before
    each x has =
        let turned = row_cmp_total.congr (take 1 r) key (take 1 x) at.1 in
        let low : row_cmp (take 1 x) key ≡ Less =
        row_cmp_total.antisymm (take 1 x) key ∙ ap ordering_reverse (sym turned) ∙ sym (row_cmp_total.antisymm (take 1 x) (take 1 r))
        ∙ from_before before rising x has in
        passing_spells s.now (before_of (take 1 x)) (last_moment (take (below (take 1 x)) t.history)) (request_read x)
        (demanded t History test (take 1 x) x (has_under 1 t.history x (up History) (in_table x has)) (all (take 1 x) low).0)

    history_are : s.history.items ≡ requests before ++ requests (r ∷ behind)
    history_are =
        ap requests parts ∙ ap (map (λ (e : ℕ × AcceptedRequest). e.1)) (read_append request_read before (r ∷ behind))
        ∙ map-append (λ (e : ℕ × AcceptedRequest). e.1) (filter_map request_read before) (filter_map request_read (r ∷ behind))

    so_many_requests : length (requests before) ≡ below key
    so_many_requests = length-map (filter_map request_read before) (λ (e : ℕ × AcceptedRequest). e.1) ∙ read_all request_read before each ∙ sym so_many

    taken : take (below key) s.history.items ≡ requests before
    taken = ap (take (below key)) history_are ∙ take_at (requests before) (requests (r ∷ behind)) (below key) so_many_requests

    rows_before : take (below key) t.history ≡ before
    rows_before = (λ i. take (so_many i) (parts i)) ∙ take_at before (r ∷ behind) (length before) refl

    last : last_moment (take (below key) t.history) ≡ option_map (λ a. a.moment) (item_in (below key) s.history.items)
    last =
        ap last_moment rows_before ∙ last_is (requests (r ∷ behind)) before each
        ∙ sym (λ i. option_map (λ a. a.moment) (item_in (so_many i) (history_are i)))

    -- ---- what is asked, and what is good

    good_row : Asked key → IsSomeAnd (request_read r) (IsGoodRequest s (below key))
    good_row p =
        let moments = last_moment (take (below key) t.history) in
        let passes = demanded t History test key r is p.0 in
        let it = passing_spells s.now (before_of key) moments (request_read r) passes in
        let x = it.0 in
        let first = and_parts (x.0 == before_of key + 1) (nat_le x.1.moment s.now && is_later moments x.1.moment) (ap (request_passes s.now (before_of key) moments) (sym it.1) ∙ passes) in
        let second = and_parts (nat_le x.1.moment s.now) (is_later moments x.1.moment) first.1 in
        some_and (IsGoodRequest s (below key)) (request_read r) x it.1 (record {
          number_is = (Decides-eqb x.0 (before_of key + 1)).0 first.0;
          by_now = leb-true x.1.moment s.now second.0;
          in_order = later_than (item_in (below key) s.history.items) x.1.moment (ap (λ (o : Option ℕ). is_later o x.1.moment) (sym last) ∙ second.1);
          anew =
              ap (kept_under (key_in x.1.request)) taken
              ∙ none_kept r x it.1 before each (λ z has same. p.1 r z is (in_table z has) (from_before before rising z has) same);
        })

    row_good : IsSomeAnd (request_read r) (IsGoodRequest s (below key)) → Asked key
    row_good good =
        let it = some_with (IsGoodRequest s (below key)) (request_read r) good in
        let x = it.value in
        let moments = last_moment (take (below key) t.history) in (
          demands t History test key r is
              (ap (request_passes s.now (before_of key) moments) it.value_is
              ∙ and_from (x.0 == before_of key + 1) (nat_le x.1.moment s.now && is_later moments x.1.moment) ((Decides-eqb x.0 (before_of key + 1)).1 it.fact.number_is)
              (and_from (nat_le x.1.moment s.now) (is_later moments x.1.moment) (le-leb x.1.moment s.now it.fact.by_now)
              (ap (λ (o : Option ℕ). is_later o x.1.moment) last ∙ than_later (item_in (below key) s.history.items) x.1.moment it.fact.in_order))),
          λ q other found has low same.
              let own : q ≡ r = same_Some q r (sym found ∙ is) in
              kept_none r x it.value_is before each (ap (kept_under (key_in x.1.request)) (sym taken) ∙ it.fact.anew) other
              (has_low before rising other (subst (λ (rows : List Row). Has rows other) parts has) (ap (by_key 1 other) (sym own) ∙ low))
              (ap (λ (z : Row). have_one_key z other) (sym own) ∙ same),
        )

  -- ---- a key

  good_key : (key : Row) → LowAsked key → Asked key → IsGoodKey t History key
  good_key key all p = go (under key) refl where
    go : (o : Option Row) → under key ≡ o → IsGoodAt t s History key (below key) o
    go None is = tt
    go (Some r) is = let parts = split t.history r (under_has 1 key t.history r is).0 in good_row key r is parts.0 parts.1 parts.2 all p

  key_good : (key : Row) → LowAsked key → IsGoodKey t History key → Asked key
  key_good key all good = go (under key) refl good where
    go : (o : Option Row) → under key ≡ o → IsGoodAt t s History key (below key) o → Asked key
    go None is h = (lacking t History test key is, λ q other found has low same. some_none q (sym found ∙ is))
    go (Some r) is h = let parts = split t.history r (under_has 1 key t.history r is).0 in row_good key r is parts.0 parts.1 parts.2 all h

  pub history_verdict : (v : Option Row) → IsFirstFailing t History Asked v → IsTableVerdict t History v
  history_verdict None all = λ key. good_key key (λ other low. all other) (all key)
  history_verdict (Some k) it = record {
    bad = λ good. it.bad (key_good k it.before good);
    own = it.own;
    before = λ other low. good_key other (λ less under. it.before less (row_cmp_total.trans less other k under low)) (it.before other low);
  }

-- ---- both passes

module _ (db : Database) (ours : IsOurs db) (moment : ℕ) (now : moment ≡ (operator_of (tables_of db)).now)
    (archived : ℕ) (told : archived ≡ (operator_of (tables_of db)).history.archived) (by_order by_keys found : Option BadKey)
    (found_is : option_map key_row found ≡ least_key (option_map key_row by_order) (option_map key_row by_keys)) where
  abbrev t : Tables
  t = tables_of db

  pub history_judged : ((v : Option Row) → first_astray moment archived None (lines_of query.History t) ≡ v → option_map key_row by_order ≡ v)
      → ((v : Option Row) → least_again None None (lines_of query.HistoryKeys t) ≡ v → option_map key_row by_keys ≡ v)
      → IsTableVerdict t History (option_map key_row found)
  history_judged in_order of_keys =
      let up = stored_in_order db in
      let stored = (operator_of t).now in
      let behind = (operator_of t).history.archived in
      let rows : first_failing (request_test stored behind t.history) (take 1) 0 t.history ≡ option_map key_row by_order =
      sym (rows_pass stored behind t.history) ∙ (λ i. first_astray (sym now i) (sym told i) None t.history)
      ∙ sym (in_order (first_astray moment archived None t.history) refl) in
      let first = rows_verdict t History up (request_test stored behind t.history) (take 1) (λ row has. refl) (option_map key_row by_order) rows in
      let second = keys_verdict t up (history_wide db ours.has) (option_map key_row by_keys) (sym (of_keys (least_again None None (lines_of query.HistoryKeys t)) refl)) in
      history_verdict t up (option_map key_row found)
      (subst (IsFirstFailing t History (λ key. Demands t History (request_test stored behind t.history) key × IsAnew t key)) (sym found_is)
      (least_verdict t History (Demands t History (request_test stored behind t.history)) (IsAnew t) (option_map key_row by_order) (option_map key_row by_keys) first second))
