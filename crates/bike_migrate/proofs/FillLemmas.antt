-- The tables once they are filled.
use Rattle.std.proofs.Common.{◌≡◌, ◌⊎◌, inl, inr, ℕ, suc, ◌+◌, ◌<◌, arith, List, [], ◌∷◌, ◌++◌, map, take, length, get_or, append_assoc, append-nil, Less, refl, sym, ap, ap₂, subst, ◌∙◌}
use Rattle.std.proofs.lemmas.List.{take_more, map-append, length-take-le}
use Rattle.sqlite_value.specs.declared.value.Value.TheVariants.{Text}
use Rattle.sqlite_value.specs.Order.{Row, column, row_cmp}
use Rattle.sqlite_rules.specs.Lists.{Has}
use Rattle.sqlite.specs.Effect.{Database}
use Rattle.bike_sql.specs.Layout.{Layout, table_of}
use Rattle.bike_sql.specs.Stands.{rows_of, Stands, Stays}
use Rattle.bike_sql.specs.View.{columns_of, by_key, put_row_by, rows_where}
use Rattle.bike_sql.proofs.FrameLemmas.{rows_of_is}
use Rattle.bike_sql.proofs.RowListLemmas.{map_has}
use Rattle.bike_sql.proofs.OrderLemmas.{Rises, rises, order_has, all_has, all_from}
use Rattle.bike_sql.proofs.TreeLemmas.{by_key_total}
use Rattle.bike_operator.specs.Operator.{Numbered}
use Rattle.bike_book.specs.Tables.{Tables, Meta, Stations, Riders, History, with_rows}
use Rattle.bike_book.specs.Stored.{numbers_from}
use Rattle.bike_book.proofs.NumberRows.{put_number}
use Rattle.bike_book.specs.Writes.{RowWrite, Add, tables_after, tables_after_all}
use Rattle.bike_schema.specs.Layouts.{name_of}
use Rattle.bike_schema.specs.Makes.{Makes}
use Rattle.bike_schema.proofs.MakesLemmas.{makes_none, makes_then, makes_ours, stay_then}
use Rattle.bike_schema.specs.Tables.{IsOurs}
use Rattle.bike_recognition.specs.declared.earlier_versions.earlier.Earlier.{Earlier}
use Rattle.bike_recognition.specs.declared.earlier_versions.earlier.Earlier.TheVariants.{First, Second, Third}
use Rattle.bike_recognition.specs.EarlierVersions.Counts.{counts_layout, HasCounts, old_counts, old_types, types_text, old_text}
use Rattle.bike_recognition.specs.EarlierVersions.Earlier.{stations_layout, with_text, completed, tables_at, IsAt}
use Rattle.bike_recognition.specs.EarlierVersions.Riders.{riders_layout, HasRiders, old_riders, completed_rider}
use Rattle.bike_recognition.specs.EarlierVersions.Kept.{kept_rows, past_row, history_rows, KeptLies}
use Rattle.bike_migrate.specs.Raised.{old_stations, AreOldRows, version_write, station_write, station_writes, rider_write, rider_writes, request_row, request_writes, first_writes, later_writes}
use Rattle.bike_migrate.specs.Raised.{fill_writes, tables_raised, HasNewIndexes, version_names, station_names, rider_names}
use Rattle.bike_migrate.specs.Raised.{request_names, later_names, filled_names, emptied, MakesTables, WritesOnly, WritesBeside, IsOursBeside, Fills}
use Rattle.bike_migrate.proofs.SpareLemmas.{spares_same, spares_then, spares_less, spares_all, among_first, among_rest, among_both}
use Rattle.bike_migrate.proofs.KeptTexts.{kept_shown}
use Rattle.bike_migrate.specs.Stations.{AreCopies}

-- ---- beside the writes, `counts` stays

pub counts_stay : (names : List (List ℕ)) (writes : List RowWrite) (a b : Database) → HasCounts a → WritesOnly names writes a b → Stays a b 2 counts_layout
counts_stay names writes a b has only = only.makes.others 2 counts_layout refl has

pub still_beside : (names : List (List ℕ)) (writes : List RowWrite) (a b : Database) → IsOursBeside a → WritesOnly names writes a b → IsOursBeside b
still_beside names writes a b has only = (makes_ours only.makes, (counts_stay names writes a b has.1 only).stands)

-- ---- one more

-- the station was added with the text of its rows in `counts`
pub copied_station : (row : Row) (station text : List ℕ) (rows : List Row) (a b c : Database) → column row 0 ≡ Text station → text ≡ types_text (old_types rows)
    → (b ≡ a) × (rows ≡ rows_where (0 ∷ []) (Text station ∷ []) (old_counts a)) → WritesOnly station_names (Add Stations (with_text text row) ∷ []) b c
    → WritesBeside station_names (λ counts. station_writes counts (row ∷ [])) a c
copied_station row station text rows a b c key told read only =
    let is : text ≡ old_text (old_counts a) row =
    told ∙ ap (λ rs. types_text (old_types rs)) (read.1 ∙ ap (λ v. rows_where (0 ∷ []) (v ∷ []) (old_counts a)) (sym key)) in
    subst (λ db. WritesOnly station_names (station_write (old_counts a) row ∷ []) db c) read.0 (subst (λ t. WritesOnly station_names (Add Stations (with_text t row) ∷ []) b c) is only)

-- one station more
writes_more : (counts rows : List Row) (i : ℕ) (row : Row) → i < length rows → row ≡ get_or rows i row
    → station_writes counts (take (i + 1) rows) ≡ station_writes counts (take i rows) ++ station_write counts row ∷ []
writes_more counts rows i row within is =
    ap (station_writes counts) (take_more rows i row within) ∙ map-append (station_write counts) (take i rows) (get_or rows i row ∷ [])
    ∙ ap (λ r. station_writes counts (take i rows) ++ station_write counts r ∷ []) (sym is)

pub more_only : (rows : List Row) (i : ℕ) (row : Row) → i < length rows → row ≡ get_or rows i row → (a b c : Database) → IsOursBeside a
    → WritesBeside station_names (λ counts. first_writes counts (take i rows)) a b
    → WritesBeside station_names (λ counts. station_writes counts (row ∷ [])) b c
    → WritesBeside station_names (λ counts. first_writes counts (take (i + 1) rows)) a c
more_only rows i row within is a b c has first second =
    let counts = old_counts a in
    let next = subst (λ cs. WritesOnly station_names (station_writes cs (row ∷ [])) b c) (counts_stay station_names (first_writes counts (take i rows)) a b has.1 first).rows second in
    record {
      makes = subst (λ ws. Makes (version_write ∷ ws) a c) (sym (writes_more counts rows i row within is))
          (makes_then (first_writes counts (take i rows)) (station_write counts row ∷ []) a b c first.makes next.makes);
      spares = spares_then station_names a b c first.spares next.spares;
      kept = λ was. next.kept (first.kept was);
    }

-- the version alone
pub version_first : (a b : Database) → WritesOnly version_names (version_write ∷ []) a b → WritesOnly station_names (version_write ∷ []) a b
version_first a b it =
    record { makes = it.makes; spares = spares_less station_names version_names a b (among_first (name_of Meta) (name_of Stations ∷ [])) it.spares; kept = it.kept }

-- one rider more
riders_more : (rows : List Row) (i : ℕ) (row : Row) → i < length rows → row ≡ get_or rows i row → rider_writes (take (i + 1) rows) ≡ rider_writes (take i rows) ++ rider_write row ∷ []
riders_more rows i row within is =
    ap rider_writes (take_more rows i row within) ∙ map-append rider_write (take i rows) (get_or rows i row ∷ []) ∙ ap (λ r. rider_writes (take i rows) ++ rider_write r ∷ []) (sym is)

pub more_riders : (rows : List Row) (i : ℕ) (row : Row) → i < length rows → row ≡ get_or rows i row → (a b c : Database) → WritesOnly rider_names (rider_writes (take i rows)) a b
    → WritesOnly rider_names (rider_write row ∷ []) b c → WritesOnly rider_names (rider_writes (take (i + 1) rows)) a c
more_riders rows i row within is a b c first second = record {
  makes = subst (λ ws. Makes ws a c) (sym (riders_more rows i row within is)) (makes_then (rider_writes (take i rows)) (rider_write row ∷ []) a b c first.makes second.makes);
  spares = spares_then rider_names a b c first.spares second.spares;
  kept = λ was. second.kept (first.kept was);
}

-- one request more
numbered_more : (n : ℕ) (xs : List Row) (x : Row) → numbers_from n (xs ++ x ∷ []) ≡ numbers_from n xs ++ (n + length xs, x) ∷ []
numbered_more n [] x = ap (λ k. (k, x) ∷ []) (let e : n ≡ n + 0 = omega arith in e)
numbered_more n (y ∷ xs) x =
    ap (λ l. (n, y) ∷ l) (numbered_more (suc n) xs x ∙ ap (λ k. numbers_from (suc n) xs ++ (k, x) ∷ []) (let e : suc n + length xs ≡ n + suc (length xs) = omega arith in e))

requests_more : (rows : List Row) (i : ℕ) (row : Row) (number : ℕ) → number ≡ i + 1 → i < length rows → row ≡ get_or rows i row
    → request_writes (take (i + 1) rows) ≡ request_writes (take i rows) ++ Add History (request_row (number, row)) ∷ []
requests_more rows i row number counted within is =
    let long : length (take i rows) ≡ i = length-take-le i rows (omega (arith, within)) in
    let same : 1 + length (take i rows) ≡ number = omega (arith, long, counted) in
    let add = λ (e : ℕ × Row). Add History (request_row e) in
    ap request_writes (take_more rows i row within)
    ∙ ap (map add) (numbered_more 1 (take i rows) (get_or rows i row)) ∙ map-append add (numbers_from 1 (take i rows)) ((1 + length (take i rows), get_or rows i row) ∷ [])
    ∙ ap₂ (λ k r. request_writes (take i rows) ++ Add History (request_row (k, r)) ∷ []) same (sym is)

pub more_requests : (rows : List Row) (i : ℕ) (row : Row) (number : ℕ) → number ≡ i + 1 → i < length rows → row ≡ get_or rows i row → (a b c : Database)
    → WritesOnly request_names (request_writes (take i rows)) a b → WritesOnly request_names (Add History (request_row (number, row)) ∷ []) b c
    → WritesOnly request_names (request_writes (take (i + 1) rows)) a c
more_requests rows i row number counted within is a b c first second = record {
  makes = subst (λ ws. Makes ws a c) (sym (requests_more rows i row number counted within is))
      (makes_then (request_writes (take i rows)) (Add History (request_row (number, row)) ∷ []) a b c first.makes second.makes);
  spares = spares_then request_names a b c first.spares second.spares;
  kept = λ was. second.kept (first.kept was);
}

pub no_writes : (names : List (List ℕ)) (a b : Database) → b ≡ a → IsOurs a → WritesOnly names [] a b
no_writes names a b same ours = subst (WritesOnly names [] a) (sym same) (record { makes = makes_none a ours.sound ours.has; spares = spares_same names a; kept = λ was. was })

-- the requests after the riders
pub later_filled : (riders kept : List Row) (a b c : Database) → WritesOnly rider_names (rider_writes riders) a b → WritesOnly request_names (request_writes kept) b c
    → WritesOnly later_names (later_writes riders kept) a c
later_filled riders kept a b c first second = record {
  makes = makes_then (rider_writes riders) (request_writes kept) a b c first.makes second.makes;
  spares = spares_then later_names a b c (spares_less later_names rider_names a b (among_rest (name_of History) rider_names) first.spares)
      (spares_less later_names request_names b c (among_first (name_of History) rider_names) second.spares);
  kept = λ was. second.kept (first.kept was);
}

-- .. and both after the first writes
pub both_filled : (stations riders kept : List Row) (a b c : Database) → WritesBeside station_names (λ counts. first_writes counts stations) a b
    → WritesOnly later_names (later_writes riders kept) b c
    → WritesBeside filled_names (λ counts. fill_writes counts stations riders kept) a c
both_filled stations riders kept a b c first second = record {
  makes = makes_then (first_writes (old_counts a) stations) (later_writes riders kept) a b c first.makes second.makes;
  spares = spares_then filled_names a b c (spares_less filled_names station_names a b (λ name other. (among_both later_names station_names name other).1) first.spares)
      (spares_less filled_names later_names b c (λ name other. (among_both later_names station_names name other).0) second.spares);
  kept = λ was. second.kept (first.kept was);
}

-- ---- rows put one after another, in the order of their keys

put_all : List Row → List Row → List Row
put_all [] xs = xs
put_all (r ∷ rows) xs = put_all rows (put_row_by 1 r xs)

adds_all : (rows : List Row) (t : Tables) → tables_after_all (map (Add Stations) rows) t ≡ with_rows Stations (put_all rows t.stations) t
unfolding put_all
adds_all [] t = refl
adds_all (r ∷ rows) t = adds_all rows (with_rows Stations (put_row_by 1 r t.stations) t)

adds_riders : (rows : List Row) (t : Tables) → tables_after_all (map (Add Riders) rows) t ≡ with_rows Riders (put_all rows t.riders) t
unfolding put_all
adds_riders [] t = refl
adds_riders (r ∷ rows) t = adds_riders rows (with_rows Riders (put_row_by 1 r t.riders) t)

adds_history : (rows : List Row) (t : Tables) → tables_after_all (map (Add History) rows) t ≡ with_rows History (put_all rows t.history) t
unfolding put_all
adds_history [] t = refl
adds_history (r ∷ rows) t = adds_history rows (with_rows History (put_row_by 1 r t.history) t)

after_both : (ws vs : List RowWrite) (t : Tables) → tables_after_all (ws ++ vs) t ≡ tables_after_all vs (tables_after_all ws t)
after_both [] vs t = refl
after_both (w ∷ ws) vs t = after_both ws vs (tables_after w t)

-- one that is above all others comes last
put_last : (new : Row) (xs : List Row) → ((x : Row) → Has xs x → by_key 1 x new ≡ Less) → put_row_by 1 new xs ≡ xs ++ new ∷ []
put_last new [] below = refl
put_last new (x ∷ xs) below = let here = below x (inl refl) in rw here (ap (λ l. x ∷ l) (put_last new xs (λ y h. below y (inr h))))

has_either : (xs : List Row) (r x : Row) → Has (xs ++ r ∷ []) x → Has xs x ⊎ (x ≡ r)
has_either [] r x (inl is) = inr is
has_either [] r x (inr none) = absurd none
has_either (y ∷ xs) r x (inl is) = inl (inl is)
has_either (y ∷ xs) r x (inr later) = elim (has_either xs r x later) [ inl there ↦ inl (inr there) | inr is ↦ inr is ]

put_rising : (rows xs : List Row) → ((x r : Row) → Has xs x → Has rows r → by_key 1 x r ≡ Less) → Rises (by_key_total 1) rows → put_all rows xs ≡ xs ++ rows
unfolding put_all
put_rising [] xs below up = sym (append-nil xs)
put_rising (r ∷ rows) xs below up =
    ap (put_all rows) (put_last r xs (λ x h. below x r h (inl refl)))
    ∙ put_rising rows (xs ++ r ∷ []) (λ x q h k. elim (has_either xs r x h) [
      | inl there ↦ below x q there (inr k)
      | inr is ↦ subst (λ y. by_key 1 y q ≡ Less) (sym is) (all_has (λ y. by_key 1 r y ≡ Less) rows q up.0 k)
    ]) up.1
    ∙ append_assoc xs (r ∷ []) rows

-- ---- rows as they are copied

rising_map : (f : Row → Row) (xs : List Row) → ((a b : Row) → Has xs a → Has xs b → by_key 1 (f a) (f b) ≡ by_key 1 a b) → Rises (by_key_total 1) xs → Rises (by_key_total 1) (map f xs)
rising_map f [] same up = tt
rising_map f (x ∷ xs) same up = (
  all_from (λ y. by_key 1 (f x) y ≡ Less) (map f xs) (λ y h. let it = map_has f xs y h in subst (λ z. by_key 1 (f x) z ≡ Less) (sym it.2)
      (same x it.0 (inl refl) (inr it.1) ∙ all_has (λ z. by_key 1 x z ≡ Less) xs it.0 up.0 it.1)),
  rising_map f xs (λ a b p q. same a b (inr p) (inr q)) up.1,
)

-- a row is copied under its key
abbrev IsUnderIts : (Row → Row) → Row → Type 0
IsUnderIts copy row = take 1 (copy row) ≡ take 1 row

-- .. as the tables show it
key_shown : (e : Earlier) (counts : List Row) (tree : ℕ) (r : Row) → IsUnderIts (completed counts) (columns_of (table_of (stations_layout e) tree) r)
key_shown First counts tree r = refl
key_shown Second counts tree r = refl
key_shown Third counts tree r = refl

shown : (keys : ℕ) (layout : Layout) (db : Database) (was : Stands db keys layout) (P : Row → Type 0) → ((r : Row) → P (columns_of (table_of layout was.tree) r)) → (row : Row)
    → Has (rows_of keys layout.name db) row → P row
shown keys layout db was P each row has =
    let f = columns_of (table_of layout was.tree) in
    let there = subst (λ rows. Has rows row) (rows_of_is db keys layout was) has in
    let it = map_has f (db.trees was.tree) row (order_has (by_key_total keys) (map f (db.trees was.tree)) row there) in
    subst P (sym it.2) (each it.0)

in_order_there : (keys : ℕ) (layout : Layout) (db : Database) → Stands db keys layout → Rises (by_key_total keys) (rows_of keys layout.name db)
in_order_there keys layout db was =
    subst (Rises (by_key_total keys)) (sym (rows_of_is db keys layout was)) (rises (by_key_total keys) (map (columns_of (table_of layout was.tree)) (db.trees was.tree)))

module _ (layout : Layout) (db : Database) (was : Stands db 1 layout) (copy : Row → Row) (each : (tree : ℕ) (r : Row) → IsUnderIts copy (columns_of (table_of layout tree) r)) where
  abbrev rows : List Row
  rows = rows_of 1 layout.name db

  keyed : (row : Row) → Has rows row → IsUnderIts copy row
  keyed = shown 1 layout db was (IsUnderIts copy) (each was.tree)

  copies_rise : Rises (by_key_total 1) (map copy rows)
  copies_rise = rising_map copy rows (λ a b p q. ap₂ row_cmp (keyed a p) (keyed b q)) (in_order_there 1 layout db was)

  put_copies : put_all (map copy rows) [] ≡ map copy rows
  put_copies = put_rising (map copy rows) [] (λ x r none h. absurd none) copies_rise

-- ---- the requests as they are copied

-- put behind those that are there, they get the numbers behind theirs
put_requests : (before more : List Row)
    → put_all (map request_row (numbers_from (length before + 1) more)) (map request_row (numbers_from 1 before)) ≡ map request_row (numbers_from 1 (before ++ more))
unfolding put_all
put_requests before [] = ap (λ rs. map request_row (numbers_from 1 rs)) (sym (append-nil before))
put_requests before (r ∷ more) =
    let n = length before + 1 in
    let l : Numbered Row = record { archived = 0; items = before } in
    ap (put_all (map request_row (numbers_from (suc n) more))) (put_number request_row request_row (λ e. refl) (λ e. refl) l n r (omega arith) (λ e apart. refl))
    ∙ ap (λ k. put_all (map request_row (numbers_from k more)) (map request_row (numbers_from 1 (before ++ r ∷ [])))) (longer before r)
    ∙ put_requests (before ++ r ∷ []) more
    ∙ ap (λ rs. map request_row (numbers_from 1 rs)) (append_assoc before (r ∷ []) more)
  where
    longer : (xs : List Row) (x : Row) → suc (length xs + 1) ≡ length (xs ++ x ∷ []) + 1
    longer [] x = refl
    longer (y ∷ xs) x = let rest = longer xs x in let e : suc (suc (length xs) + 1) ≡ suc (length (xs ++ x ∷ [])) + 1 = omega (arith, rest) in e

module _ (db : Database) (it : KeptLies db) where
  -- a row that `kept` shows is copied as it is
  request_same : (row : Row) → Has (kept_rows db) row → (n : ℕ) → request_row (n, row) ≡ past_row (n, row)
  request_same row has n = kept_shown db (λ r. request_row (n, r) ≡ past_row (n, r)) (λ r. refl) it row has

  requests_same : (n : ℕ) (rows : List Row) → ((row : Row) → Has rows row → Has (kept_rows db) row) → map request_row (numbers_from n rows) ≡ map past_row (numbers_from n rows)
  requests_same n [] there = refl
  requests_same n (r ∷ rows) there = ap₂ ◌∷◌ (request_same r (there r (inl refl)) n) (requests_same (suc n) rows (λ row has. there row (inr has)))

  put_history : put_all (map request_row (numbers_from 1 (kept_rows db))) [] ≡ history_rows (kept_rows db)
  put_history = put_requests [] (kept_rows db) ∙ requests_same 1 (kept_rows db) (λ row has. has)

-- ---- all tables

pub old_table : (e : Earlier) (db : Database) → IsAt e db → Stands db 1 (stations_layout e)
old_table e db at = (at.has Stations).stands refl

-- the stations of the tables raised are those that were copied
pub stations_raised : (e : Earlier) (db : Database) → IsAt e db → AreCopies (old_stations e db) (tables_raised e db).stations
stations_raised e db at =
    record { counts = old_counts db; are = refl; keyed = keyed (stations_layout e) db (old_table e db at) (completed (old_counts db)) (key_shown e (old_counts db)) }

writes_map : (counts rows : List Row) → station_writes counts rows ≡ map (Add Stations) (map (completed counts) rows)
writes_map counts [] = refl
writes_map counts (r ∷ rows) = ap (λ l. station_write counts r ∷ l) (writes_map counts rows)

riders_map : (rows : List Row) → rider_writes rows ≡ map (Add Riders) (map completed_rider rows)
riders_map [] = refl
riders_map (r ∷ rows) = ap (λ l. rider_write r ∷ l) (riders_map rows)

requests_map : (es : List (ℕ × Row)) → map (λ e. Add History (request_row e)) es ≡ map (Add History) (map request_row es)
requests_map [] = refl
requests_map (e ∷ es) = ap (λ l. Add History (request_row e) ∷ l) (requests_map es)

stations_added : (e : Earlier) (db : Database) → IsAt e db → (t : Tables) → t.stations ≡ []
    → tables_after_all (station_writes (old_counts db) (old_stations e db)) t ≡ with_rows Stations (map (completed (old_counts db)) (old_stations e db)) t
stations_added e db at t none =
    let copies = map (completed (old_counts db)) (old_stations e db) in
    ap (λ ws. tables_after_all ws t) (writes_map (old_counts db) (old_stations e db))
    ∙ adds_all copies t
    ∙ ap (λ rows. with_rows Stations rows t) (ap (put_all copies) none ∙ put_copies (stations_layout e) db (old_table e db at) (completed (old_counts db)) (key_shown e (old_counts db)))

riders_added : (db : Database) → HasRiders db → (t : Tables) → t.riders ≡ [] → tables_after_all (rider_writes (old_riders db)) t ≡ with_rows Riders (map completed_rider (old_riders db)) t
riders_added db was t none =
    let copies = map completed_rider (old_riders db) in
    ap (λ ws. tables_after_all ws t) (riders_map (old_riders db))
    ∙ adds_riders copies t
    ∙ ap (λ rows. with_rows Riders rows t) (ap (put_all copies) none ∙ put_copies riders_layout db was completed_rider (λ tree r. refl))

requests_added : (db : Database) → KeptLies db → (t : Tables) → t.history ≡ [] → tables_after_all (request_writes (kept_rows db)) t ≡ with_rows History (history_rows (kept_rows db)) t
requests_added db it t none =
    ap (λ ws. tables_after_all ws t) (requests_map (numbers_from 1 (kept_rows db)))
    ∙ adds_history (map request_row (numbers_from 1 (kept_rows db))) t
    ∙ ap (λ rows. with_rows History rows t) (ap (put_all (map request_row (numbers_from 1 (kept_rows db)))) none ∙ put_history db it)

pub riders_there : (e : Earlier) (db : Database) → IsAt e db → HasRiders db
riders_there e db at = (at.has Riders).stands refl

-- the riders and the requests added
later_added : (e : Earlier) (db : Database) → IsAt e db → (t : Tables) → t.riders ≡ [] → t.history ≡ []
    → tables_after_all (later_writes (old_riders db) (kept_rows db)) t ≡ with_rows History (history_rows (kept_rows db)) (with_rows Riders (map completed_rider (old_riders db)) t)
later_added e db at t no_riders no_history =
    after_both (rider_writes (old_riders db)) (request_writes (kept_rows db)) t
    ∙ ap (tables_after_all (request_writes (kept_rows db))) (riders_added db (riders_there e db at) t no_riders)
    ∙ requests_added db at.kept (with_rows Riders (map completed_rider (old_riders db)) t) no_history

-- the version set, and the stations, riders and requests added
filled_are : (e : Earlier) (db : Database) → IsAt e db
    → tables_after_all (fill_writes (old_counts db) (old_stations e db) (old_riders db) (kept_rows db)) (emptied (tables_at e db)) ≡ tables_raised e db
filled_are e db at =
    let t = emptied (tables_at e db) in
    let v = tables_after version_write t in
    after_both (first_writes (old_counts db) (old_stations e db)) (later_writes (old_riders db) (kept_rows db)) t
    ∙ ap (tables_after_all (later_writes (old_riders db) (kept_rows db))) (stations_added e db at v refl)
    ∙ later_added e db at (with_rows Stations (map (completed (old_counts db)) (old_stations e db)) v) refl refl

pub made_beside : (e : Earlier) (a b : Database) → IsAt e a → MakesTables e a b → IsOursBeside b
made_beside e a b at made = (record { sound = made.sound; has = made.has }, (made.others 2 counts_layout refl at.counts).stands)

pub fills : (e : Earlier) (a b c : Database) (stations riders kept : List Row) → IsAt e a → AreOldRows e stations riders kept a → MakesTables e a b
    → WritesBeside filled_names (λ counts. fill_writes counts stations riders kept) b c → Fills e a c
fills e a b c stations riders kept at are made only = record {
  raised = record {
    sound = only.makes.sound;
    has = only.makes.has;
    tables =
        only.makes.tables ∙ ap (tables_after_all (fill_writes (old_counts b) stations riders kept)) made.tables
        ∙ ap (λ cs. tables_after_all (fill_writes cs stations riders kept) (emptied (tables_at e a))) (made.others 2 counts_layout refl at.counts).rows
        ∙ ap₂ (λ ss rs. tables_after_all (fill_writes (old_counts a) ss rs kept) (emptied (tables_at e a))) are.0 are.1
        ∙ ap (λ ks. tables_after_all (fill_writes (old_counts a) (old_stations e a) (old_riders a) ks) (emptied (tables_at e a))) are.2
        ∙ filled_are e a at;
  };
  indexes = subst (HasNewIndexes e) (sym only.makes.schema) made.indexes;
  others = stay_then a b c made.others only.makes.others;
  spares = spares_then filled_names a b c (spares_all filled_names a b made.spares) only.spares;
  kept = only.kept (made.kept at.kept);
}
