-- The texts that ask for the rowids of each table.
use Rattle.std.proofs.Common.{◌≡◌, ◌^◌, ℕ, List, [], ◌∷◌, true, false, Ok, Err, nat_lt, nat_le, codes, refl, subst, sym}
use Rattle.std.proofs.lemmas.Bool.{leb-false, lt-ltb}
use Rattle.sqlite_sql.specs.Query.{Query}
use Rattle.sqlite_schema.specs.declared.schema.Schema.{Schema}
use Rattle.sqlite_syntax.specs.declared.statement.Parsed.{Parsed}
use Rattle.sqlite_resolve.specs.Compile.{first}
use Rattle.sqlite_resolve.specs.Lowering.{Checked, and_then}
use Rattle.sqlite_resolve.specs.Program.{Shown}
use Rattle.sqlite_typing.specs.Types.{accepts_program}
use Rattle.sqlite_tied.specs.Compute.{everything}
use Rattle.bike_sql.specs.Has.{HasTable, of_tables}
use Rattle.bike_sql.specs.Reads.{draft_of, of_query, one_select, IsDraft}
use Rattle.bike_sql.proofs.ReadLaws.{select_is}
use Rattle.bike_sql.specs.Layout.{Layout, table_of}
use Rattle.bike_sql.proofs.TextLemmas.{IsSelect, Drafts, alone, select_means}
use Rattle.bike_book.specs.Tables.{Meta, System, Plans, Segments, Types, Regions, Stations, Docks, Bikes, Trucks, Riders, Rentals, Orders, Entries, History, MoreNames, Books}
use Rattle.bike_schema.specs.Layouts.{layout_of}
use Rattle.bike_recognition.specs.Rowids.{rowids_query}
use Rattle.bike_recognition.specs.Wanted.{AsksRowidsOf}

-- ---- by the name of the key, which is one number

pub by_key : (layout : Layout) (text : List ℕ) → IsSelect (rowids_query 0) layout text → AsksRowidsOf layout text
by_key layout text is s at tree has = select_means (rowids_query 0) layout text is s at tree has

pub meta_rowids : AsksRowidsOf (layout_of Meta) (codes "SELECT one FROM meta ORDER BY one")
unfolding everything
meta_rowids = by_key (layout_of Meta) (codes "SELECT one FROM meta ORDER BY one") (λ tree. refl, refl)

pub system_rowids : AsksRowidsOf (layout_of System) (codes "SELECT one FROM system ORDER BY one")
unfolding everything
system_rowids = by_key (layout_of System) (codes "SELECT one FROM system ORDER BY one") (λ tree. refl, refl)

pub bikes_rowids : AsksRowidsOf (layout_of Bikes) (codes "SELECT bike FROM bikes ORDER BY bike")
unfolding everything
bikes_rowids = by_key (layout_of Bikes) (codes "SELECT bike FROM bikes ORDER BY bike") (λ tree. refl, refl)

pub trucks_rowids : AsksRowidsOf (layout_of Trucks) (codes "SELECT truck FROM trucks ORDER BY truck")
unfolding everything
trucks_rowids = by_key (layout_of Trucks) (codes "SELECT truck FROM trucks ORDER BY truck") (λ tree. refl, refl)

pub riders_rowids : AsksRowidsOf (layout_of Riders) (codes "SELECT rider FROM riders_4 ORDER BY rider")
unfolding everything
riders_rowids = by_key (layout_of Riders) (codes "SELECT rider FROM riders_4 ORDER BY rider") (λ tree. refl, refl)

pub rentals_rowids : AsksRowidsOf (layout_of Rentals) (codes "SELECT rental FROM rentals ORDER BY rental")
unfolding everything
rentals_rowids = by_key (layout_of Rentals) (codes "SELECT rental FROM rentals ORDER BY rental") (λ tree. refl, refl)

pub orders_rowids : AsksRowidsOf (layout_of Orders) (codes "SELECT ord FROM orders ORDER BY ord")
unfolding everything
orders_rowids = by_key (layout_of Orders) (codes "SELECT ord FROM orders ORDER BY ord") (λ tree. refl, refl)

pub entries_rowids : AsksRowidsOf (layout_of Entries) (codes "SELECT entry FROM entries ORDER BY entry")
unfolding everything
entries_rowids = by_key (layout_of Entries) (codes "SELECT entry FROM entries ORDER BY entry") (λ tree. refl, refl)

pub history_rowids : AsksRowidsOf (layout_of History) (codes "SELECT number FROM history ORDER BY number")
unfolding everything
history_rowids = by_key (layout_of History) (codes "SELECT number FROM history ORDER BY number") (λ tree. refl, refl)

pub books_rowids : AsksRowidsOf (layout_of Books) (codes "SELECT one FROM books ORDER BY one")
unfolding everything
books_rowids = by_key (layout_of Books) (codes "SELECT one FROM books ORDER BY one") (λ tree. refl, refl)

-- ---- by the word `rowid`

-- Whether a tree has rowids is a test of its number, at which a text's meaning comes to a stop. So the text is parsed first, and its meaning is that of what was parsed.
named : (draft : Checked Shown) (q : Query) → Drafts draft q → (names : List (List ℕ)) × IsDraft draft q names
named (Ok shown) q is = (shown.1, (sym is, refl))
named (Err e) q is = absurd is

is_stored : (tree : ℕ) → nat_le (2 ^ 31) tree ≡ false → nat_lt tree (2 ^ 31) ≡ true
is_stored tree low = lt-ltb tree (2 ^ 31) (leb-false (2 ^ 31) tree low)

abbrev pub IsParsed : List ℕ → Type 0
IsParsed text = (p : Parsed) × (first text ≡ Ok p)

-- what was parsed asks for the rowids, where the table stands alone in a stored tree
abbrev pub AsksAlone : Layout → Parsed → Type 0
AsksAlone layout p =
    ((tree : ℕ) → nat_lt tree (2 ^ 31) ≡ true → Drafts (of_query (one_select (of_tables (table_of layout tree ∷ []))) p.formats p.statement) (rowids_query tree))
    × (accepts_program (alone layout) [] (rowids_query 0) [] ≡ true)

pub by_rowid : (layout : Layout) (text : List ℕ) (parsed : IsParsed text) → AsksAlone layout parsed.0 → AsksRowidsOf layout text
by_rowid layout text parsed asks s at tree has =
    let schema = of_tables (table_of layout tree ∷ []) in
    let drafts : Drafts (draft_of schema text) (rowids_query tree) = subst (λ r. Drafts (and_then r (λ p. of_query (one_select schema) p.formats p.statement)) (rowids_query tree)) (sym parsed.1) (asks.0 tree (is_stored tree has.stored)) in
    let it = named _ (rowids_query tree) drafts in
    (it.0, select_is s (at ∷ []) (table_of layout tree ∷ []) (has, tt) text (rowids_query tree) it.0 it.1 (anywhere s at tree has))
  where
    anywhere : (s : Schema) (at tree : ℕ) → HasTable s at (table_of layout tree) → accepts_program s [] (rowids_query tree) [] ≡ true
    anywhere s at tree h = rw (h.stored, h.by_tree) asks.1

plans_parsed : IsParsed (codes "SELECT rowid FROM plans ORDER BY rowid")
unfolding everything
plans_parsed = (_, refl)

plans_asked : AsksAlone (layout_of Plans) plans_parsed.0
unfolding everything plans_parsed
plans_asked = (λ tree low. rw (low, low) refl, refl)

pub plans_rowids : AsksRowidsOf (layout_of Plans) (codes "SELECT rowid FROM plans ORDER BY rowid")
plans_rowids = by_rowid (layout_of Plans) (codes "SELECT rowid FROM plans ORDER BY rowid") plans_parsed plans_asked

segments_parsed : IsParsed (codes "SELECT rowid FROM segments ORDER BY rowid")
unfolding everything
segments_parsed = (_, refl)

segments_asked : AsksAlone (layout_of Segments) segments_parsed.0
unfolding everything segments_parsed
segments_asked = (λ tree low. rw (low, low) refl, refl)

pub segments_rowids : AsksRowidsOf (layout_of Segments) (codes "SELECT rowid FROM segments ORDER BY rowid")
segments_rowids = by_rowid (layout_of Segments) (codes "SELECT rowid FROM segments ORDER BY rowid") segments_parsed segments_asked

types_parsed : IsParsed (codes "SELECT rowid FROM types ORDER BY rowid")
unfolding everything
types_parsed = (_, refl)

types_asked : AsksAlone (layout_of Types) types_parsed.0
unfolding everything types_parsed
types_asked = (λ tree low. rw (low, low) refl, refl)

pub types_rowids : AsksRowidsOf (layout_of Types) (codes "SELECT rowid FROM types ORDER BY rowid")
types_rowids = by_rowid (layout_of Types) (codes "SELECT rowid FROM types ORDER BY rowid") types_parsed types_asked

regions_parsed : IsParsed (codes "SELECT rowid FROM regions ORDER BY rowid")
unfolding everything
regions_parsed = (_, refl)

regions_asked : AsksAlone (layout_of Regions) regions_parsed.0
unfolding everything regions_parsed
regions_asked = (λ tree low. rw (low, low) refl, refl)

pub regions_rowids : AsksRowidsOf (layout_of Regions) (codes "SELECT rowid FROM regions ORDER BY rowid")
regions_rowids = by_rowid (layout_of Regions) (codes "SELECT rowid FROM regions ORDER BY rowid") regions_parsed regions_asked

stations_parsed : IsParsed (codes "SELECT rowid FROM stations_4 ORDER BY rowid")
unfolding everything
stations_parsed = (_, refl)

stations_asked : AsksAlone (layout_of Stations) stations_parsed.0
unfolding everything stations_parsed
stations_asked = (λ tree low. rw (low, low) refl, refl)

pub stations_rowids : AsksRowidsOf (layout_of Stations) (codes "SELECT rowid FROM stations_4 ORDER BY rowid")
stations_rowids = by_rowid (layout_of Stations) (codes "SELECT rowid FROM stations_4 ORDER BY rowid") stations_parsed stations_asked

docks_parsed : IsParsed (codes "SELECT rowid FROM docks ORDER BY rowid")
unfolding everything
docks_parsed = (_, refl)

docks_asked : AsksAlone (layout_of Docks) docks_parsed.0
unfolding everything docks_parsed
docks_asked = (λ tree low. rw (low, low) refl, refl)

pub docks_rowids : AsksRowidsOf (layout_of Docks) (codes "SELECT rowid FROM docks ORDER BY rowid")
docks_rowids = by_rowid (layout_of Docks) (codes "SELECT rowid FROM docks ORDER BY rowid") docks_parsed docks_asked

more_names_parsed : IsParsed (codes "SELECT rowid FROM more_names ORDER BY rowid")
unfolding everything
more_names_parsed = (_, refl)

more_names_asked : AsksAlone (layout_of MoreNames) more_names_parsed.0
unfolding everything more_names_parsed
more_names_asked = (λ tree low. rw (low, low) refl, refl)

pub more_names_rowids : AsksRowidsOf (layout_of MoreNames) (codes "SELECT rowid FROM more_names ORDER BY rowid")
more_names_rowids = by_rowid (layout_of MoreNames) (codes "SELECT rowid FROM more_names ORDER BY rowid") more_names_parsed more_names_asked
