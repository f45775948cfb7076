-- The old tables stand beside the newest, and go.
use Rattle.std.proofs.Common.{◌≡◌, ◌||◌, inl, inr, ℕ, Bool, false, List, [], ◌∷◌, map, refl, sym, ap, ◌∙◌}
use Rattle.std.specs.List.{list_any}
use Rattle.std.proofs.lemmas.Bool.{or_parts, or_from}
use Rattle.std.proofs.lemmas.List.Folds.{list_any-append}
use Rattle.sqlite_rules.specs.Lists.{Has}
use Rattle.sqlite.specs.Effect.{Database, IsDatabase}
use Rattle.bike_sql.specs.Makes.{IsFree}
use Rattle.bike_sql.specs.Layout.{Layout}
use Rattle.bike_sql.specs.Stands.{is_same_text, Stands, Stays}
use Rattle.bike_book.specs.Tables.{TableName}
use Rattle.bike_schema.specs.Layouts.{name_of, every_table}
use Rattle.bike_schema.specs.Makes.{is_our_name}
use Rattle.bike_schema.specs.Tables.{other_names}
use Rattle.bike_recognition.specs.declared.earlier_versions.earlier.Earlier.{Earlier}
use Rattle.bike_recognition.specs.declared.earlier_versions.earlier.Earlier.TheVariants.{First, Second, Third}
use Rattle.bike_recognition.specs.EarlierVersions.Earlier.{stations_name, stations_layout}
use Rattle.bike_recognition.specs.EarlierVersions.Counts.{counts_name, counts_layout, HasCounts}
use Rattle.bike_recognition.specs.EarlierVersions.Riders.{riders_name, riders_layout, HasRiders}
use Rattle.bike_recognition.specs.EarlierVersions.Kept.{kept_name}
use Rattle.bike_migrate.specs.Raised.{IsEarlier, old_names, HasOld, HasOldTables, Fills, DropsTable, AreGone, DropsOld, is_product_name}
use Rattle.bike_migrate.specs.Spared.{is_among, Spares}
use Rattle.bike_migrate.proofs.FillLemmas.{old_table, riders_there}
use Rattle.bike_migrate.proofs.SpareLemmas.{spares_then, spares_less, among_first, among_rest}

-- ---- names

-- the old tables have other names than the newest
pub apart_here : (e : Earlier) → list_any (λ t. is_among (old_names e) (name_of t)) every_table ≡ false
apart_here First = refl
apart_here Second = refl
apart_here Third = refl

not_newest : (e : Earlier) → is_our_name (stations_name e) ≡ false
not_newest First = refl
not_newest Second = refl
not_newest Third = refl

-- .. and than the others
not_kept : (e : Earlier) → is_same_text (stations_name e) kept_name ≡ false
not_kept First = refl
not_kept Second = refl
not_kept Third = refl

not_counts : (e : Earlier) → is_same_text (stations_name e) counts_name ≡ false
not_counts First = refl
not_counts Second = refl
not_counts Third = refl

not_riders : (e : Earlier) → is_same_text (stations_name e) riders_name ≡ false
not_riders First = refl
not_riders Second = refl
not_riders Third = refl

-- one of a list of which none passes a test
none_passes : (p : List ℕ → Bool) (xs : List (List ℕ)) (x : List ℕ) → list_any p xs ≡ false → Has xs x → p x ≡ false
none_passes p [] x none has = absurd has
none_passes p (y ∷ ys) x none (inl is) = ap p is ∙ (or_parts (p y) (list_any p ys) none).0
none_passes p (y ∷ ys) x none (inr later) = none_passes p ys x (or_parts (p y) (list_any p ys) none).1 later

stations_listed : (e : Earlier) → Has other_names (stations_name e)
stations_listed First = inl refl
stations_listed Second = inr (inl refl)
stations_listed Third = inr (inr (inl refl))

-- a name that is none of the product's
none_mapped : (p : List ℕ → Bool) (ts : List TableName) → list_any p (map name_of ts) ≡ list_any (λ t. p (name_of t)) ts
none_mapped p [] = refl
none_mapped p (t ∷ ts) = ap (λ b. p (name_of t) || b) (none_mapped p ts)

module _ (name : List ℕ) (other : is_product_name name ≡ false) where
  parts : (list_any (is_same_text name) (map name_of every_table) ≡ false) × (list_any (is_same_text name) other_names ≡ false)
  parts =
      or_parts (list_any (is_same_text name) (map name_of every_table)) (list_any (is_same_text name) other_names)
      (sym (list_any-append (is_same_text name) (map name_of every_table) other_names) ∙ other)

  pub not_ours : is_our_name name ≡ false
  not_ours = sym (none_mapped (is_same_text name) every_table) ∙ parts.0

  abbrev same : List ℕ → Bool
  same = is_same_text name

  not_listed : (x : List ℕ) → Has other_names x → same x ≡ false
  not_listed x listed = none_passes same other_names x parts.1 listed

  pub not_old : (e : Earlier) → is_among (old_names e) name ≡ false
  not_old e = or_from (same kept_name) (same counts_name || (same riders_name || (same (stations_name e) || false))) (not_listed kept_name (inr (inr (inr (inl refl)))))
      (or_from (same counts_name) (same riders_name || (same (stations_name e) || false)) (not_listed counts_name (inr (inr (inr (inr (inl refl))))))
      (or_from (same riders_name) (same (stations_name e) || false) (not_listed riders_name (inr (inr (inr (inr (inr (inl refl)))))))
      (or_from (same (stations_name e)) false (not_listed (stations_name e) (stations_listed e)) refl)))

-- ---- the old tables

-- they are there as the newest are filled
pub old_stay : (e : Earlier) (a b : Database) → IsEarlier e a → Fills e a b → HasOldTables e b
old_stay e a b was filled = (
  (filled.others 1 (stations_layout e) (not_newest e) (old_table e a was.is_at)).stands,
  (filled.others 1 riders_layout refl (riders_there e a was.is_at)).stands,
  (filled.others 2 counts_layout refl was.is_at.counts).stands,
  filled.kept,
)

-- as `kept` goes, then `counts`, and then `riders`
pub old_left : (e : Earlier) (a b : Database) → HasOldTables e a → DropsTable kept_name a b → HasOld e b × HasRiders b × HasCounts b
old_left e a b was dropped = (
  (dropped.others 1 (stations_layout e) (not_kept e) was.0).stands,
  (dropped.others 1 riders_layout refl was.1).stands,
  (dropped.others 2 counts_layout refl was.2).stands,
)

pub riders_left : (e : Earlier) (a b : Database) → HasOld e a × HasRiders a × HasCounts a → DropsTable counts_name a b → HasOld e b × HasRiders b
riders_left e a b was dropped = ((dropped.others 1 (stations_layout e) (not_counts e) was.0).stands, (dropped.others 1 riders_layout refl was.1).stands)

pub stations_left : (e : Earlier) (a b : Database) → HasOld e a × HasRiders a → DropsTable riders_name a b → HasOld e b
stations_left e a b was dropped = (dropped.others 1 (stations_layout e) (not_riders e) was.0).stands

-- Tables of these names are gone.
record AreDropped (names : List (List ℕ)) (old new : Database) : Type 0 where
  sound : IsDatabase new
  gone : AreGone names new.schema
  others : (keys : ℕ) (layout : Layout) → is_among names layout.name ≡ false → Stands old keys layout → Stays old new keys layout
  spares : Spares names old new

last_dropped : (name : List ℕ) (a b : Database) → DropsTable name a b → AreDropped (name ∷ []) a b
last_dropped name a b it = record {
  sound = it.sound;
  gone = (it.gone, tt);
  others = λ keys layout other was. it.others keys layout (or_parts (is_same_text layout.name name) false other).0 was;
  spares = it.spares;
}

-- one before the others, which free no name that was free
dropped_before : (name : List ℕ) (names : List (List ℕ)) (a b c : Database) → DropsTable name a b → AreDropped names b c → IsFree c.schema name → AreDropped (name ∷ names) a c
dropped_before name names a b c first rest free = record {
  sound = rest.sound;
  gone = (free, rest.gone);
  others = λ keys layout other was.
      let parts = or_parts (is_same_text layout.name name) (is_among names layout.name) other in
      let one = first.others keys layout parts.0 was in
      let next = rest.others keys layout parts.1 one.stands in
      record { stands = next.stands; rows = next.rows ∙ one.rows };
  spares = spares_then (name ∷ names) a b c (spares_less (name ∷ names) (name ∷ []) a b (among_first name names) first.spares)
      (spares_less (name ∷ names) names b c (among_rest name names) rest.spares);
}

pub drops_all : (e : Earlier) (a b c d f : Database) → DropsTable kept_name a b → DropsTable counts_name b c → DropsTable riders_name c d → DropsTable (stations_name e) d f → DropsOld e a f
drops_all e a b c d f kept counts riders stations =
    let two = dropped_before riders_name (stations_name e ∷ []) c d f riders (last_dropped (stations_name e) d f stations) (stations.frees riders_name riders.gone) in
    let three = dropped_before counts_name (riders_name ∷ stations_name e ∷ []) b c f counts two (stations.frees counts_name (riders.frees counts_name counts.gone)) in
    let all = dropped_before kept_name (counts_name ∷ riders_name ∷ stations_name e ∷ []) a b f kept three
    (stations.frees kept_name (riders.frees kept_name (counts.frees kept_name kept.gone))) in
    record { sound = all.sound; gone = all.gone; others = all.others; spares = all.spares }
