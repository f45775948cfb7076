-- A schema that has a statement's tables reads names as the schema of these tables alone does, but for their places.
use Rattle.std.proofs.Common.{◌≡◌, ℕ, zero, suc, ◌+◌, Bool, true, false, cond, List, [], ◌∷◌, map, slice_get, length, Some, is_some, option_map, refl, sym, ap, ◌∙◌, arith}
use Rattle.std.specs.List.{position_from}
use Rattle.std.specs.Char.{to_ascii_lowercase}
use Rattle.std.specs.Ordering.{nat_cmp, is_eq}
use Rattle.std.specs.Cmp.Lexicographic.{slice_cmp}
use Rattle.std.proofs.lemmas.Option.{slice_get_past}
use Rattle.sqlite_schema.specs.declared.schema.Schema.{Schema}
use Rattle.sqlite_schema.specs.declared.schema.Table.{Table}
use Rattle.sqlite_schema.specs.Names.{table_named, same_name}
use Rattle.sqlite_catalog.proofs.SoundLemmas.{lowered}
use Rattle.bike_sql.specs.Has.{HaveTables, of_tables, place}
use Rattle.bike_sql.proofs.Relocation.{Relocates}

tables_at : (s : Schema) (ats : List ℕ) (ts : List Table) → HaveTables s ats ts → (k : ℕ) → slice_get s.tables (place s ats k) ≡ slice_get ts k
tables_at s [] [] h k = slice_get_past s.tables (length s.tables) (omega arith)
tables_at s (at ∷ ats) (t ∷ ts) h zero = h.0.there
tables_at s (at ∷ ats) (t ∷ ts) h (suc k) = tables_at s ats ts h.1 k
tables_at s [] (t ∷ ts) h k = elim h [ ]
tables_at s (at ∷ ats) [] h k = elim h [ ]

-- names that differ in case alone find the same table
pub named_alike : (s : Schema) (a b : List ℕ) → same_name a b ≡ true → table_named s b ≡ table_named s a
unfolding same_name
named_alike s a b same = let e = (lowered a b).0 same in ap (λ l. position_from (λ (t : Table). is_eq (slice_cmp nat_cmp (map to_ascii_lowercase t.name) l)) 0 s.tables) (sym e)

abbrev is_called : List ℕ → Table → Bool
is_called name t = same_name t.name name

-- the tables from number `base` on, which `g` takes to their places
named_from : (s : Schema) (name : List ℕ) (ats : List ℕ) (ts : List Table) → HaveTables s ats ts → (base : ℕ) (g : ℕ → ℕ) → ((k : ℕ) → g (base + k) ≡ place s ats k)
    → is_some (position_from (is_called name) base ts) ≡ true → table_named s name ≡ option_map g (position_from (is_called name) base ts)
named_from s name [] [] h base g is k = absurd (cc)
named_from s name [] (t ∷ ts) h base g is k = elim h [ ]
named_from s name (at ∷ ats) [] h base g is k = elim h [ ]
named_from s name (at ∷ ats) (t ∷ ts) h base g is k =
    go (same_name t.name name) refl k (λ later. named_from s name ats ts h.1 (base + 1) g (λ j. ap g (omega arith) ∙ is (suc j)) later)
  where
    go : (b : Bool) → same_name t.name name ≡ b → is_some (cond b (Some base) (position_from (is_called name) (base + 1) ts)) ≡ true
        → (is_some (position_from (is_called name) (base + 1) ts) ≡ true → table_named s name ≡ option_map g (position_from (is_called name) (base + 1) ts))
        → table_named s name ≡ option_map g (cond b (Some base) (position_from (is_called name) (base + 1) ts))
    go true same k later = named_alike s t.name name same ∙ h.0.found ∙ ap Some (sym (ap g (omega arith) ∙ is zero))
    go false same k later = later k

pub relocates : (s : Schema) (ats : List ℕ) (ts : List Table) → HaveTables s ats ts → Relocates s (of_tables ts) (place s ats)
relocates s ats ts h = record {
  tables = tables_at s ats ts h;
  names = λ name k. named_from s name ats ts h 0 (place s ats) (λ j. ap (place s ats) (omega arith)) k;
}
