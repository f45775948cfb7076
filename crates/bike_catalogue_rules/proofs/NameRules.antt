-- The first line that isn't a name which may follow those before it is the first that fails a test of its own.
use Rattle.std.proofs.Common.{◌≡◌, ℕ, suc, List, [], ◌∷◌, ◌++◌, append_assoc, length, filter, Bool, true, false, cond, Option, Some, None, refl, sym, ap, ◌∙◌, subst}
use Rattle.std.specs.Prelude.{take}
use Rattle.std.specs.declared.cmp.Ordering.TheVariants.{Less}
use Rattle.sqlite_value.specs.Order.{Row}
use Rattle.sqlite_rules.specs.Lists.{Has}
use Rattle.bike_sql.specs.View.{by_key}
use Rattle.bike_sql.proofs.OrderLemmas.{Rises}
use Rattle.bike_sql.proofs.TreeLemmas.{by_key_total}
use Rattle.bike_operator.specs.Operator.{Operator, NameKey}
use Rattle.bike_book.specs.Tables.{Tables, MoreNames}
use Rattle.bike_book.proofs.Keys.{triples, triple_key, name_triple, IsTriple}
use Rattle.bike_readings.specs.Readings.{name_read}
use Rattle.bike_readings.specs.ReadOff.{name_in, operator_of}
use Rattle.bike_readings.specs.Demands.{names_before}
use Rattle.bike_readings.specs.Rules.{AreInOrder}
use Rattle.bike_readings.proofs.CatalogueRows.{name_reading}
use Rattle.bike_readings.proofs.ReadRows.{mapped}
use Rattle.bike_judges.specs.Passes.{first_failing}
use Rattle.bike_catalogue_rules.specs.Names.{FurtherName, names_since, may_follow, next_run, misnamed_or, first_misnamed}
use Rattle.bike_catalogue_rules.specs.declared.names.SystemKey.{SystemKey}
use Rattle.bike_judges.proofs.Lookups.{SpellsKeys, entries_read}
use Rattle.bike_catalogue_rules.proofs.NameRuns.{precedes, shared, below_last, preceding, IsRun, no_run, next_is_run, name_entry, low_names, spelled_before}

-- a row that spells a name begins with the key of that
pub name_spells : SpellsKeys triples name_in
name_spells r e is =
    let it = mapped name_entry (name_read r) e is in (
      ap (take 3) (name_reading.sound r it.value it.value_is).0 ∙ ap (λ (x : NameKey × List ℕ). triple_key x.0) it.part_is,
      subst IsTriple (ap (λ (x : NameKey × List ℕ). x.0) it.part_is) (name_triple it.value.0 it.value.1 it.value.2.language),
    )

-- the name may follow as many as the operator has before it
abbrev pub is_placed : Option SystemKey → Operator → Option FurtherName → Bool
is_placed own s None = false
is_placed own s (Some e) = may_follow own (length (names_before s e.0 e.1 e.2.language)) e

module _ (t : Tables) (up : AreInOrder t) (own : Option SystemKey) where
  abbrev s : Operator
  s = operator_of t

  abbrev test : ℕ → Row → Bool
  test n r = is_placed own s (name_read r)

  -- how many the operator has before a name
  counted : (before : List Row) (r : Row) (rest : List Row) (e : FurtherName) → t.more_names ≡ before ++ r ∷ rest → name_read r ≡ Some e
      → length (names_before s e.0 e.1 e.2.language) ≡ length (shared e before)
  counted before r rest e is read =
      ap (λ (es : List (NameKey × List ℕ)). length (low_names e es)) (entries_read triples name_in name_spells t.more_names (up MoreNames)) ∙ spelled_before e t.more_names
      ∙ ap (λ (rows : List Row). length (filter (λ z. precedes e (name_read z)) rows)) is ∙ ap length (preceding before r rest e (subst (Rises (by_key_total 3)) is (up MoreNames)) read)

  each : (before rest : List Row) → t.more_names ≡ before ++ rest → (last : Option FurtherName) (run n : ℕ) → IsRun before last run
      → first_misnamed own last run rest ≡ first_failing test (take 3) n rest
  unfolding first_misnamed first_failing
  each before [] is last run n so_far = refl
  each before (r ∷ rest) is last run n so_far = go (name_read r) refl (λ last m so_far. each (before ++ r ∷ []) rest (is ∙ sym (append_assoc before (r ∷ []) rest)) last m (suc n) so_far) where
    below : (z : Row) → Has before z → by_key 3 z r ≡ Less
    below = below_last before r rest (subst (Rises (by_key_total 3)) is (up MoreNames))

    go : (o : Option FurtherName) → name_read r ≡ o
        → ((last : Option FurtherName) (m : ℕ) → IsRun (before ++ r ∷ []) last m → first_misnamed own last m rest ≡ first_failing test (take 3) (suc n) rest)
        → misnamed_or r (next_run own last run o) (λ m. first_misnamed own o m rest) ≡ cond (is_placed own s o) (first_failing test (take 3) (suc n) rest) (Some (take 3 r))
    go None read later = refl
    go (Some e) read later =
        ap (λ (k : ℕ). misnamed_or r (cond (may_follow own k e) (Some (suc (names_since last run e))) None) (λ m. first_misnamed own (Some e) m rest)) at
        ∙ by (may_follow own (length (names_before s e.0 e.1 e.2.language)) e)
      where
        at : names_since last run e ≡ length (names_before s e.0 e.1 e.2.language)
        at = so_far r e read below ∙ sym (counted before r rest e is read)

        by : (b : Bool) → misnamed_or r (cond b (Some (suc (names_since last run e))) None) (λ m. first_misnamed own (Some e) m rest)
            ≡ cond b (first_failing test (take 3) (suc n) rest) (Some (take 3 r))
        by true = later (Some e) (suc (names_since last run e)) (next_is_run before last run r e so_far read below)
        by false = refl

  -- THE LINES OF NAMES, each by itself
  pub misnamed_failing : first_misnamed own None 0 t.more_names ≡ first_failing test (take 3) 0 t.more_names
  misnamed_failing = each [] t.more_names refl None 0 0 no_run
