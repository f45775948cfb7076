-- What a judge of meta finds is the verdict on meta.
use Rattle.std.proofs.Common.{◌≡◌, ℕ, List, [], ◌∷◌, Bool, true, false, cond, Option, Some, None, option_map, refl, sym, ap, ◌∙◌, subst}
use Rattle.std.specs.Prelude.{take}
use Rattle.std.specs.Ordering.{is_lt}
use Rattle.sqlite_value.specs.Order.{Row, row_cmp}
use Rattle.sqlite.specs.Effect.{Database}
use Rattle.bike_book.specs.Tables.{Meta}
use Rattle.bike_schema.specs.Tables.{tables_of}
use Rattle.bike_readings.specs.ReadOff.{archived_of}
use Rattle.bike_readings.proofs.RulesLaws.{stored_in_order}
use Rattle.bike_judges.specs.declared.key.BadKey.{BadKey}
use Rattle.bike_judges.specs.Judging.{key_row, Continues}
use Rattle.bike_judges.specs.Verdicts.{IsTableVerdict, JudgesTable}
use Rattle.bike_judges.specs.Least.{least_key}
use Rattle.bike_catalogue_rules.specs.OneRow.{is_meta, one_key, first_meta}
use Rattle.bike_catalogue_rules.proofs.Judged.{Finds}
use Rattle.bike_catalogue_rules.proofs.MetaRules.{meta_verdict}

-- where the judge was told how many entries were archived
pub meta_judged : (db : Database) (archived : ℕ) → archived ≡ (archived_of (tables_of db).books).1 → (found : Option BadKey) → Finds (first_meta (is_meta archived) false (tables_of db).meta) found
    → JudgesTable Meta db found
meta_judged db archived archived_is found finds earlier =
    let t = tables_of db in
    subst (IsTableVerdict t Meta) (sym (finds (first_meta (is_meta archived) false t.meta) refl))
    (subst (λ (n : ℕ). IsTableVerdict t Meta (first_meta (is_meta n) false t.meta)) (sym archived_is) (meta_verdict t (stored_in_order db)))

-- ---- one more row

module _ (test : Row → Bool) (seen : Bool) where
  module _ (x : Row) (left : List Row) (verdict : Option Row) (is : first_meta test seen (x ∷ left) ≡ verdict) where
    pub row_behind : seen ≡ true → verdict ≡ Some (take 1 x)
    unfolding first_meta
    row_behind e = sym is ∙ ap (λ (b : Bool). first_meta test b (x ∷ left)) e

    pub good_first : seen ≡ false → test x ≡ true → first_meta test true left ≡ verdict
    unfolding first_meta
    good_first e good =
        ap (λ (b : Bool). cond b (first_meta test true left) (least_key (Some (take 1 x)) (Some one_key))) (sym good) ∙ ap (λ (b : Bool). first_meta test b (x ∷ left)) (sym e) ∙ is

    pub bad_first : seen ≡ false → test x ≡ false → verdict ≡ least_key (Some (take 1 x)) (Some one_key)
    unfolding first_meta
    bad_first e bad =
        sym is ∙ ap (λ (b : Bool). first_meta test b (x ∷ left)) e ∙ ap (λ (b : Bool). cond b (first_meta test true left) (least_key (Some (take 1 x)) (Some one_key))) bad

  pub end_behind : seen ≡ true → first_meta test seen [] ≡ None
  unfolding first_meta
  end_behind e = ap (λ (b : Bool). first_meta test b []) e

  pub end_missing : seen ≡ false → first_meta test seen [] ≡ Some one_key
  unfolding first_meta
  end_missing e = ap (λ (b : Bool). first_meta test b []) e

-- of two keys one is found
pub found_least : {J : Type 0} (says : J → List Row → Option Row → Type 0) (judge : J) (left : List Row) (verdict : Option Row) (found : Option BadKey) (a b : Row)
    → option_map key_row found ≡ least_key (Some a) (Some b) → verdict ≡ least_key (Some a) (Some b) → Continues says judge left verdict found
found_least says judge left verdict (Some key) a b e is = is ∙ sym e
found_least says judge left verdict None a b e is = go (is_lt (row_cmp b a)) e where
  go : (c : Bool) → ◌≡◌ {A = Option Row} None (cond c (Some b) (Some a)) → Continues says judge left verdict None
  go true e = absurd cc
  go false e = absurd cc
