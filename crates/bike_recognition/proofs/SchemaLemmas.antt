-- Where a wanted table stands, and in which tree.
use Rattle.std.proofs.Common.{◌≡◌, ℕ, Bool, true, false, not, slice_get, Option, Some, None, IsTrue, sym, ap, subst, ◌∙◌}
use Rattle.std.specs.Prelude.{◌↔◌}
use Rattle.std.proofs.lemmas.Bool.{true≢false}
use Rattle.sqlite_schema.specs.declared.schema.Schema.{Schema}
use Rattle.sqlite_schema.specs.declared.schema.Table.{Table}
use Rattle.bike_sql.specs.Found.{IsPlainTable, StandsAt, with_tree}
use Rattle.bike_sql.specs.Has.{HasTable}
use Rattle.bike_sql.specs.Stands.{is_referred_to}
use Rattle.bike_sql.proofs.RowListLemmas.{same_some}
use Rattle.bike_recognition.specs.Wanted.{HasWanted}

some_none : {X : Type 0} {x : X} {o : Option X} → o ≡ Some x → o ≡ None → ⊥
some_none some none = cc

module _ (s : Schema) (wanted : Table) (place : Option ℕ) (is_place : (at : ℕ) → (place ≡ Some at) ↔ (StandsAt s wanted at × IsPlainTable wanted)) where
  at_place : (it : HasWanted s wanted) → place ≡ Some it.there.at
  at_place it = (is_place it.there.at).1 ((it.tree, it.there.has), it.plain)

  pub nowhere : place ≡ None → HasWanted s wanted → ⊥
  nowhere none it = some_none (at_place it) none

  module _ (at : ℕ) (here : place ≡ Some at) where
    stands : StandsAt s wanted at × IsPlainTable wanted
    stands = (is_place at).0 here

    pub not_empty : slice_get s.tables at ≡ None → HasWanted s wanted → ⊥
    not_empty none it = some_none stands.0.1.there none

    module _ (table : Table) (got : slice_get s.tables at ≡ Some table) where
      in_tree : (tree : ℕ) → HasTable s at (with_tree wanted tree) → tree ≡ table.tree
      in_tree tree has = ap (λ (t : Table). t.tree) (same_some (sym has.there ∙ got))

      pub is_wanted : (referred : Bool) → referred ≡ is_referred_to s table.tree → IsTrue (not referred) ↔ HasWanted s wanted
      is_wanted referred is = (to referred is, from referred is)
        where
          to : (b : Bool) → b ≡ is_referred_to s table.tree → IsTrue (not b) → HasWanted s wanted
          to true is never = absurd (true≢false (sym never))
          to false is free = record {
            plain = stands.1;
            tree = table.tree;
            there = record { at = at; has = subst (λ tree. HasTable s at (with_tree wanted tree)) (in_tree stands.0.0 stands.0.1) stands.0.1; unreferred = sym is };
          }

          from : (b : Bool) → b ≡ is_referred_to s table.tree → HasWanted s wanted → IsTrue (not b)
          from false is it = Rattle.std.proofs.Common.refl
          from true is it =
              let same : it.there.at ≡ at = same_some (sym (at_place it) ∙ here) in
              let tree = in_tree it.tree (subst (λ n. HasTable s n (with_tree wanted it.tree)) same it.there.has) in
              absurd (true≢false (is ∙ ap (is_referred_to s) (sym tree) ∙ it.there.unreferred))
