-- What a look at the schema tells of a wanted table, and what the table's standing there tells of the look.
use Rattle.std.proofs.Common.{◌≡◌, ◌<◌, ◌^◌, ◌==◌, ℕ, Bool, true, false, cond, List, [], ◌∷◌, slice_get, find, Some, unwrap_or, refl, sym, ap, subst, ◌∙◌}
use Rattle.std.proofs.lemmas.Bool.{lt-leb, leb-false}
use Rattle.std.proofs.lemmas.Bool.Decides.{Decides-eqb}
use Rattle.sqlite_schema.specs.declared.schema.Schema.{Schema}
use Rattle.sqlite_schema.specs.declared.schema.Table.{Table}
use Rattle.sqlite_schema.specs.Names.{table_named}
use Rattle.bike_sql.specs.Found.{with_tree, StandsAt}

pub some_is : {X : Type 0} {a b : X} → Some a ≡ Some b → a ≡ b
some_is {X} {a} {b} e = ap (λ o. unwrap_or o a) e

-- what is found passes the test
found_passes : {X : Type 0} (p : X → Bool) (xs : List X) (x : X) → find p xs ≡ Some x → p x ≡ true
found_passes p [] x is = absurd (cc)
found_passes {X} p (y ∷ ys) x is = go (p y) refl is (found_passes p ys x)
  where
    go : (b : Bool) → p y ≡ b → cond b (Some y) (find p ys) ≡ Some x → (find p ys ≡ Some x → p x ≡ true) → p x ≡ true
    go true hit e later = ap p (sym (some_is e)) ∙ hit
    go false hit e later = later e

-- the look: the first table of the name, and the first with its tree
pub record Looks (s : Schema) (wanted : Table) (at : ℕ) (table first : Table) : Type 0 where
  pub named : table_named s wanted.name ≡ Some at
  pub there : slice_get s.tables at ≡ Some table
  pub by_tree : find (λ t. t.tree == table.tree) s.tables ≡ Some first

-- the wanted table was seen, and its tree finds it
pub record Sees (wanted table first : Table) : Type 0 where
  pub stored : table.tree < 2 ^ 31
  pub is : table ≡ with_tree wanted table.tree
  pub is_first : first ≡ with_tree wanted first.tree

module _ (s : Schema) (wanted : Table) (at : ℕ) (table first : Table) (looks : Looks s wanted at table first) where
  pub stands_of : Sees wanted table first → StandsAt s wanted at
  stands_of sees = (
    table.tree,
    record {
      found = looks.named;
      there = looks.there ∙ ap Some sees.is;
      by_tree = looks.by_tree ∙ ap Some (sees.is_first ∙ ap (with_tree wanted) same_tree);
      stored = lt-leb (2 ^ 31) table.tree sees.stored;
    },
  )
    where
      same_tree : first.tree ≡ table.tree
      same_tree = (Decides-eqb first.tree table.tree).0 (found_passes (λ (t : Table). t.tree == table.tree) s.tables first looks.by_tree)

  pub sees_of : (place : ℕ) → StandsAt s wanted place → (at ≡ place) × Sees wanted table first
  sees_of place stands =
      let tree = stands.0 in
      let h = stands.1 in
      let same : at ≡ place = some_is (sym looks.named ∙ h.found) in
      let seen : table ≡ with_tree wanted tree = some_is (sym looks.there ∙ ap (slice_get s.tables) same ∙ h.there) in
      let number : table.tree ≡ tree = ap (λ (t : Table). t.tree) seen in
      let first_is : first ≡ with_tree wanted tree = some_is (sym looks.by_tree ∙ ap (λ n. find (λ (t : Table). t.tree == n) s.tables) number ∙ h.by_tree) in
      let first_number : first.tree ≡ tree = ap (λ (t : Table). t.tree) first_is in (
        same,
        record {
          stored = subst (λ n. n < 2 ^ 31) (sym number) (leb-false (2 ^ 31) tree h.stored);
          is = seen ∙ ap (with_tree wanted) (sym number);
          is_first = first_is ∙ ap (with_tree wanted) (sym first_number);
        },
      )
