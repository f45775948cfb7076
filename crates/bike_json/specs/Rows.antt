-- A list of rows as the items of an array.
use Rattle.std.specs.Prelude.{◌≡◌, ℕ, List, [], ◌∷◌, ◌++◌}
use Rattle.bike_json.specs.Tree.{Tree, Items, no_items, item}
use Rattle.bike_json.specs.Outputs.{OutputState}
use Rattle.bike_json.specs.State.{Place, Wrote}

-- an item for each row
abbrev pub items : {X : Type 0} → (X → Tree) → List X → Items
items tree [] = no_items
items tree (row ∷ rows) = item (tree row) (items tree rows)

-- some front of the bytes was written, or at a failed write a front of that
pub record WroteFront (from to : Place) (old new : OutputState) (bytes : List ℕ) : Type 0 where
  pub front : List ℕ
  pub rest : List ℕ
  pub split : bytes ≡ front ++ rest
  pub wrote : Wrote from to old new front
