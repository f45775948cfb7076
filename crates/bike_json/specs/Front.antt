-- What was written begins the text of one value, whatever calls come next.
use Rattle.std.specs.Prelude.{◌≡◌, ℕ, List, [], ◌∷◌, ◌++◌, IsTrue}
use Rattle.bike_json.specs.Tree.{Tree, comma, text_of}
use Rattle.bike_json.specs.Escapes.{string_text}
use Rattle.bike_json.specs.State.{takes_value, takes_name, takes_array_end, has_more, after_value}
use Rattle.bike_json.specs.declared.level.Level.{Level}
use Rattle.bike_json.specs.declared.level.Level.TheVariants.{Start, EmptyArray, EmptyObject, NamedObject}

-- the bytes are the text of a value
abbrev pub IsText : List ℕ → Type 0
IsText bytes = (tree : Tree) × (text_of tree ≡ bytes)

-- the bytes begin the text of a value
abbrev pub BeginsText : List ℕ → Type 0
BeginsText bytes = (tree : Tree) × (rest : List ℕ) × (text_of tree ≡ bytes ++ rest)

-- a sequence of calls, each made where the open level takes it: the levels that it leads to (those round the
-- open one, and the open one) and the bytes of its parts
pub data Calls : List Level → Level → List ℕ → Type 0 where
  none : Calls [] Start []
  value : (round : List Level) (top : Level) (bytes : List ℕ) (tree : Tree) → IsTrue (takes_value top)
      → Calls round top bytes
      → Calls round (after_value top) (bytes ++ (comma (has_more top) ++ text_of tree))
  name : (round : List Level) (top : Level) (bytes text : List ℕ) → IsTrue (takes_name top) → Calls round top bytes
      → Calls round NamedObject (bytes ++ (comma (has_more top) ++ string_text text ++ 58 ∷ []))
  begin_array : (round : List Level) (top : Level) (bytes : List ℕ) → IsTrue (takes_value top) → Calls round top bytes
      → Calls (after_value top ∷ round) EmptyArray (bytes ++ (comma (has_more top) ++ 91 ∷ []))
  begin_object : (round : List Level) (top : Level) (bytes : List ℕ) → IsTrue (takes_value top) → Calls round top bytes
      → Calls (after_value top ∷ round) EmptyObject (bytes ++ (comma (has_more top) ++ 123 ∷ []))
  end_array : (round : List Level) (outer top : Level) (bytes : List ℕ) → IsTrue (takes_array_end top)
      → Calls (outer ∷ round) top bytes
      → Calls round outer (bytes ++ 93 ∷ [])
  end_object : (round : List Level) (outer top : Level) (bytes : List ℕ) → IsTrue (takes_name top)
      → Calls (outer ∷ round) top bytes
      → Calls round outer (bytes ++ 125 ∷ [])
