-- JSON values and their texts (RFC 8259): no space between tokens, no line end.
use Rattle.std.specs.Prelude.{ℕ, ℤ, List, [], ◌∷◌, ◌++◌, Bool, true, false}
use Rattle.std.specs.Fmt.{signed_decimal}
use Rattle.bike_fixed.specs.Text.{cents_text, micro_text}
use Rattle.bike_json.specs.Escapes.{string_text}

mutual
  -- a value; an amount in hundredths and a coordinate in microdegrees are numbers with a fixed count of decimals
  pub data Tree : Type 0 where
    object : Members → Tree
    array : Items → Tree
    text : List ℕ → Tree
    whole : ℤ → Tree
    cents : ℤ → Tree
    micro : ℤ → Tree
    flag : Bool → Tree

  -- the names and values of an object, in order
  pub data Members : Type 0 where
    no_members : Members
    member : List ℕ → Tree → Members → Members

  -- the values of an array, in order
  pub data Items : Type 0 where
    no_items : Items
    item : Tree → Items → Items

-- `true` or `false`
abbrev pub flag_text : Bool → List ℕ
flag_text true = 116 ∷ 114 ∷ 117 ∷ 101 ∷ []
flag_text false = 102 ∷ 97 ∷ 108 ∷ 115 ∷ 101 ∷ []

-- a comma stands before every part but the first
abbrev pub comma : Bool → List ℕ
comma true = 44 ∷ []
comma false = []

abbrev mutual
  -- the text of a value
  pub text_of : Tree → List ℕ
  text_of (object members) = 123 ∷ (members_text false members ++ 125 ∷ [])
  text_of (array items) = 91 ∷ (items_text false items ++ 93 ∷ [])
  text_of (text bytes) = string_text bytes
  text_of (whole z) = signed_decimal z
  text_of (cents z) = cents_text z
  text_of (micro z) = micro_text z
  text_of (flag b) = flag_text b

  -- the text of members, with whether others stand before them
  pub members_text : Bool → Members → List ℕ
  members_text more no_members = []
  members_text more (member name value members) =
      comma more ++ (string_text name ++ 58 ∷ (text_of value ++ members_text true members))

  -- the text of items, with whether others stand before them
  pub items_text : Bool → Items → List ℕ
  items_text more no_items = []
  items_text more (item value items) = comma more ++ (text_of value ++ items_text true items)
