-- The identifiers in the rows of all vehicle types.
use Rattle.std.proofs.Common.{◌≡◌, ◌+◌, ◌++◌, ◌≤◌, ◌<◌, ℕ, List, [], ◌∷◌, length, take, get_or, map, Option, Some, refl, sym, ap, ap₂, ◌∙◌}
use Rattle.std.proofs.lemmas.List.{map_more, map_push, take_all}
use Rattle.sqlite_value.specs.Order.{Row, column}
use Rattle.bike_catalogue.specs.Rows.{TypeRow}
use Rattle.bike_book.specs.Stored.{stored_type}
use Rattle.bike_schema.specs.Columns.{ident_in}
use Rattle.bike_schema.proofs.ReadLemmas.{ident_read}

-- the identifier with which a row begins
abbrev pub begins_with : Row → Option (List ℕ)
begins_with row = ident_in (column row 0)

-- one more was read
pub next_read : (rows : List Row) (i : ℕ) (row : Row) (ids new : List (List ℕ)) (id : List ℕ) → i < length rows → row ≡ get_or rows i row
    → begins_with row ≡ Some id → new ≡ ids ++ id ∷ [] → map Some ids ≡ map begins_with (take i rows) → map Some new ≡ map begins_with (take (i + 1) rows)
next_read rows i row ids new id below is named pushed so =
    ap (map Some) pushed ∙ map_push Some ids id
    ∙ ap₂ (λ (front : List (Option (List ℕ))) (x : Option (List ℕ)). front ++ x ∷ []) so (sym named ∙ ap begins_with is)
    ∙ sym (map_more begins_with rows i row below)

pub all_read : (rows : List Row) (i : ℕ) (ids : List (List ℕ)) → length rows ≤ i → map Some ids ≡ map begins_with (take i rows)
    → map Some ids ≡ map begins_with rows
all_read rows i ids end so = so ∙ ap (map begins_with) (take_all i rows end)

-- the identifiers in the rows of types are the types'
pub types_named : (types : List (List ℕ × TypeRow)) (ids : List (List ℕ)) → map Some ids ≡ map begins_with (map stored_type types)
    → ids ≡ map (λ e. e.0) types
types_named [] [] are = refl
types_named [] (id ∷ ids) are = absurd cc
types_named (e ∷ types) [] are = absurd cc
types_named (e ∷ types) (id ∷ ids) are =
    let here : begins_with (stored_type e) ≡ Some id = cc in
    let later : map Some ids ≡ map begins_with (map stored_type types) = cc in
    ap₂ (λ (x : List ℕ) (xs : List (List ℕ)). x ∷ xs) (ident_read here refl) (types_named types ids later)
