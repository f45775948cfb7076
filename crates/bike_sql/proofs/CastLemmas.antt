-- Values that a column stores as they are.
use Rattle.std.proofs.Common.{◌≡◌, ◌&&◌, Bool, true, false, cond, List, [], ◌∷◌, refl, ap₂}
use Rattle.std.proofs.lemmas.Bool.{and_parts}
use Rattle.sqlite_value.specs.declared.value.Value.{Value}
use Rattle.sqlite_value.specs.declared.value.Value.TheVariants.{Null, Int, Text}
use Rattle.sqlite_value.specs.Order.{Row}
use Rattle.sqlite_sql.specs.Ops.{unary}
use Rattle.sqlite_schema.specs.declared.schema.Column.{Column}
use Rattle.sqlite_schema.specs.declared.schema.Table.{Table}
use Rattle.sqlite_schema.specs.declared.schema.Kind.{Kind}
use Rattle.sqlite_schema.specs.declared.schema.Kind.TheVariants.{Integer, Text as Words}
use Rattle.sqlite_rules.specs.Cast.{cast, cast_all, cast_row}

either : (b : Bool) (x : Value) → cond b x x ≡ x
either true x = refl
either false x = refl

-- the column stores the value as it is
abbrev pub suits : Kind → Value → Bool
suits Integer Null = true
suits Integer (Int n) = true
suits Words Null = true
suits Words (Text t) = true
suits _ _ = false

abbrev pub suit_all : List Column → Row → Bool
suit_all [] [] = true
suit_all (c ∷ cs) (v ∷ vs) = suits c.kind v && suit_all cs vs
suit_all _ _ = false

-- the rowid or NULL, and a value for each column
abbrev pub suits_row : List Column → Row → Bool
suits_row columns [] = false
suits_row columns (id ∷ values) = suits Integer id && suit_all columns values

pub cast_same : (k : Kind) (v : Value) → suits k v ≡ true → cast k v ≡ v
unfolding unary
cast_same Integer Null h = either _ Null
cast_same Integer (Int n) h = either _ (Int n)
cast_same Words Null h = refl
cast_same Words (Text t) h = refl
cast_same k v h = absurd (let e = h in cc)

pub cast_all_same : (columns : List Column) (values : Row) → suit_all columns values ≡ true → cast_all columns values ≡ values
cast_all_same [] [] h = refl
cast_all_same (c ∷ cs) (v ∷ vs) h = let both = and_parts (suits c.kind v) (suit_all cs vs) h in let a = cast_same c.kind v both.0 in let b = cast_all_same cs vs both.1 in cc
cast_all_same columns values h = absurd (let e = h in cc)

pub cast_row_same : (table : Table) (row : Row) → suits_row table.columns row ≡ true → cast_row table row ≡ row
cast_row_same table [] h = absurd (let e = h in cc)
cast_row_same table (id ∷ values) h =
    let both = and_parts (suits Integer id) (suit_all table.columns values) h in ap₂ (λ v vs. v ∷ vs) (cast_same Integer id both.0) (cast_all_same table.columns values both.1)
