-- The parts of what the fragment covers are covered.
use Rattle.std.proofs.Common.{◌≡◌, Bool, true, ◌&&◌, List, ◌∷◌}
use Rattle.sqlite_ast.specs.declared.Expr.{Expr}
use Rattle.sqlite_ast.specs.declared.Source.{Source, out-Source}
use Rattle.sqlite_ast.specs.declared.Core.{Core, out-Core}
use Rattle.sqlite_ast.specs.declared.Sort.{Sort}
use Rattle.sqlite_ast.specs.declared.Select.{Select, out-Select}
use Rattle.sqlite_schema.specs.declared.schema.Schema.{Schema}
use Rattle.bike_sql.specs.Fragment.{is_nil, covers, covers_option, covers_origin, covers_sources, covers_columns, covers_body, covers_order, covers_group, covers_core, covers_page, covers_select}
use Rattle.bike_sql.proofs.Relocation.{both}

-- two tests and a third
pub both3 : (a b c : Bool) → (a && (b && c)) ≡ true → (a ≡ true) × (b ≡ true) × (c ≡ true)
both3 a b c h = let x = both a (b && c) h in let y = both b c x.1 in (x.0, y.0, y.1)

pub both4 : (a b c d : Bool) → (a && (b && (c && d))) ≡ true → (a ≡ true) × (b ≡ true) × (c ≡ true) × (d ≡ true)
both4 a b c d h = let x = both a (b && (c && d)) h in let y = both3 b c d x.1 in (x.0, y.0, y.1, y.2)

-- the first source is a table, its ON is covered, and so are the sources after it
pub source_parts : (s : Schema) (ok : Expr → Bool) (x : Source) (more : List Source) → covers_sources s ok (x ∷ more) ≡ true
    → (covers_origin s (out-Source x).origin ≡ true) × (covers_option ok (out-Source x).on ≡ true) × (covers_sources s ok more ≡ true)
source_parts s ok x more h = both3 (covers_origin s (out-Source x).origin) (covers_option ok (out-Source x).on) (covers_sources s ok more) h

-- FROM, the columns, and WHERE
pub body_parts : (s : Schema) (ok : Expr → Bool) (core : Core) → covers_body s ok core ≡ true
    → (covers_sources s ok (out-Core core).from ≡ true) × (covers_columns ok (out-Core core).shown ≡ true) × (covers_option ok (out-Core core).filter ≡ true)
body_parts s ok core h = both3 (covers_sources s ok (out-Core core).from) (covers_columns ok (out-Core core).shown) (covers_option ok (out-Core core).filter) h

-- the body, GROUP BY, HAVING, and ORDER BY
pub core_parts : (s : Schema) (core : Core) (order : List Sort) → covers_core s core order ≡ true
    → (covers_body s (covers s) core ≡ true) × (covers_group (covers s) (out-Core core).group ≡ true) × (covers_option (covers s) (out-Core core).having ≡ true)
    × (covers_order (covers s) order ≡ true)
core_parts s core order h = both4 (covers_body s (covers s) core) (covers_group (covers s) (out-Core core).group) (covers_option (covers s) (out-Core core).having) (covers_order (covers s) order) h

-- the SELECT, LIMIT with OFFSET, no WITH, and no UNION
pub select_parts : (s : Schema) (q : Select) → covers_select s q ≡ true
    → (covers_core s (out-Select q).first (out-Select q).order ≡ true) × (covers_page s q ≡ true) × (is_nil (out-Select q).with ≡ true) × (is_nil (out-Select q).others ≡ true)
select_parts s q h = both4 (covers_core s (out-Select q).first (out-Select q).order) (covers_page s q) (is_nil (out-Select q).with) (is_nil (out-Select q).others) h
