-- What the watch is told of.
use Rattle.std.proofs.Common.{◌≡◌, List, [], ◌∷◌, ◌++◌, append-nil, append_assoc, Option, Some, None, Result, Ok, Err, refl, sym, ap, ◌∙◌}
use Rattle.bike_schema.specs.declared.fault.StatementFault.{StatementFault}
use Rattle.bike_recognition.specs.declared.table.TableName.{TableName as Table}
use Rattle.bike_audit.specs.declared.tables.BadRow.{BadRow}
use Rattle.bike_audit.specs.Watching.{told_after, WasTold, IsFront, AreTold}

pub told_nothing : (told : Option (List Table)) → told ≡ told_after told []
told_nothing None = refl
told_nothing (Some before) = ap (λ (xs : List Table). Some xs) (sym (append-nil before))

told_twice : (told : Option (List Table)) (first second : List Table) → told_after (told_after told first) second ≡ told_after told (first ++ second)
told_twice None first second = refl
told_twice (Some before) first second = ap (λ (xs : List Table). Some xs) (append_assoc before first second)

-- it was told of one table, and then of those that the rest tells of
pub told_more : (old mid new : Option (List Table)) (table : Table) {are more : List Table → Type 0} → mid ≡ told_after old (table ∷ []) → ((told : List Table) → are told → more (table ∷ told))
    → WasTold mid new are → WasTold old new more
told_more old mid new table one so (tables, told, are) = (table ∷ tables, told ∙ ap (λ o. told_after o tables) one ∙ told_twice old (table ∷ []) tables, so tables are)

pub front_none : (tables : List Table) → IsFront tables []
front_none tables = (tables, refl)

pub front_more : (tables : List Table) (table : Table) (rest told : List Table) → tables ≡ table ∷ rest → IsFront rest told → IsFront tables (table ∷ told)
front_more tables table rest told split (after, is) = (after, split ∙ ap (λ (xs : List Table). table ∷ xs) is)

-- with a table before the others
pub are_more : (tables : List Table) (table : Table) (rest : List Table) (result : Result (Option BadRow) StatementFault) → tables ≡ table ∷ rest → (told : List Table) → AreTold rest result told
    → AreTold tables result (table ∷ told)
are_more tables table rest (Ok None) split told is = ap (λ (xs : List Table). table ∷ xs) is ∙ sym split
are_more tables table rest (Ok (Some bad)) split told (before, last, front) = (table ∷ before, ap (λ (xs : List Table). table ∷ xs) last, front_more tables table rest told split front)
are_more tables table rest (Err fault) split told front = front_more tables table rest told split front
