use Rattle.std.proofs.Common.{◌≡◌, ◌&&◌, ◌++◌, Bool, true, map, sym, ap, ◌∙◌}
use Rattle.std.specs.List.{list_all}
use Rattle.std.proofs.lemmas.List.Folds.{list_all-append}
use Rattle.bike_schema.specs.Layouts.{name_of, every_table}
use Rattle.bike_schema.specs.Tables.{is_unused, other_names}
use Rattle.bike_schema.proofs.schema.has_none.Goals as goal

pub returns-then-are_unused : goal.returns-then-are_unused
returns-then-are_unused g c =
    let test = is_unused c.schema-schema.result.now in
    let tables = map name_of every_table in
    let others = other_names in
    let first : list_all test tables ≡ true = sym c.are_unused.ensures ∙ c.if-are_unused.true in
    let is : c.are_unused-then-are_unused.result ≡ list_all test (tables ++ others) =
    c.are_unused-then-are_unused.ensures ∙ ap (λ (b : Bool). b && list_all test others) (sym first) ∙ sym (list_all-append test tables others) in
    let told = is ∙ ap (λ s. list_all (is_unused s) (tables ++ others)) c.schema-schema.ensures.value in
    (λ h. sym told ∙ h, λ h. told ∙ h)
