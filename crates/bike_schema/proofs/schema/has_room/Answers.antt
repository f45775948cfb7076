use Rattle.std.proofs.Common.{◌≡◌, ◌&&◌, ◌++◌, Bool, true, map, sym, ap, ◌∙◌}
use Rattle.std.specs.List.{list_all}
use Rattle.std.proofs.lemmas.List.Folds.{list_all-append}
use Rattle.bike_schema.specs.Layouts.{name_of, every_table}
use Rattle.bike_schema.specs.Indexes.{TableIndex, every_index, is_free}
use Rattle.bike_schema.proofs.schema.has_room.Goals as goal

pub returns-then-are_free : goal.returns-then-are_free
returns-then-are_free g c =
    let test = is_free c.schema-schema.result.now in
    let tables = map name_of every_table in
    let others = map (λ (i : TableIndex). i.name) every_index in
    let first : list_all test tables ≡ true = sym c.are_free.ensures ∙ c.if-are_free.true in
    let is : c.are_free-then-are_free.result ≡ list_all test (tables ++ others) =
    c.are_free-then-are_free.ensures ∙ ap (λ (b : Bool). b && list_all test others) (sym first) ∙ sym (list_all-append test tables others) in
    let told = is ∙ ap (λ s. list_all (is_free s) (tables ++ others)) c.schema-schema.ensures.value in
    (λ h. sym told ∙ h, λ h. told ∙ h)
