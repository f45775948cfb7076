use Rattle.std.proofs.Common.{Some, filter, map, false, sym, ap, subst, ◌∙◌}
use Rattle.std.specs.Prelude.{option_map}
use Rattle.std.proofs.lemmas.Result.{IfOk-weaker}
use Rattle.bike_fields.specs.declared.name_kind.NameKind.TheVariants as named
use Rattle.bike_book.specs.Tables.{MoreNames}
use Rattle.bike_book.specs.Found.{rows_of}
use Rattle.bike_office_reads.specs.ReadRows.{owned_name, is_name_within}
use Rattle.bike_schema.proofs.AnswerLemmas.{answers_then, answers_both}
use Rattle.bike_queries.specs.Pages.{AreNamedStations, EndsWith, page_after}
use Rattle.bike_queries.proofs.StatusLemmas.{page_apart, nothing_read, named_read, unnamed_read}
use Rattle.bike_queries.proofs.stations.find_stations_after.Goals as goal

pub returns-then-not-translated : goal.returns-then-not-translated
returns-then-not-translated g c =
    let after = option_map (λ id. id.now) c.args.after in
    answers_then _ _ c.in_ok-stations.ensures (λ s m sound listing are.
    subst (λ t. AreNamedStations t s (page_after after s.stations) c.from_vec.result.items) (sym c.if-not-translated.true)
    (subst (AreNamedStations false s (page_after after s.stations)) (sym c.from_vec.ensures.items) (unnamed_read s sound after c.in_ok-stations.stations.items are)))

pub returns-in_default : goal.returns-in_default
returns-in_default g c =
    let after = option_map (λ id. id.now) c.args.after in
    let stations = c.in_ok-stations.stations.items in
    answers_then _ _ c.in_ok-stations.ensures (λ s m sound listing are.
    subst (λ t. AreNamedStations t s (page_after after s.stations) c.new.result.items) (sym c.if-not-translated.false)
    (nothing_read s sound after stations (unnamed_read s sound after stations are) c.new.result.items (sym c.as_slice.ensures.value ∙ c.in_default.ensures) c.new.ensures.items))

pub returns : goal.returns
returns g c =
    let after = option_map (λ id. id.now) c.args.after in
    let stations = c.in_ok-stations.stations.items in
    answers_then _ _ (answers_both _ _ c.in_ok-stations.ensures c.in_ok-names.ensures) (λ s m sound listing both.
    let are = unnamed_read s sound after stations both.0 in
    IfOk-weaker c.read_page.result _ _ (λ page read.
    subst (λ t. AreNamedStations t s (page_after after s.stations) page.items) (sym c.if-not-translated.false)
    (named_read s sound after stations are c.in-Some.last.now
    (subst (λ xs. EndsWith xs (Some c.in-Some.last.now)) c.as_slice.ensures.value c.in-Some.ensures)
    m c.as_slice-2.result.now page.items
    (c.as_slice-2.ensures.value ∙ both.1
    ∙ ap (λ start. map owned_name (filter (is_name_within named.Station start c.in-Some.last.now) (rows_of s m MoreNames))) (c.as_str.ensures.value ∙ c.start_of-start.ensures))
    read)) (c.read_page.ensures (page_apart s sound after stations are)))
