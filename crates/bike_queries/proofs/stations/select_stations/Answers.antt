use Rattle.std.proofs.Common.{rules, filter, take, subst, ap, ◌∙◌}
use Rattle.std.specs.Prelude.{option_map}
use Rattle.std.specs.List.{AllZip}
use Rattle.bike_book.specs.Tables.{Tables}
use Rattle.bike_schema.specs.Answers.{Answers}
use Rattle.bike_schema.specs.Tables.{tables_of}
use Rattle.bike_schema.proofs.AnswerLemmas.{reads_weaker}
use Rattle.bike_office_reads.proofs.CollectLaws.{begins}
use Rattle.bike_queries.specs.After.{begins_from}
use Rattle.bike_queries.specs.Pages.{ArePage}
use Rattle.bike_queries.proofs.StatusLemmas.{page_read}
use Rattle.bike_queries.proofs.stations.select_stations.Goals as goal

pub returns : goal.returns
returns g c =
    let after = option_map (λ id. id.now) c.args.after in
    let start = c.as_str.result.now in
    let reads = g.R.ReadRow.reads in
    let among = λ (t : Tables). take 64 (filter (begins_from start) t.stations) in
    subst (λ h. Answers g.S.Store c.args.conn.now h c.collect_rows.result (λ s m stations. ArePage reads s after stations.items)) (search rules)
    (reads_weaker (c.collect_rows.ensures.read c.args.conn.now (λ db. among (tables_of db)) (begins c.in_ok-rows.ensures.walks)) (λ db stations zipped s h.
    page_read reads s after start (c.as_str.ensures.value ∙ c.start_of-start.ensures) stations.items (subst (λ rows. AllZip reads rows stations.items) (ap among h.tables) zipped)))
