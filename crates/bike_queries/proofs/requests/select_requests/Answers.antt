use Rattle.std.proofs.Common.{rules, ◌≡◌, filter, map, min, take, subst, ap}
use Rattle.std.specs.List.{AllZip}
use Rattle.bike_book.specs.Numbers.{most_requests}
use Rattle.bike_book.specs.Tables.{Tables}
use Rattle.bike_schema.specs.Answers.{Answers}
use Rattle.bike_schema.specs.Tables.{tables_of}
use Rattle.bike_schema.proofs.AnswerLemmas.{reads_weaker}
use Rattle.bike_office_reads.proofs.CollectLaws.{begins}
use Rattle.bike_queries.specs.Requests.{is_behind, request_page}
use Rattle.bike_queries.proofs.RequestLemmas.{ReadsRow, page_read}
use Rattle.bike_queries.proofs.requests.select_requests.Goals as goal

pub returns : goal.returns
returns g c =
    let number = c.args.number in
    let among = λ (t : Tables). take 64 (filter (is_behind (min number most_requests)) t.history) in
    subst (λ h. Answers g.S.Store c.args.conn.now h c.collect_rows.result (λ s m rows. map (λ row. row.request) rows.items ≡ request_page s number)) (search rules)
    (reads_weaker (c.collect_rows.ensures.read c.args.conn.now (λ db. among (tables_of db)) (begins c.in_ok-rows.ensures.walks)) (λ db rows zipped s h.
    page_read s number rows.items (subst (λ all. AllZip ReadsRow all rows.items) (ap among h.tables) zipped)))
