use Rattle.std.proofs.Common.{◌≡◌, ap, ◌∙◌, subst}
use Rattle.std.specs.Prelude.{option_map}
use Rattle.bike_operator.specs.Requests.{request_texts}
use Rattle.bike_queries.specs.Requests.{request_after}
use Rattle.bike_desk.specs.Desk.{DeskValue}
use Rattle.bike_desk.specs.Queries.{Queries}
use Rattle.bike_desk.proofs.QueryLemmas.{queries}
use Rattle.bike_desk.proofs.desk.Desk.request_after.Goals as goal

pub returns-clause-query : goal.returns-clause-query
returns-clause-query g c =
    let going = ap (λ (d : DeskValue g.row.S.Denot). d.is_stopped) c.self.view_is ∙ c.in_ok-check_serving.ensures in
    let told = queries g.S.Store c.self.inside.conn c.find_request_after-read.new.conn c.self.inside.stopped c.self.inside.newest c.self.inside.figures
    (λ s x. x ≡ option_map request_texts (request_after s c.args.number c.args.begin c.args.end)) going
    c.find_request_after-read.result c.answer.new.self c.answer.result c.find_request_after-read.ensures c.answer.ensures in
    subst (λ (d : DeskValue g.row.S.Denot). Queries g.S.Store d c.answer.new.self c.answer.result
    (λ s x. x ≡ option_map request_texts (request_after s c.args.number c.args.begin c.args.end))) c.self.view_is told
