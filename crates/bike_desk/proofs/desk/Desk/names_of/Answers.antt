use Rattle.std.proofs.Common.{◌≡◌, sym, ap, ◌∙◌, subst}
use Rattle.bike_operator.specs.Names.{further_names}
use Rattle.bike_desk.specs.Desk.{DeskValue}
use Rattle.bike_desk.specs.Queries.{Queries}
use Rattle.bike_desk.proofs.QueryLemmas.{queries}
use Rattle.bike_desk.proofs.desk.Desk.names_of.Goals as goal

pub returns-clause-query : goal.returns-clause-query
returns-clause-query g c =
    let going = ap (λ (d : DeskValue g.row.S.Denot). d.is_stopped) c.self.view_is ∙ c.in_ok-check_serving.ensures in
    let told = queries g.S.Store c.self.inside.conn c.find_names-read.new.conn c.self.inside.stopped c.self.inside.newest c.self.inside.figures (λ s x. x.items ≡ further_names s c.args.kind c.args.id.now) going
    c.find_names-read.result c.answer.new.self c.answer.result c.find_names-read.ensures c.answer.ensures in
    subst (λ (d : DeskValue g.row.S.Denot). Queries g.S.Store d c.answer.new.self c.answer.result (λ s x. x.items ≡ further_names s c.args.kind c.args.id.now))
    c.self.view_is told
