use Rattle.std.proofs.Common.{◌≡◌, sym, ap, ◌∙◌, subst}
use Rattle.bike_schema.proofs.AnswerLemmas.{reads_weaker}
use Rattle.bike_queries.specs.Infos.{rider_info_at}
use Rattle.bike_desk.specs.Desk.{DeskValue}
use Rattle.bike_desk.specs.Queries.{Queries}
use Rattle.bike_desk.proofs.QueryLemmas.{queries_knowing}
use Rattle.bike_desk.proofs.desk.Desk.find_rider.Goals as goal

pub returns-clause-query : goal.returns-clause-query
returns-clause-query g c =
    let going = ap (λ (d : DeskValue g.row.S.Denot). d.is_stopped) c.self.view_is ∙ c.requires in
    let read = reads_weaker c.find_rider_info-read.ensures (λ db x is s h known. is s h (λ told. known (sym c.tells.ensures ∙ told))) in
    let told = queries_knowing g.S.Store c.self.inside.conn c.find_rider_info-read.new.conn c.self.inside.stopped c.self.inside.newest c.self.inside.figures (λ s x. x ≡ rider_info_at s c.args.rider) going c.find_rider_info-read.result c.answer.new.self c.answer.result read c.answer.ensures in
    subst (λ (d : DeskValue g.row.S.Denot). Queries g.S.Store d c.answer.new.self c.answer.result (λ s x. x ≡ rider_info_at s c.args.rider)) c.self.view_is told
