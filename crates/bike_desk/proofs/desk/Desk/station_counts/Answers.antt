use Rattle.std.proofs.Common.{sym, ap, ◌∙◌, subst}
use Rattle.bike_queries.specs.StationCounts.{AreCountsAt}
use Rattle.bike_desk.specs.Desk.{DeskValue}
use Rattle.bike_desk.specs.Queries.{Queries}
use Rattle.bike_desk.proofs.QueryLemmas.{queries}
use Rattle.bike_desk.proofs.desk.Desk.station_counts.Goals as goal

pub returns : goal.returns
returns g c =
    let going = ap (λ (d : DeskValue g.row.S.Denot). d.is_stopped) c.self.view_is ∙ c.in_ok-check_serving.ensures in
    let told = queries g.S.Store c.self.inside.conn c.find_station_counts-read.new.conn c.self.inside.stopped c.self.inside.newest c.self.inside.figures (λ s x. AreCountsAt s c.args.station.now x) going c.find_station_counts-read.result c.answer.new.self c.answer.result c.find_station_counts-read.ensures c.answer.ensures in
    record { query = subst (λ (d : DeskValue g.row.S.Denot). Queries g.S.Store d c.answer.new.self c.answer.result (λ s x. AreCountsAt s c.args.station.now x)) c.self.view_is told }
