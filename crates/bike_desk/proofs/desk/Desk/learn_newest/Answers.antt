use Rattle.std.proofs.Common.{sym, ap, ◌∙◌}
use Rattle.bike_sql.proofs.ChainLaws.{reads_as}
use Rattle.bike_desk.specs.Desk.{DeskValue}
use Rattle.bike_desk.specs.Newest.{knows_newest}
use Rattle.bike_desk.proofs.QueryLemmas.{learns}
use Rattle.bike_desk.proofs.desk.Desk.learn_newest.Goals as goal

pub returns-in-Ok-clause-query : goal.returns-in-Ok-clause-query
returns-in-Ok-clause-query g c =
    let going = ap (λ (d : DeskValue g.row.S.Denot). d.is_stopped) c.self.view_is ∙ c.requires in
    let read = reads_as c.in-Ok.ensures (λ db is s h known. (record { newest = λ told. (is s h).0 (sym c.found-self-inside.ensures ∙ told); figures = known.figures }, tt)) in
    learns g.S.Store c.self.inside.conn c.newest_tells.new.conn c.self.inside.stopped c.self.inside.newest c.self.inside.figures (λ s x. Unit {0}) going
    (record { newest_tells = knows_newest c.found-self-inside.result; figures = c.self.inside.figures }) tt c.args.self.now c.self.view_is read
