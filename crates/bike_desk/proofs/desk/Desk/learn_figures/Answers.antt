use Rattle.std.proofs.Common.{◌≡◌, Some, ap, ◌∙◌}
use Rattle.bike_booking.specs.declared.figures.Figures.{Figures}
use Rattle.bike_sql.proofs.ChainLaws.{reads_as}
use Rattle.bike_desk.specs.Desk.{DeskValue}
use Rattle.bike_desk.specs.Newest.{knows_newest}
use Rattle.bike_desk.proofs.QueryLemmas.{learns}
use Rattle.bike_desk.proofs.desk.Desk.learn_figures.Goals as goal

pub returns-in-Ok-clause-query : goal.returns-in-Ok-clause-query
returns-in-Ok-clause-query g c =
    let going = ap (λ (d : DeskValue g.row.S.Denot). d.is_stopped) c.self.view_is ∙ c.requires in
    let read = reads_as c.in-Ok.ensures (λ db is s h known. (record { newest = known.newest; figures = is s h }, ap (λ (f : Figures). f.now) (is s h))) in
    learns g.S.Store c.self.inside.conn c.find_figures.new.conn c.self.inside.stopped c.self.inside.newest c.self.inside.figures (λ s x. x ≡ s.now) going
    (record { newest_tells = knows_newest c.self.inside.newest; figures = Some c.in-Ok.figures }) c.in-Ok.figures.now c.args.self.now c.self.view_is read
