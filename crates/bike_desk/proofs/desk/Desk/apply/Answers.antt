use Rattle.std.proofs.Common.{◌≡◌, IsTrue, sym, ap, ◌∙◌, subst, arith}
use Rattle.sqlite.specs.State.{HasCleanDisk}
use Rattle.sqlite.specs.Held.{state}
use Rattle.bike_schema.specs.Makes.{OthersStay}
use Rattle.bike_schema.specs.Stands.{Keeps}
use Rattle.bike_office_reads.specs.Newest.{NewestTells}
use Rattle.bike_desk.specs.Desk.{DeskValue, AreFigures, IsRemembered}
use Rattle.bike_desk.specs.Newest.{knows_newest}
use Rattle.bike_desk.proofs.KeepLemmas.{still_going}
use Rattle.bike_desk.proofs.NewestLemmas.{step_tells}
use Rattle.bike_desk.proofs.desk.Desk.apply.Goals as goal

pub returns-in-Ok-serve-clause-ok : goal.returns-in-Ok-serve-clause-ok
returns-in-Ok-serve-clause-ok g c clean s at =
    let was : Keeps (state g.S.Store c.self.inside.conn) s = subst (λ (d : DeskValue g.row.S.Denot). Keeps (state g.S.Store d.conn) s) (sym c.self.view_is) at.keeps in
    let known : IsTrue (knows_newest c.self.inside.newest) → NewestTells s = subst (λ (d : DeskValue g.row.S.Denot). IsTrue d.remembered.newest_tells → NewestTells s) (sym c.self.view_is) at.remembers.newest in
    let after : HasCleanDisk (state g.S.Store c.serve.new.conn) = clean in
    let seen : HasCleanDisk (state g.S.Store c.know_newest.new.conn) = omega (arith, after, c.serve.ensures.clean) in
    let figures : AreFigures c.self.inside.figures s = subst (λ (d : DeskValue g.row.S.Denot). AreFigures d.remembered.figures s) (sym c.self.view_is) at.remembers.figures in
    let newest = c.in-Ok-know_newest.ensures.newest seen s was known in
    let remembers : IsRemembered s (record { newest_tells = c.tells.result; figures = c.self.inside.figures }) = record { newest = λ told. newest (sym c.tells.ensures ∙ told); figures = figures } in
    let done = c.in-Ok-serve.ensures.ok clean s (c.in-Ok-know_newest.ensures.keeps seen s was) remembers in (
      done.reply,
      record {
        goes_on =
            still_going c.self.inside.stopped c.self.inside.conn.in_transaction c.serve.new.conn.in_transaction
            (ap (λ (d : DeskValue g.row.S.Denot). d.is_stopped) c.self.view_is ∙ at.goes_on) c.in-Ok-serve.ensures.ended;
        keeps = done.keeps;
        remembers = record { newest = λ told. step_tells s c.args.moment c.args.request.now (newest told); figures = done.figures };
      },
    )

pub returns-clause-store_failed : goal.returns-clause-store_failed
returns-clause-store_failed g c clean s at failed =
    let was : Keeps (state g.S.Store c.self.inside.conn) s = subst (λ (d : DeskValue g.row.S.Denot). Keeps (state g.S.Store d.conn) s) (sym c.self.view_is) at.keeps in
    let known : IsTrue (knows_newest c.self.inside.newest) → NewestTells s = subst (λ (d : DeskValue g.row.S.Denot). IsTrue d.remembered.newest_tells → NewestTells s) (sym c.self.view_is) at.remembers.newest in
    let after : HasCleanDisk (state g.S.Store c.serve.new.conn) = clean in
    let seen : HasCleanDisk (state g.S.Store c.know_newest.new.conn) = omega (arith, after, c.serve.ensures.clean) in
    let figures : AreFigures c.self.inside.figures s = subst (λ (d : DeskValue g.row.S.Denot). AreFigures d.remembered.figures s) (sym c.self.view_is) at.remembers.figures in
    let newest = c.in-Ok-know_newest.ensures.newest seen s was known in
    let remembers : IsRemembered s (record { newest_tells = c.tells.result; figures = c.self.inside.figures }) = record { newest = λ told. newest (sym c.tells.ensures ∙ told); figures = figures } in
    c.in-Err.ensures.failed clean s (c.in-Ok-know_newest.ensures.keeps seen s was) remembers

pub returns-in-Ok-serve-clause-others : goal.returns-in-Ok-serve-clause-others
returns-in-Ok-serve-clause-others g c clean s at =
    let was : Keeps (state g.S.Store c.self.inside.conn) s = subst (λ (d : DeskValue g.row.S.Denot). Keeps (state g.S.Store d.conn) s) (sym c.self.view_is) at.keeps in
    let known : IsTrue (knows_newest c.self.inside.newest) → NewestTells s = subst (λ (d : DeskValue g.row.S.Denot). IsTrue d.remembered.newest_tells → NewestTells s) (sym c.self.view_is) at.remembers.newest in
    let after : HasCleanDisk (state g.S.Store c.serve.new.conn) = clean in
    let seen : HasCleanDisk (state g.S.Store c.know_newest.new.conn) = omega (arith, after, c.serve.ensures.clean) in
    let figures : AreFigures c.self.inside.figures s = subst (λ (d : DeskValue g.row.S.Denot). AreFigures d.remembered.figures s) (sym c.self.view_is) at.remembers.figures in
    let newest = c.in-Ok-know_newest.ensures.newest seen s was known in
    let remembers : IsRemembered s (record { newest_tells = c.tells.result; figures = c.self.inside.figures }) = record { newest = λ told. newest (sym c.tells.ensures ∙ told); figures = figures } in
    let same = c.in-Ok-know_newest.ensures.same seen s was in
    let stay = c.in-Ok-serve.ensures.others clean s (c.in-Ok-know_newest.ensures.keeps seen s was) remembers in
    subst (λ (d : DeskValue g.row.S.Denot). OthersStay (state g.S.Store d.conn).now (state g.S.Store c.serve.new.conn).now) c.self.view_is
    (subst (λ db. OthersStay db (state g.S.Store c.serve.new.conn).now) same stay)

pub returns-in-Ok-serve-clause-rests : goal.returns-in-Ok-serve-clause-rests
returns-in-Ok-serve-clause-rests g c clean s at rests =
    let was : Keeps (state g.S.Store c.self.inside.conn) s = subst (λ (d : DeskValue g.row.S.Denot). Keeps (state g.S.Store d.conn) s) (sym c.self.view_is) at.keeps in
    let known : IsTrue (knows_newest c.self.inside.newest) → NewestTells s = subst (λ (d : DeskValue g.row.S.Denot). IsTrue d.remembered.newest_tells → NewestTells s) (sym c.self.view_is) at.remembers.newest in
    let after : HasCleanDisk (state g.S.Store c.serve.new.conn) = clean in
    let seen : HasCleanDisk (state g.S.Store c.know_newest.new.conn) = omega (arith, after, c.serve.ensures.clean) in
    let figures : AreFigures c.self.inside.figures s = subst (λ (d : DeskValue g.row.S.Denot). AreFigures d.remembered.figures s) (sym c.self.view_is) at.remembers.figures in
    let newest = c.in-Ok-know_newest.ensures.newest seen s was known in
    let remembers : IsRemembered s (record { newest_tells = c.tells.result; figures = c.self.inside.figures }) = record { newest = λ told. newest (sym c.tells.ensures ∙ told); figures = figures } in
    let same = c.in-Ok-know_newest.ensures.same seen s was in
    let stay = c.in-Ok-serve.ensures.rests clean s (c.in-Ok-know_newest.ensures.keeps seen s was) remembers rests in
    subst (λ (d : DeskValue g.row.S.Denot). (state g.S.Store c.serve.new.conn).now ≡ (state g.S.Store d.conn).now) c.self.view_is (subst (λ db. (state g.S.Store c.serve.new.conn).now ≡ db) same stay)
