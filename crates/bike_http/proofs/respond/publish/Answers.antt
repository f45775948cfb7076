use Rattle.std.proofs.Common.{◌≡◌, ◌∙◌, ℕ, max, inr, ap, refl, subst, arith}
use Rattle.sqlite.specs.State.{HasCleanDisk}
use Rattle.bike_operator.specs.Operator.{Operator}
use Rattle.bike_desk.specs.Desk.{desk_state}
use Rattle.bike_http_response.specs.declared.answer.Answer.TheVariants as answer
use Rattle.bike_http.specs.Telling.{Publishes}
use Rattle.bike_http.proofs.Told.{query_undone, responds}
use Rattle.bike_http.proofs.respond.publish.Goals as goal

pub returns-in-Ok-clause-sent : goal.returns-in-Ok-clause-sent
returns-in-Ok-clause-sent g c clean s at =
    let early : HasCleanDisk (desk_state g.S.Store c.now.new.self) = omega (arith, clean, c.publish_at.ensures.clean) in
    let told = c.in-Ok.ensures.query.ok early s at in
    let moment : c.later.result ≡ max c.args.moment s.now = c.later.ensures.value ∙ ap (max c.args.moment) told.0 in
    subst (λ (t : ℕ). Publishes g.S.Store c.publish_at.new.desk s t c.args.feed (g.W.Write.contents c.args.writer.now) (g.W.Write.contents c.publish_at.new.writer) c.publish_at.result) moment
    (c.publish_at.ensures.sent clean s told.1)

pub returns-in-Err-clause-sent : goal.returns-in-Err-clause-sent
returns-in-Err-clause-sent g c clean s at =
    responds g.S.Store c.now.new.self s s _ answer.Unavailable _ _ c.write_answer.result
    (inr (refl, query_undone g.S.Store c.args.desk.now c.now.new.self s s clean at (λ (o : Operator) (now : ℕ). now ≡ o.now) c.in-Err.field-0 c.in-Err.ensures.query)) c.write_answer.ensures

pub returns-in-Ok-clause-rests : goal.returns-in-Ok-clause-rests
returns-in-Ok-clause-rests g c clean s at on =
    let early : HasCleanDisk (desk_state g.S.Store c.now.new.self) = omega (arith, clean, c.publish_at.ensures.clean) in
    let told = c.in-Ok.ensures.query.ok early s at in
    c.publish_at.ensures.rests clean s told.1 on ∙ c.in-Ok.ensures.query.rests early s at told.1.goes_on

pub returns-in-Err-clause-rests : goal.returns-in-Err-clause-rests
returns-in-Err-clause-rests g c = c.in-Err.ensures.query.rests
