use Rattle.std.proofs.Common.{refl, sym, subst}
use Rattle.bike_http_request.specs.declared.action.Action.{Action}
use Rattle.bike_http_request.specs.declared.action.Action.TheVariants.{Apply, Show, Publish}
use Rattle.bike_http_response.specs.declared.answer.Answer.{Answer}
use Rattle.bike_http.specs.Exchange.{IsGood}
use Rattle.bike_http_response.specs.Sent.{Sends}
use Rattle.bike_http.specs.Telling.{RestsAfter, refusal_of}
use Rattle.bike_http.proofs.Told.{responds, responds_so, rejects, responds_to}
use Rattle.bike_http.proofs.respond.respond.Goals as goal

pub returns-in-Reject-clause-sent : goal.returns-in-Reject-clause-sent
returns-in-Reject-clause-sent g c clean s at =
    let d = c.args.desk.now in
    responds_to g.S.Store d s c.args.moment _ _ c.write_answer.result _ _ c.in-Reject.is
    (rejects g.S.Store d s c.args.moment _ _ c.write_answer.result c.in-Reject.rejection at c.write_answer.ensures)

pub returns-in-Apply-clause-sent : goal.returns-in-Apply-clause-sent
returns-in-Apply-clause-sent g c clean s at =
    let d = c.act-answer.new.desk in
    responds_to g.S.Store d s c.args.moment _ _ c.write_answer-in-Apply.result _ _ c.in-Apply.is
    (responds_so g.S.Store d s c.args.moment _ _ c.write_answer-in-Apply.result (Apply c.in-Apply.request) (λ sent told. told)
    (responds g.S.Store d s _ _ c.act-answer.result _ _ c.write_answer-in-Apply.result (c.act-answer.ensures.told clean s at) c.write_answer-in-Apply.ensures))

pub returns-in-Show-clause-sent : goal.returns-in-Show-clause-sent
returns-in-Show-clause-sent g c clean s at =
    let d = c.show-answer.new.desk in
    responds_to g.S.Store d s c.args.moment _ _ c.write_answer-in-Show.result _ _ c.in-Show.is
    (responds_so g.S.Store d s c.args.moment _ _ c.write_answer-in-Show.result (Show c.in-Show.row) (λ sent told. told)
    (responds g.S.Store d s _ _ c.show-answer.result _ _ c.write_answer-in-Show.result (c.show-answer.ensures.told clean s at) c.write_answer-in-Show.ensures))

pub returns-in-Publish-clause-sent : goal.returns-in-Publish-clause-sent
returns-in-Publish-clause-sent g c clean s at =
    let d = c.publish.new.desk in
    responds_to g.S.Store d s c.args.moment _ _ c.publish.result _ _ c.in-Publish.is
    (responds_so g.S.Store d s c.args.moment _ _ c.publish.result (Publish c.in-Publish.feed) (λ sent told. told) (c.publish.ensures.sent clean s at))

pub returns-in-Reject-clause-rests : goal.returns-in-Reject-clause-rests
returns-in-Reject-clause-rests g c clean s at leaves on = refl

pub returns-in-Apply-clause-rests : goal.returns-in-Apply-clause-rests
returns-in-Apply-clause-rests g c clean s at =
    subst (λ (a : Action). RestsAfter g.S.Store c.args.desk.now c.act-answer.new.desk s c.args.moment a) (sym c.in-Apply.is) (c.act-answer.ensures.rests clean s at)

pub returns-in-Show-clause-rests : goal.returns-in-Show-clause-rests
returns-in-Show-clause-rests g c clean s at =
    subst (λ (a : Action). RestsAfter g.S.Store c.args.desk.now c.show-answer.new.desk s c.args.moment a) (sym c.in-Show.is)
    (λ leaves on. c.show-answer.ensures.rests clean s at on)

pub returns-in-Publish-clause-rests : goal.returns-in-Publish-clause-rests
returns-in-Publish-clause-rests g c clean s at =
    subst (λ (a : Action). RestsAfter g.S.Store c.args.desk.now c.publish.new.desk s c.args.moment a) (sym c.in-Publish.is)
    (λ leaves on. c.publish.ensures.rests clean s at on)

pub returns-in-Reject-clause-good : goal.returns-in-Reject-clause-good
returns-in-Reject-clause-good g c = subst (λ (a : Action). IsGood c.args.moment a) (sym c.in-Reject.is) tt

pub returns-in-Apply-clause-good : goal.returns-in-Apply-clause-good
returns-in-Apply-clause-good g c = subst (λ (a : Action). IsGood c.args.moment a) (sym c.in-Apply.is) c.act-answer.ensures.good

pub returns-in-Show-clause-good : goal.returns-in-Show-clause-good
returns-in-Show-clause-good g c = subst (λ (a : Action). IsGood c.args.moment a) (sym c.in-Show.is) tt

pub returns-in-Publish-clause-good : goal.returns-in-Publish-clause-good
returns-in-Publish-clause-good g c = subst (λ (a : Action). IsGood c.args.moment a) (sym c.in-Publish.is) tt

pub returns-in-Reject-clause-refuses : goal.returns-in-Reject-clause-refuses
returns-in-Reject-clause-refuses g c stopped =
    subst (λ (a : Action). Sends (g.W.Write.contents c.args.writer.now) (g.W.Write.contents c.write_answer.new.out) (refusal_of a) c.write_answer.result) (sym c.in-Reject.is)
    c.write_answer.ensures

pub returns-in-Apply-clause-refuses : goal.returns-in-Apply-clause-refuses
returns-in-Apply-clause-refuses g c stopped =
    subst (λ (a : Action). Sends (g.W.Write.contents c.args.writer.now) (g.W.Write.contents c.write_answer-in-Apply.new.out) (refusal_of a) c.write_answer-in-Apply.result) (sym c.in-Apply.is)
    (subst (λ (a : Answer). Sends (g.W.Write.contents c.args.writer.now) (g.W.Write.contents c.write_answer-in-Apply.new.out) a c.write_answer-in-Apply.result)
    (c.act-answer.ensures.refuses stopped) c.write_answer-in-Apply.ensures)

pub returns-in-Show-clause-refuses : goal.returns-in-Show-clause-refuses
returns-in-Show-clause-refuses g c stopped =
    subst (λ (a : Action). Sends (g.W.Write.contents c.args.writer.now) (g.W.Write.contents c.write_answer-in-Show.new.out) (refusal_of a) c.write_answer-in-Show.result) (sym c.in-Show.is)
    (subst (λ (a : Answer). Sends (g.W.Write.contents c.args.writer.now) (g.W.Write.contents c.write_answer-in-Show.new.out) a c.write_answer-in-Show.result)
    (c.show-answer.ensures.refuses stopped) c.write_answer-in-Show.ensures)

pub returns-in-Publish-clause-refuses : goal.returns-in-Publish-clause-refuses
returns-in-Publish-clause-refuses g c stopped =
    subst (λ (a : Action). Sends (g.W.Write.contents c.args.writer.now) (g.W.Write.contents c.publish.new.writer) (refusal_of a) c.publish.result) (sym c.in-Publish.is)
    (c.publish.ensures.refuses stopped)
