use Rattle.std.proofs.Common.{◌∙◌, IfSome, Option, Result, Err, ap, sym, subst}
use Rattle.bike_http_request.specs.declared.action.Action.{Action}
use Rattle.bike_http_request.specs.Received.{Received}
use Rattle.bike_http.specs.Telling.{Serves, Rests, Refuses}
use Rattle.bike_http.proofs.Again.{sends_again}
use Rattle.bike_http.specs.declared.exchange.Served.{Served}
use Rattle.bike_http.specs.declared.exchange.ServeFault.{ServeFault}
use Rattle.bike_http.proofs.Ends.{serves, is_done, refuses, never_done, leaves_tables, rests, stopped_refuses, stopped_unread}
use Rattle.bike_http.proofs.exchange.serve_one.Goals as goal

pub returns-in-Ok-Some-clause-served : goal.returns-in-Ok-Some-clause-served
returns-in-Ok-Some-clause-served g c clean s at =
    let received = subst (λ (o : Option Action). IfSome (g.R.Read.remaining c.args.reader.now) (λ bytes. Received bytes o)) c.in-Ok-Some.field-0-is c.in-Ok-Some.ensures.received in
    let d = c.respond.new.desk in
    subst (λ (r : Result Served ServeFault). Serves g.S.Store d s c.args.moment (g.R.Read.remaining c.args.reader.now) (g.W.Write.contents c.args.writer.now)
    (g.W.Write.contents c.respond.new.writer) r)
    (sym c.ended.ensures) (serves g.S.Store c.respond.new.desk s c.args.moment _ _ _ c.in-Ok-Some.asked received c.respond.ensures.good c.respond.result (c.respond.ensures.sent clean s at))

pub returns-in-Ok-Some-clause-done : goal.returns-in-Ok-Some-clause-done
returns-in-Ok-Some-clause-done g c clean s at is =
    let received = subst (λ (o : Option Action). IfSome (g.R.Read.remaining c.args.reader.now) (λ bytes. Received bytes o)) c.in-Ok-Some.field-0-is c.in-Ok-Some.ensures.received in
    is_done g.S.Store c.respond.new.desk s c.args.moment _ _ _ c.in-Ok-Some.asked received c.respond.ensures.good c.respond.result (c.respond.ensures.sent clean s at) (sym c.ended.ensures ∙ is)

pub returns-in-Ok-Some-clause-rests : goal.returns-in-Ok-Some-clause-rests
returns-in-Ok-Some-clause-rests g c =
    subst (λ (r : Result Served ServeFault). Rests c.args.desk.now c.respond.new.desk (g.W.Write.contents c.args.writer.now) (g.W.Write.contents c.respond.new.writer) r)
    (sym c.ended.ensures) (rests _ _ _ _ c.respond.result)

pub returns-in-Err-NoMemory-clause-served : goal.returns-in-Err-NoMemory-clause-served
returns-in-Err-NoMemory-clause-served g c clean s at =
    let d = c.args.desk.now in
    subst (λ (r : Result Served ServeFault). Serves g.S.Store d s c.args.moment (g.R.Read.remaining c.args.reader.now) (g.W.Write.contents c.args.writer.now)
    (g.W.Write.contents c.write_answer.new.out) r)
    (sym c.ended-in-Err-NoMemory.ensures) (refuses g.S.Store d s c.args.moment _ _ _ c.write_answer.result
    (c.in-Err-NoMemory.ensures.memory (ap Err c.in-Err-NoMemory.field-0-is)) at c.write_answer.ensures)

pub returns-in-Err-NoMemory-clause-done : goal.returns-in-Err-NoMemory-clause-done
returns-in-Err-NoMemory-clause-done g c clean s at is =
    never_done g.S.Store c.args.desk.now s c.args.moment _ _ _ c.write_answer.result c.write_answer.ensures (sym c.ended-in-Err-NoMemory.ensures ∙ is)

pub returns-in-Err-NoMemory-clause-rests : goal.returns-in-Err-NoMemory-clause-rests
returns-in-Err-NoMemory-clause-rests g c =
    subst (λ (r : Result Served ServeFault). Rests c.args.desk.now c.args.desk.now (g.W.Write.contents c.args.writer.now) (g.W.Write.contents c.write_answer.new.out) r)
    (sym c.ended-in-Err-NoMemory.ensures) (rests _ _ _ _ c.write_answer.result)

pub returns-in-Ok-Some-clause-refuses : goal.returns-in-Ok-Some-clause-refuses
returns-in-Ok-Some-clause-refuses g c stopped =
    let received = subst (λ (o : Option Action). IfSome (g.R.Read.remaining c.args.reader.now) (λ bytes. Received bytes o)) c.in-Ok-Some.field-0-is c.in-Ok-Some.ensures.received in
    subst (λ (r : Result Served ServeFault). Refuses (g.R.Read.remaining c.args.reader.now) (g.W.Write.contents c.args.writer.now) (g.W.Write.contents c.respond.new.writer) r)
    (sym c.ended.ensures) (stopped_refuses _ _ _ c.in-Ok-Some.asked received c.respond.result (c.respond.ensures.refuses stopped))

pub returns-in-Err-NoMemory-clause-refuses : goal.returns-in-Err-NoMemory-clause-refuses
returns-in-Err-NoMemory-clause-refuses g c stopped =
    subst (λ (r : Result Served ServeFault). Refuses (g.R.Read.remaining c.args.reader.now) (g.W.Write.contents c.args.writer.now) (g.W.Write.contents c.write_answer.new.out) r)
    (sym c.ended-in-Err-NoMemory.ensures) (stopped_unread _ _ _ c.write_answer.result (c.in-Err-NoMemory.ensures.memory (ap Err c.in-Err-NoMemory.field-0-is)) c.write_answer.ensures)

pub returns-in-Ok-Some-clause-again : goal.returns-in-Ok-Some-clause-again
returns-in-Ok-Some-clause-again g c clean s at first came =
    let received = subst (λ (o : Option Action). IfSome (g.R.Read.remaining c.args.reader.now) (λ bytes. Received bytes o)) c.in-Ok-Some.field-0-is c.in-Ok-Some.ensures.received in
    let d = c.respond.new.desk in
    sends_again g.S.Store d s c.args.moment _ _ _ first came c.ended.result
    (subst (λ (r : Result Served ServeFault). Serves g.S.Store d s c.args.moment (g.R.Read.remaining c.args.reader.now) (g.W.Write.contents c.args.writer.now)
    (g.W.Write.contents c.respond.new.writer) r)
    (sym c.ended.ensures) (serves g.S.Store c.respond.new.desk s c.args.moment _ _ _ c.in-Ok-Some.asked received c.respond.ensures.good c.respond.result (c.respond.ensures.sent clean s at)))

pub returns-in-Err-NoMemory-clause-again : goal.returns-in-Err-NoMemory-clause-again
returns-in-Err-NoMemory-clause-again g c clean s at first came =
    let d = c.args.desk.now in
    sends_again g.S.Store d s c.args.moment _ _ _ first came c.ended-in-Err-NoMemory.result
    (subst (λ (r : Result Served ServeFault). Serves g.S.Store d s c.args.moment (g.R.Read.remaining c.args.reader.now) (g.W.Write.contents c.args.writer.now)
    (g.W.Write.contents c.write_answer.new.out) r)
    (sym c.ended-in-Err-NoMemory.ensures) (refuses g.S.Store d s c.args.moment _ _ _ c.write_answer.result
    (c.in-Err-NoMemory.ensures.memory (ap Err c.in-Err-NoMemory.field-0-is)) at c.write_answer.ensures))

pub returns-in-Ok-Some-clause-tables : goal.returns-in-Ok-Some-clause-tables
returns-in-Ok-Some-clause-tables g c clean s at =
    let received = subst (λ (o : Option Action). IfSome (g.R.Read.remaining c.args.reader.now) (λ bytes. Received bytes o)) c.in-Ok-Some.field-0-is c.in-Ok-Some.ensures.received in
    leaves_tables g.S.Store c.args.desk.now c.respond.new.desk s c.args.moment (g.R.Read.remaining c.args.reader.now) c.in-Ok-Some.asked received
    (c.respond.ensures.rests clean s at)
