use Rattle.std.proofs.Common.{Some, None, refl, arith}
use Rattle.bike_batch.specs.Answers.{IsReadAs}
use Rattle.bike_batch.proofs.LineLemmas.{read_as, goes_on, replies_at, keeps_database}
use Rattle.bike_batch.proofs.lines.reply_to.Goals as goal

pub returns-in_default : goal.returns-in_default
returns-in_default g c =
    let read : IsReadAs c.args.line.now None = rw c.in_default.is at (read_as c.args.line.now c.in_ok-call.field-0 c.in_ok-call.ensures.found c.in_ok-call.ensures.only) in
    record { clean = omega arith; goes_on = λ on. on; replied = λ clean s at. (None, read, refl, at); rests = λ clean s at none other. refl }

pub returns : goal.returns
returns g c =
    let read : IsReadAs c.args.line.now (Some c.in-Some.call) = rw c.in-Some.is at (read_as c.args.line.now c.in_ok-call.field-0 c.in_ok-call.ensures.found c.in_ok-call.ensures.only) in
    let it = c.apply-reply.ensures in
    record {
      clean = it.clean;
      goes_on = λ on. goes_on g.S.Store c.args.desk.now c.apply-reply.new.self c.apply-reply.result on it.goes_on it.no_memory it.stops it.stopped;
      replied =
          λ clean s at. replies_at g.S.Store c.args.desk.now c.apply-reply.new.self c.args.line.now c.in-Some.call s c.apply-reply.result read at (it.ok clean s at) it.no_memory
          (it.store_failed clean s at) it.stopped;
      rests =
          λ clean s at none. keeps_database g.S.Store c.args.desk.now c.apply-reply.new.self c.args.line.now c.in-Some.call s c.apply-reply.result read none
          (it.rests clean s at) it.no_memory it.stopped it.stays;
    }
