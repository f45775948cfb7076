use Rattle.std.proofs.Common.{rules, refl}
use Rattle.sqlite.specs.Held.{state}
use Rattle.bike_schema.specs.Indexes.{HasRoom}
use Rattle.bike_schema.specs.Tables.{HasNone}
use Rattle.bike_audit.proofs.AdoptLemmas.{in_left, want_of}
use Rattle.bike_audit.proofs.FoundLemmas.{stays_left, still_stands}
use Rattle.bike_audit.proofs.LookLemmas.{looks, looks_full}
use Rattle.bike_audit.proofs.looking.look.Goals as goal

pub returns-then-has_room : goal.returns-then-has_room
returns-then-has_room g c =
    let settled = c.is_at_rest.ensures.settled in
    let none : HasNone (state g.S.Store c.args.conn).now.schema = search rules in
    let free : HasRoom (state g.S.Store c.args.conn).now.schema = search rules in
    record {
      clean = search rules;
      seen = λ clean. (refl, none);
      room = λ _. free;
      refused = λ s stands. tt;
      told = tt;
      autocommit = c.requires;
      stays = λ clean db h. h;
      left = λ s stands opened clean. in_left g.S.Store g.met.S.Store.settled c.args.conn settled s stands opened;
    }

pub returns-then-has_none : goal.returns-then-has_none
returns-then-has_none g c = rw c.failed.ensures (looks_full g.S.Store g.met.S.Store.settled c.args.conn c.requires c.is_at_rest.ensures.settled)

pub returns-in-Ok : goal.returns-in-Ok
returns-in-Ok g c =
    let settled = c.is_at_rest.ensures.settled in
    let some : ¬ HasNone (state g.S.Store c.args.conn).now.schema = search rules in
    rw c.seen_as.ensures (looks g.S.Store g.met.S.Store.settled c.args.conn c.audit.new.conn c.requires settled c.is_at_rest.ensures.live some c.in-Ok.finding c.in-Ok.ensures.audited)

pub returns-in-Err : goal.returns-in-Err
returns-in-Err g c =
    let settled = c.is_at_rest.ensures.settled in
    let read = c.in-Err.ensures.audited in
    record {
      clean = search rules;
      seen = search rules;
      room = λ none. search rules;
      refused = λ s stands. rw c.failed-in-Err.ensures (λ clean. want_of c.in-Err.fault);
      told = search rules;
      autocommit = search rules;
      stays = rw c.failed-in-Err.ensures (stays_left g.S.Store g.met.S.Store.settled c.args.conn c.audit.new.conn c.requires settled c.is_at_rest.ensures.live read.quiet);
      left =
          λ s stands opened. rw c.failed-in-Err.ensures
          (still_stands g.S.Store g.met.S.Store.settled c.args.conn c.audit.new.conn c.requires settled c.is_at_rest.ensures.live read.quiet s stands opened);
    }
