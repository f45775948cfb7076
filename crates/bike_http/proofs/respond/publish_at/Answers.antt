use Rattle.std.proofs.Common.{inl, inr, sym, ap, refl}
use Rattle.bike_http_response.specs.declared.answer.Answer.TheVariants as answer
use Rattle.bike_http.specs.Shown.{not_found}
use Rattle.bike_http.specs.Exchange.{feed_response}
use Rattle.bike_http.proofs.Told.{responds}
use Rattle.bike_http.proofs.Feeds.{feed_undone, held_feed}
use Rattle.bike_http.proofs.respond.publish_at.Goals as goal

pub returns-in-Ok-clause-sent : goal.returns-in-Ok-clause-sent
returns-in-Ok-clause-sent g c clean s at =
    let h = c.in-Ok.ensures in
    let none = c.new-text.ensures.items in
    let held = rw none at h.whole clean s at in
    let sent = rw c.as_slice.ensures.value at c.send_text.ensures in
    held_feed g.S.Store c.write_feed.new.desk s c.args.feed c.args.moment _ held _ _ _ sent (h.desk.same clean s at)

pub returns-in-Err-SystemMissing-clause-sent : goal.returns-in-Err-SystemMissing-clause-sent
returns-in-Err-SystemMissing-clause-sent g c clean s at =
    let h = rw c.in-Err-SystemMissing.field-0-is at c.in-Err-SystemMissing.ensures in
    let none = h.desk.missing clean s at refl in
    responds g.S.Store c.write_feed.new.desk s s _ not_found _ _ c.write_answer.result (inl (sym (ap (feed_response s c.args.moment c.args.feed) none.0), none.1)) c.write_answer.ensures

pub returns : goal.returns
returns g c =
    let h = c.in-Err.ensures in
    record {
      clean = h.desk.clean;
      sent = λ clean s at. responds g.S.Store c.write_feed.new.desk s s _ answer.Unavailable _ _ c.write_answer-in-Err.result
          (inr (refl, feed_undone g.S.Store c.args.desk.now c.write_feed.new.desk s s c.in-Err.field-0 clean at h.desk)) c.write_answer-in-Err.ensures;
      rests = h.desk.rests;
      stays = λ is_stopped. (h.desk.stays is_stopped).1;
      refuses = λ is_stopped. c.write_answer-in-Err.ensures;
    }

pub returns-in-Ok-clause-rests : goal.returns-in-Ok-clause-rests
returns-in-Ok-clause-rests g c = c.in-Ok.ensures.desk.rests

pub returns-in-Err-SystemMissing-clause-rests : goal.returns-in-Err-SystemMissing-clause-rests
returns-in-Err-SystemMissing-clause-rests g c = c.in-Err-SystemMissing.ensures.desk.rests
