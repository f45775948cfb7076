-- What is told of a feed.
use Rattle.std.proofs.Common.{◌≡◌, inl, ℕ, ◌<◌, ◌++◌, List, [], Option, Some, Result, Ok, Err, IsErrAnd, length, take, refl, sym, ap, ◌∙◌, arith, length-append}
use Rattle.std.proofs.lemmas.Bool.{both_ways}
use Rattle.std.proofs.lemmas.List.{take-append-le}
use Rattle.sqlite_trees.specs.declared.store.Store.{Ghosts}
use Rattle.sqlite.specs.State.{HasCleanDisk}
use Rattle.bike_stream.specs.Writing.{AppendsFront}
use Rattle.bike_stream.specs.declared.write.WriteFault.{WriteFault}
use Rattle.bike_http_response.specs.declared.status.Status.{Status}
use Rattle.bike_operator.specs.Operator.{Operator}
use Rattle.bike_feed_texts.specs.declared.feed.Feed.{Feed}
use Rattle.bike_desk.specs.declared.fault.DeskFault.TheVariants.{NoMemory, StoreFailed, Stopped}
use Rattle.bike_desk.specs.Desk.{DeskValue, desk_state, IsAt}
use Rattle.bike_feeds.specs.Publishing.{feed_text, IsPublished, LeavesDesk}
use Rattle.bike_feeds.specs.declared.fault.FeedFault.{FeedFault}
use Rattle.bike_feeds.specs.declared.fault.FeedFault.TheVariants.{SystemMissing, Write, Desk}
use Rattle.bike_http.specs.Exchange.{published, feed_head, feed_response}
use Rattle.bike_http.specs.Telling.{IsUndone, SendsText, Responds}
use Rattle.bike_http.proofs.Told.{at_first}

pub front_of_first : (a b : Option (List ℕ)) (x y : List ℕ) → AppendsFront a b x → AppendsFront a b (x ++ y)
front_of_first a b x y h =
    let low : h.0 < length (x ++ y) = omega (arith, length-append x y, h.1) in
    let same : take h.0 (x ++ y) ≡ take h.0 x = take-append-le h.0 x y (omega (arith, h.1)) in
    (h.0, low, rw same h.2)

-- a write that failed cuts the text off
pub cut_off : (before after : Option (List ℕ)) (text : List ℕ) (fault : WriteFault) (r : Result Status WriteFault) → IsErrAnd r (λ told. told ≡ fault)
    → AppendsFront before after (feed_head text ++ text) → SendsText before after text r
cut_off before after text fault (Ok status) told front = absurd told
cut_off before after text fault (Err other) told front = front

-- the desk after a feed that failed
pub feed_undone : {S A : Type 0} (g : Ghosts S) (old new : DeskValue S) (s next : Operator) (e : FeedFault) → HasCleanDisk (desk_state g new) → IsAt g old s
    → LeavesDesk g old new {A = A} (Err e) → IsUndone g new s next
feed_undone g old new s next SystemMissing clean at h = at_first g new s next (h.missing clean s at refl).1
feed_undone g old new s next Write clean at h = at_first g new s next (h.write clean s at refl)
feed_undone g old new s next (Desk NoMemory) clean at h = at_first g new s next (h.no_memory clean s at refl)
feed_undone g old new s next (Desk StoreFailed) clean at h =
    record { goes_on = λ going. absurd (both_ways new.is_stopped going (h.stops refl)); left = λ db k. inl (at.keeps.left db (h.left clean s at db k)) }
feed_undone g old new s next (Desk Stopped) clean at h = absurd (both_ways old.is_stopped at.goes_on (h.stopped refl))

-- a feed whose text was held: what is held is its text, and it was sent behind its head
module _ {S : Type 0} (g : Ghosts S) (d : DeskValue S) (s : Operator) (feed : Feed) (t : ℕ) (held : List ℕ) (published_to : IsPublished s feed t (Some []) (Some held)) where
  is_held : held ≡ feed_text s published_to.0 feed t
  is_held = published_to.2

  is_response : feed_response s t feed s.system ≡ published held
  is_response = ap (feed_response s t feed) published_to.1 ∙ ap published (sym is_held)

  pub held_feed : (before after : Option (List ℕ)) (r : Result Status WriteFault) → SendsText before after held r → IsAt g d s
      → Responds g d s (feed_response s t feed s.system) s before after r
  held_feed before after (Ok status) h at = (published held, inl (sym is_response, at), h.0, h.1)
  held_feed before after (Err fault) h at = (published held, inl (sym is_response, at), h)
