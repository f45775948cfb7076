-- A step keeps an operator sound, and so does every list of requests.
use Rattle.std.proofs.Common.{◌≡◌, ℕ, zero, suc, ◌-◌, ◌≤◌, List, [], ◌∷◌, ◌++◌, false, Option, Some, None, refl, sym, ap, ◌∙◌, subst, subst₂, arith, inl, inr, le_trans}
use Rattle.std.specs.Prelude.{max}
use Rattle.std.specs.Ordering.{eq_by_cmp}
use Rattle.bike_fixed.specs.Whole.{last_moment}
use Rattle.bike_commands.specs.declared.reply.Reply.{Reply}
use Rattle.bike_commands.specs.Replies.{IsReply}
use Rattle.bike_commands.specs.declared.refusal.Refusal.{Refusal}
use Rattle.bike_commands.specs.declared.request.Request.{Request}
use Rattle.bike_commands.specs.Requests.{IsRequest}
use Rattle.bike_operator.specs.Operator.{Operator, AcceptedRequest, Numbered, key_in, kept_under, texts_cmp, item_in, item_numbered, with_item}
use Rattle.bike_operator.specs.Steps.{refusal_of, reply_of}
use Rattle.bike_operator.specs.Runs.{Call, step, after, after_acceptance, outcome, outcome_with_kept}
use Rattle.bike_operator.specs.Sound.{is_refused, IsAccepted, IsHistory, IsSound, AreCalls}
use Rattle.bike_laws.proofs.SingleSteps.CatalogueLaw.{catalogue_law}
use Rattle.bike_laws.proofs.SingleSteps.NameLaw.{names_law}
use Rattle.bike_laws.proofs.SingleSteps.BikeLaw.{bikes_law}
use Rattle.bike_laws.proofs.SingleSteps.OrderLaw.{orders_law}
use Rattle.bike_laws.proofs.SingleSteps.ItemLemmas.{number_or_last, number_within}
use Rattle.bike_laws.proofs.RetryLemmas.{key_itself, none_under}
use Rattle.bike_laws.proofs.ReplyLemmas.{reply_good}
use Rattle.bike_laws.proofs.LedgerLaw.{ledger_law}
use Rattle.bike_laws.proofs.RentalLaw.{rentals_law}

-- ---- an accepted request

history_sound : (s : Operator) (q : Request) (now : ℕ) (reply : Reply) → IsHistory s.now s.history → IsRequest q → kept_under (key_in q) s.history.items ≡ None
    → IsReply reply → is_refused reply ≡ false → s.now ≤ now
    → IsHistory now (with_item (record { moment = now; request = q; reply = reply }) s.history)
history_sound s q now reply old good anew is_reply accepted later = record {
  requests = λ n a e. elim (number_or_last n s.history last a e) [
    | inl there ↦ let was = old.requests n a there in record { request = was.request; reply = was.reply; accepted = was.accepted; by_now = le_trans was.by_now later }
    | inr new ↦ subst (λ (x : AcceptedRequest). IsAccepted now x) (sym new.1) (record { request = good; reply = is_reply; accepted = accepted; by_now = omega arith })
  ];
  once = λ m n a b e f same. elim (number_or_last m s.history last a e) [
    | inl here ↦ elim (number_or_last n s.history last b f) [
      | inl there ↦ old.once m n a b here there same
      | inr new ↦ absurd (apart m a here (same ∙ ap (λ (x : AcceptedRequest). key_in x.request) new.1))
    ]
    | inr own ↦ elim (number_or_last n s.history last b f) [
      | inl there ↦ absurd (apart n b there (sym same ∙ ap (λ (x : AcceptedRequest). key_in x.request) own.1))
      | inr new ↦ own.0 ∙ sym new.0
    ]
  ];
  in_order = λ m n a b e f within. elim (number_or_last m s.history last a e) [
    | inl here ↦ elim (number_or_last n s.history last b f) [
      | inl there ↦ old.in_order m n a b here there within
      | inr new ↦ subst (λ (x : AcceptedRequest). a.moment ≤ x.moment) (sym new.1) (le_trans (old.requests m a here).by_now later)
    ]
    | inr own ↦ elim (number_or_last n s.history last b f) [
      | inl there ↦ let most = number_within n s.history b there in absurd (omega (arith, within, own.0, most))
      | inr new ↦ subst₂ (λ (x y : AcceptedRequest). x.moment ≤ y.moment) (sym own.1) (sym new.1) (omega arith)
    ]
  ];
} where
  last : AcceptedRequest
  last = record { moment = now; request = q; reply = reply }

  apart_in : (n : ℕ) (a : AcceptedRequest) → item_in n s.history.items ≡ Some a → key_in a.request ≡ key_in q → ⊥
  apart_in zero a e same = absurd cc
  apart_in (suc n) a e same =
      let other = none_under (key_in q) s.history.items n a anew e in
      let equal = ap (eq_by_cmp texts_cmp (key_in q)) same ∙ key_itself (key_in q) in cc

  apart : (n : ℕ) (a : AcceptedRequest) → item_numbered n s.history ≡ Some a → key_in a.request ≡ key_in q → ⊥
  apart n a e same = apart_in (n - s.history.archived) a e same

pub accepted_sound : (s : Operator) (now : ℕ) (q : Request) → IsSound s → IsRequest q → kept_under (key_in q) s.history.items ≡ None → refusal_of s q.command ≡ None
    → s.now ≤ now → now ≤ last_moment → IsSound (after_acceptance s now q)
accepted_sound s now q order good anew none later last =
    let history = (after_acceptance s now q).history in
    let reply = reply_good s now q.command order good.command none later in
    record {
      catalogue = catalogue_law s now q.command history order good.command none later;
      bikes = bikes_law s now q.command history order good.command none later;
      orders = orders_law s now q.command history order good.command none later;
      rentals = rentals_law s now q.command history order good.command none later;
      ledger = ledger_law s now q.command history order good.command none later;
      history = history_sound s q now (reply_of s now q.command) order.history good anew reply.0 reply.1 later;
      names = names_law s now q.command history order good.command none later;
      now = last;
    }

-- ---- a step

latest : (t now : ℕ) → t ≤ last_moment → now ≤ last_moment → (max t now ≤ last_moment) × (now ≤ max t now)
latest t now a b = (omega arith, omega arith)

decided_sound : (s : Operator) (t : ℕ) (q : Request) (o : Option Refusal) → t ≤ last_moment → IsRequest q → IsSound s → kept_under (key_in q) s.history.items ≡ None → refusal_of s q.command ≡ o
    → IsSound (outcome s (max t s.now) q o).1
decided_sound s t q (Some r) moment good order anew e = order
decided_sound s t q None moment good order anew e =
    let now = latest t s.now moment order.now in
    accepted_sound s (max t s.now) q order good anew e now.1 now.0

answered_sound : (s : Operator) (t : ℕ) (q : Request) (o : Option AcceptedRequest) → t ≤ last_moment → IsRequest q → IsSound s → kept_under (key_in q) s.history.items ≡ o
    → IsSound (outcome_with_kept s t q o).1
answered_sound s t q (Some a) moment good order is = order
answered_sound s t q None moment good order is = decided_sound s t q (refusal_of s q.command) moment good order is refl

pub step_sound : (s : Operator) (t : ℕ) (q : Request) → t ≤ last_moment → IsRequest q → IsSound s → IsSound (step s t q).1
step_sound s t q moment good order = answered_sound s t q (kept_under (key_in q) s.history.items) moment good order refl

-- ---- lists

pub lists_sound : (s : Operator) (cs : List Call) → AreCalls cs → IsSound s → IsSound (after s cs)
lists_sound s [] good order = order
lists_sound s (c ∷ cs) good order = lists_sound (step s c.0 c.1).1 cs good.1 (step_sound s c.0 c.1 good.0.moment good.0.request order)
