-- One step, as serving takes it.
use Rattle.std.proofs.Common.{◌≡◌, ℕ, ◌+◌, ◌≤◌, List, cond, Option, Some, None, Result, Ok, Err, sym, ap, ap₂, ◌∙◌, subst}
use Rattle.std.specs.Prelude.{IfSome, is_none, ◌&&◌, max, string_bytes}
use Rattle.std.specs.Option.{ok_or}
use Rattle.std.specs.Str.{bytes_eq}
use Rattle.std.specs.FinMap as map
use native.Mathlib.Nat.{le-max_right}
use Rattle.sqlite_trees.specs.declared.store.Store.{Ghosts}
use Rattle.sqlite.specs.State.{State, HasCleanDisk}
use Rattle.sqlite.specs.Held.{Held, state}
use Rattle.bike_fixed.specs.Whole.{last_moment}
use Rattle.bike_commands.specs.declared.command.Command.{Command}
use Rattle.bike_commands.specs.declared.request.Request.{Request}
use Rattle.bike_commands.specs.declared.reply.Reply.{Reply}
use Rattle.bike_commands.specs.declared.reply.Reply.TheVariants.{Refused}
use Rattle.bike_commands.specs.declared.refusal.Refusal.{Refusal}
use Rattle.bike_commands.specs.declared.refusal.Refusal.TheVariants as refusal
use Rattle.bike_commands.specs.Commands.{text_of}
use Rattle.bike_commands.specs.Requests.{IsRequest}
use Rattle.sqlite.specs.Effect.{Database}
use Rattle.bike_views.specs.declared.view_and_docks.StationDocks.{StationDocks}
use Rattle.bike_views.specs.declared.view_and_docks.ViewAndDocks.{ViewAndDocks}
use Rattle.bike_views.specs.ViewAndDocks.{docks_for, told_of}
use Rattle.bike_views.specs.Open.{AnswersOpen}
use Rattle.bike_operator.specs.Operator.{Operator, AcceptedRequest, key_in, kept_under}
use Rattle.bike_operator.specs.Sound.{IsSound}
use Rattle.bike_operator.specs.Steps.{refusal_of, reply_of}
use Rattle.bike_operator.specs.Runs.{step, outcome_with_kept, outcome, after_acceptance}
use Rattle.bike_laws.proofs.OrderLemmas.{step_sound}
use Rattle.bike_laws.proofs.RetryLemmas.{first_kept}
use Rattle.bike_book.specs.declared.row_change.RowChange.{RowChange}
use Rattle.bike_book.specs.Stored.{Listed, IsListing}
use Rattle.bike_schema.specs.Stands.{Stores, Keeps}
use Rattle.bike_office_reads.specs.declared.kept.KeptRow.{KeptRow}
use Rattle.bike_office_reads.specs.Accounts.{KeepsSame}
use Rattle.bike_accepted.specs.declared.accepted.Accepted.{Accepted}
use Rattle.bike_accepted.specs.Effects.{Decides}
use Rattle.bike_accepted.specs.Found.{AreFound}
use Rattle.bike_booking.specs.declared.stored.Stored.{Stored}
use Rattle.bike_booking.specs.declared.texts.KeptTexts.{KeptTexts}
use Rattle.bike_booking.specs.Stored.{IsMovedStored}
use Rattle.bike_booking.specs.declared.figures.Figures.{Figures}
use Rattle.bike_booking.specs.Figures.{figures_of, figures_after, FiguresFollow}
use Rattle.bike_booking.specs.Booking.{IsAccepted, AreTexts, Books}
use Rattle.bike_booking.proofs.NextFigures.{figures_next}
use Rattle.bike_schema.specs.declared.fault.StatementFault.{StatementFault}
use Rattle.bike_desk.specs.Serving.{IsNextBy, AreDocksIn, IsReadFor, IsAcceptedIn, Accepts}
use Rattle.bike_desk.proofs.KeepLemmas.{kept_ours, still}

module _ (s : Operator) (t : ℕ) (q : Request) where
  -- a kept key
  pub step_kept : (o : Option AcceptedRequest) (row : KeptRow) (text : List ℕ) → kept_under (key_in q) s.history.items ≡ o → KeepsSame o (Some row) → text ≡ text_of q.command
      → (cond (bytes_eq (string_bytes row.command) text) row.reply (Refused refusal.KeyReused) ≡ (step s t q).0) × (s ≡ (step s t q).1)
  step_kept None row text found same is = absurd same
  step_kept (Some k) row text found same is =
      let is_step = ap (outcome_with_kept s t q) found in (
        ap₂ (λ c r. cond (bytes_eq c text) r (Refused refusal.KeyReused)) same.0 same.1 ∙ ap (λ x. cond (bytes_eq (text_of k.request.command) x) k.reply (Refused refusal.KeyReused)) is
            ∙ sym (ap (λ (p : Reply × Operator). p.0) is_step),
        sym (ap (λ (p : Reply × Operator). p.1) is_step),
      )

  pub none_kept : (o : Option AcceptedRequest) → kept_under (key_in q) s.history.items ≡ o → KeepsSame o None → kept_under (key_in q) s.history.items ≡ None
  none_kept None found same = found
  none_kept (Some k) found same = absurd same

  module _ (now : ℕ) (later : now ≡ max t s.now) (anew : kept_under (key_in q) s.history.items ≡ None) where
    -- a refusal
    pub step_refused : (r : Refusal) → Decides s now q.command (Err r) → step s t q ≡ (Refused r, s)
    step_refused r decides = ap (outcome_with_kept s t q) anew ∙ ap (outcome s (max t s.now) q) decides

    -- an acceptance
    pub step_accepted : refusal_of s q.command ≡ None → step s t q ≡ (reply_of s now q.command, after_acceptance s now q)
    step_accepted free =
        ap (outcome_with_kept s t q) anew ∙ ap (outcome s (max t s.now) q) free ∙ ap (λ (n : ℕ). let p : Reply × Operator = (reply_of s n q.command, after_acceptance s n q) in p) (sym later)

    -- the operator after it is sound
    pub accepted_sound : t ≤ last_moment → IsRequest q → IsSound s → refusal_of s q.command ≡ None → IsSound (after_acceptance s now q)
    accepted_sound moment good order free = subst (λ (p : Reply × Operator). IsSound p.1) (step_accepted free) (step_sound s t q moment good order)

-- an accepted request keeps its key, so it doesn't leave the operator as it was
pub acceptance_moves : (s : Operator) (t : ℕ) (q : Request) → kept_under (key_in q) s.history.items ≡ None → refusal_of s q.command ≡ None → (step s t q).1 ≡ s → ⊥
acceptance_moves s t q anew free same =
    let kept = first_kept s t q (ap₂ (λ k r. is_none k && is_none r) anew free) in
    let none : kept_under (key_in q) (step s t q).1.history.items ≡ None = ap (λ (o : Operator). kept_under (key_in q) o.history.items) same ∙ anew in cc

-- what is booked leads on
pub booked_next : (c : State) (s : Operator) (now : ℕ) (q : Request) (h : Stores c.now s) (rows : List RowChange) → Keeps c s → IsSound (after_acceptance s now q) → Books rows s h.listed now q
    → IsNextBy c rows s (after_acceptance s now q)
booked_next c s now q h rows keeps sound books = record { keeps = keeps; stores = h; listed = books.listed; leads = books.leads; sound = sound }

-- an acceptance of which is known what is stored
pub accepts_stored : (s : Operator) (m : Listed) (now : ℕ) (q : Request) (a : Accepted) (after : Figures) (texts : KeptTexts) (n : Stored)
    → IsSound s → IsListing s m → Accepts s now q a after texts → IfSome a.moved (IsMovedStored s m n) → IsAccepted s m now q a n after.requests texts
accepts_stored s m now q a after texts n sound listing it moved = record {
  sound = sound;
  listing = listing;
  later = it.later;
  decides = it.decides;
  found = it.found;
  stored = moved;
  number_is = it.number_is;
  texts_are = it.texts_are;
  sound_after = it.sound_after;
}

-- what is stored was read of what an accepted request moves
module _ {S : Type 0} (g : Ghosts S) (old new : Held S) (s : Operator) (a : Accepted) (docks : Option StationDocks) (n : Stored) (keeps : Keeps (state g old) s) (seen : HasCleanDisk (state g new))
    (read : AnswersOpen g old new {E = StatementFault} (Ok n) (λ s m n. (c : Command) → told_of docks ≡ docks_for s m c → IfSome a.moved (IsMovedStored s m n))) where
  -- the database is as it was
  pub stored_same : (state g new).now ≡ (state g old).now
  stored_same = ((read.answers keeps.is_open).same seen (kept_ours (state g old) s keeps)).0.now_is

  -- after it the connection keeps the operator, and what was read is what is stored
  pub stored_read : (now : ℕ) (q : Request) (after : Figures) (texts : KeptTexts) → AreDocksIn (state g old).now s q.command docks → Accepts s now q a after texts
      → Keeps (state g new) s × IsAcceptedIn (state g new).now s now q a n after.requests texts
  stored_read now q after texts found it =
      let ours = kept_ours (state g old) s keeps in
      let answered = read.answers keeps.is_open in
      let told : IsAcceptedIn (state g old).now s now q a n after.requests texts =
      λ h. accepts_stored s h.listed now q a after texts n h.sound h.listing it (answered.found seen ours s h q.command (found h)) in (
        still g old new s keeps seen (answered.same seen ours) read.quiet,
        subst (λ db. IsAcceptedIn db s now q a n after.requests texts) (sym stored_same) told,
      )

-- what is there is so where the other wasn't answered
pub found_there : {X E : Type 0} (o : Option X) {x : X} (e : E) → ◌≡◌ {A = Result X E} (Ok x) (ok_or o e) → o ≡ Some x
found_there None e is = absurd cc
found_there (Some y) {x} e is = let same : x ≡ y = cc in ap Some (sym same)

-- the operator accepts a request by the decision on what was read for it
pub accepts_read : (db : Database) (s : Operator) (t now : ℕ) (q : Request) (figures : Figures) (x : ViewAndDocks) (a : Accepted) (later : Figures) (texts : KeptTexts) → IsSound s
    → IsReadFor db s t now q figures x → IsRequest q
    → Decides s now q.command (Ok a) → AreFound now s a → figures_after figures now a ≡ Some later → AreTexts s now q texts → Accepts s now q a later texts
accepts_read db s t now q figures x a later texts sound it good decides found after told = record {
  later = subst (λ (k : ℕ). s.now ≤ k) (sym it.later) (le-max_right t s.now);
  decides = decides;
  found = found;
  number_is = ap (λ (f : Figures). f.requests) (figures_next figures now a after) ∙ ap (λ (f : Figures). f.requests + 1) it.figures_are;
  sound_after = accepted_sound s t q now it.later it.anew it.in_time good sound decides.0;
  texts_are = told;
}

-- and the figures after it are the operator's
pub figures_read : (s : Operator) (now : ℕ) (q : Request) (a : Accepted) {figures later : Figures} → FiguresFollow → figures ≡ figures_of s → Decides s now q.command (Ok a) → AreFound now s a
    → figures_after figures now a ≡ Some later → later ≡ figures_of (after_acceptance s now q)
figures_read s now q a {later = later} follow are decides found after = follow s now q a later decides found (subst (λ (f : Figures). figures_after f now a ≡ Some later) are after)
