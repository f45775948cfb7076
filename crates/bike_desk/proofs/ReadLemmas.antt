-- What was read for a request whose key isn't kept.
use Rattle.std.proofs.Common.{◌≡◌, ◌≤◌, ℕ, None, Ok, sym, ap, subst, ◌∙◌, arith}
use Rattle.std.specs.Prelude.{max}
use Rattle.std.specs.FinMap as map
use Rattle.sqlite_trees.specs.declared.store.Store.{Ghosts}
use Rattle.sqlite.specs.State.{HasCleanDisk}
use Rattle.sqlite.specs.Held.{Held, state}
use Rattle.bike_fixed.specs.Whole.{last_moment}
use Rattle.bike_commands.specs.declared.command.Command.{Command}
use Rattle.bike_commands.specs.declared.request.Request.{Request}
use Rattle.bike_operator.specs.Operator.{Operator, key_in, kept_under}
use Rattle.bike_book.specs.Stored.{Listed}
use Rattle.bike_booking.specs.declared.figures.Figures.{Figures}
use Rattle.bike_booking.specs.Figures.{figures_of}
use Rattle.bike_schema.specs.declared.fault.StatementFault.{StatementFault}
use Rattle.bike_schema.specs.Answers.{Answers}
use Rattle.bike_schema.specs.Stands.{Keeps}
use Rattle.bike_views.specs.declared.figures.KnownFigures.{KnownFigures}
use Rattle.bike_views.specs.declared.view_and_docks.ViewAndDocks.{ViewAndDocks}
use Rattle.bike_views.specs.Known.{IsKnown}
use Rattle.bike_views.specs.Open.{AnswersOpen}
use Rattle.bike_views.specs.ViewAndDocks.{IsFoundFor}
use Rattle.bike_desk.specs.declared.remembered.DeskMemory.{DeskMemory}
use Rattle.bike_desk.specs.Desk.{AreFigures, IsRemembered}
use Rattle.bike_desk.specs.Serving.{IsReadFor, IsFoundIn}
use Rattle.bike_desk.proofs.KeepLemmas.{kept_ours, kept_stores, still}

-- equal requests have one command
pub asked_command : {p q : Request} → p ≡ q → p.command ≡ q.command
asked_command same = ap (λ (r : Request). r.command) same

module _ {S : Type 0} (g : Ghosts S) (old mid new : Held S) (s : Operator) (moment now : ℕ) (q : Request) (r : DeskMemory) (figures : Figures) (x : ViewAndDocks) where
  abbrev known : KnownFigures
  known = record { figures = figures; newest_tells = r.newest_tells }

  -- after both reads the connection keeps the operator, whose figures and view of the request's command they are
  pub both_read : (command : Command) → command ≡ q.command → Keeps (state g old) s → HasCleanDisk (state g new)
      → AnswersOpen g old mid {E = StatementFault} (Ok figures) (λ s m x. AreFigures r.figures s → x ≡ figures_of s)
      → Answers g mid new {E = StatementFault} (Ok x) (λ s m x. IsKnown s known → IsFoundFor s m command x)
      → IsRemembered s r → moment ≤ last_moment → now ≡ max moment figures.now → kept_under (key_in q) s.history.items ≡ None → Keeps (state g new) s × IsReadFor (state g new).now s moment now q figures x
  both_read command is keeps clean one seen remembers in_time later anew =
      let two = subst (λ (c : Command). Answers g mid new {E = StatementFault} (Ok x) (λ s m x. IsKnown s known → IsFoundFor s m c x)) is seen in
      let first = one.answers keeps.is_open in
      let early : HasCleanDisk (state g mid) = omega (arith, clean, two.quiet.survives.clean) in
      let are = first.found early (kept_ours (state g old) s keeps) s (kept_stores (state g old) s keeps) remembers.figures in
      let at = still g old mid s keeps early (first.same early (kept_ours (state g old) s keeps)) one.quiet in
      let same = two.same clean (kept_ours (state g mid) s at) in
      let found_for : IsFoundIn (state g mid).now s q.command x = λ h. two.found clean (kept_ours (state g mid) s at) s h (record { figures = are; newest = remembers.newest }) in (
        still g mid new s at clean same two.quiet,
        record {
          in_time = in_time;
          later = later ∙ ap (λ (f : Figures). max moment f.now) are;
          anew = anew;
          figures_are = are;
          view_is = (found_for (kept_stores (state g mid) s at)).view_is;
          found_for = subst (λ db. IsFoundIn db s q.command x) (sym same.0.now_is) found_for;
        },
      )

-- the database is as it was
module _ {S : Type 0} (g : Ghosts S) (old mid new : Held S) (s : Operator) where
  pub both_same : {X Y E : Type 0} {x : X} {y : Y} (first : Operator → Listed → X → Type 0) (second : Operator → Listed → Y → Type 0) → Keeps (state g old) s → HasCleanDisk (state g new)
      → AnswersOpen g old mid {E = E} (Ok x) first → Answers g mid new {E = E} (Ok y) second → (state g new).now ≡ (state g old).now
  both_same first second keeps clean one two =
      let early : HasCleanDisk (state g mid) = omega (arith, clean, two.quiet.survives.clean) in
      let before = (one.answers keeps.is_open).same early (kept_ours (state g old) s keeps) in
      let at = still g old mid s keeps early before one.quiet in
      (two.same clean (kept_ours (state g mid) s at)).0.now_is ∙ before.0.now_is
