-- The lines of a history spell its requests.
use Rattle.std.proofs.Common.{◌≡◌, ℕ, zero, suc, ◌+◌, ◌-◌, ◌≤◌, List, [], ◌∷◌, ◌++◌, drop, Some, refl, sym, ap, ◌∙◌, subst, arith, append_assoc, inl, inr}
use Rattle.std.specs.Prelude.{map}
use Rattle.std.proofs.lemmas.Bool.Decides.{eqb_tells}
use Rattle.bike_fixed.specs.Whole.{last_moment}
use Rattle.bike_requests.specs.Lines.{line_text, HasNoFeed}
use Rattle.bike_requests.proofs.LineAgain.{line_again, line_fits}
use Rattle.bike_operator.specs.Operator.{Operator, AcceptedRequest, item_at}
use Rattle.bike_operator.specs.Sound.{IsSound, IsAccepted}
use Rattle.bike_laws.specs.History.{calls_of}
use Rattle.bike_laws.proofs.SingleSteps.ItemLemmas.{number_of_place}
use Rattle.bike_stream.specs.Lines.{lines_of, IsFree}
use Rattle.bike_stream.proofs.LineLemmas.{lines_ended}
use Rattle.bike_batch.specs.Again.{lines_again, history_text}
use Rattle.bike_batch.specs.Answers.{AreReadAs}
use Rattle.bike_batch.proofs.PageLemmas.{texts_from, text_behind}

-- ---- each accepted request is one of the program

abbrev AllAccepted : ℕ → List AcceptedRequest → Type 0
AllAccepted now [] = Unit {0}
AllAccepted now (a ∷ history) = IsAccepted now a × AllAccepted now history

all_accepted : (now : ℕ) (history : List AcceptedRequest) → ((place : ℕ) (a : AcceptedRequest) → item_at place history ≡ Some a → IsAccepted now a)
    → AllAccepted now history
all_accepted now [] each = tt
all_accepted now (a ∷ history) each = (each 0 a refl, all_accepted now history (λ place b is. each (suc place) b is))

accepted_behind : (now n : ℕ) (history : List AcceptedRequest) → AllAccepted now history → AllAccepted now (drop n history)
accepted_behind now zero history all = all
accepted_behind now (suc n) [] all = tt
accepted_behind now (suc n) (a ∷ history) all = accepted_behind now n history all.1

-- ---- lines

free_of : (text : List ℕ) → HasNoFeed text → IsFree text
free_of [] none = refl
free_of (b ∷ text) none = elim (eqb_tells b 10) [
  | inl is ↦ absurd (cc (rw is.0 at none))
  | inr isnt ↦ rw isnt.0 (free_of text (rw isnt.0 at none))
]

read_again : (now a : ℕ) (history : List AcceptedRequest) → now ≤ last_moment → AllAccepted now history
    → AreReadAs (lines_of (lines_again (texts_from a history))) (map Some (calls_of history))
read_again now a [] past all = tt
read_again now a (x ∷ history) past all =
    let good = all.0.request in
    let by_last : x.moment ≤ last_moment = omega (arith, past, all.0.by_now) in
    let line = line_text x.moment x.request in
    let rest = lines_again (texts_from (suc a) history) in
    let free = free_of line (line_fits x.moment x.request by_last good).unbroken in
    let parted : lines_of ((line ++ 10 ∷ []) ++ rest) ≡ line ∷ lines_of rest = ap lines_of (append_assoc line (10 ∷ []) rest) ∙ lines_ended line rest free in
    subst (λ (lines : List (List ℕ)). AreReadAs lines (map Some (calls_of (x ∷ history)))) (sym parted)
    ((line_again x.moment x.request by_last good, good, by_last), read_again now (suc a) history past all.1)

pub history_lines : (s : Operator) (number : ℕ) → IsSound s
    → AreReadAs (lines_of (history_text s number)) (map Some (calls_of (drop (number - s.history.archived) s.history.items)))
history_lines s number sound =
    let passed = number - s.history.archived in
    let each = all_accepted s.now s.history.items
    (λ place a is. sound.history.requests (s.history.archived + suc place) a (number_of_place place s.history a is)) in
    let all = accepted_behind s.now passed s.history.items each in
    subst (λ (text : List ℕ). AreReadAs (lines_of text) (map Some (calls_of (drop passed s.history.items)))) (sym (text_behind s number))
    (read_again s.now (suc (s.history.archived + passed)) (drop passed s.history.items) sound.now all)
