-- No accepted request takes it from an operator that each open rental is its rider's newest.
use Rattle.std.proofs.Common.{◌≡◌, ◌⊎◌, ℕ, zero, suc, ◌+◌, ◌-◌, ◌≤◌, List, [], ◌∷◌, Bool, true, false, ◌&&◌, ◌==◌, Option, Some, None, refl, sym, ap, subst, ◌∙◌, arith, inl, inr}
use Rattle.std.specs.Prelude.{max}
use Rattle.std.specs.List.{list_any}
use Rattle.std.specs.FinMap as map
use Rattle.std.proofs.lemmas.Bool.{or_parts}
use Rattle.std.proofs.lemmas.Bool.Decides.{eqb_tells}
use Rattle.std.proofs.lemmas.Option.{same_Some}
use Rattle.bike_commands.specs.declared.command.Command.{Command}
use Rattle.bike_commands.specs.declared.command.Command.TheVariants as command
use Rattle.bike_commands.specs.declared.refusal.Refusal.{Refusal}
use Rattle.bike_commands.specs.declared.request.Request.{Request}
use Rattle.bike_operator.specs.declared.records.Rental.{Rental}
use Rattle.bike_operator.specs.declared.records.Closing.{Closing}
use Rattle.bike_operator.specs.declared.view.DockedBike.{DockedBike}
use Rattle.bike_operator.specs.declared.view.RentalView.{RentalView}
use Rattle.bike_operator.specs.Operator.{Operator, AcceptedRequest, Numbered, item_at, item_in, item_numbered, number_changed, last_number, with_item, key_in, kept_under}
use Rattle.bike_operator.specs.Counts.{is_open, is_riding, docked_at}
use Rattle.bike_operator.specs.View.{view_of, docked_view, rental_view, rental_of}
use Rattle.bike_operator.specs.Steps.{tests, refusal_of, plan_for, own_plan, after_start, after_end, after_recovery, refunded_by, effect}
use Rattle.bike_operator.specs.Runs.{step, outcome, outcome_with_kept}
use Rattle.bike_laws.proofs.SingleSteps.ItemLemmas.{number_or_last, number_within, IsTurned, Here, Elsewhere, number_turned}
use Rattle.bike_laws.proofs.SingleSteps.TestLemmas.{none_holds}
use Rattle.bike_laws.proofs.FoundLemmas.{closing_now, closed_by}
use Rattle.bike_laws.proofs.QuietLaw.{quiet_kind}
use Rattle.bike_office_reads.specs.Newest.{NewestTells}

-- ---- rentals as they were

same_tell : (s next : Operator) → next.rentals ≡ s.rentals → NewestTells s → NewestTells next
same_tell s next same tells a b q r i j = tells a b q r (before a q i) (before b r j) where
  before : (n : ℕ) (x : Rental) → item_numbered n next.rentals ≡ Some x → item_numbered n s.rentals ≡ Some x
  before n x i = ap (λ (rs : Numbered Rental). item_numbered n rs) (sym same) ∙ i

-- ---- a rental begins

not_any : (test : Rental → Bool) (n : ℕ) (xs : List Rental) (x : Rental) → list_any test xs ≡ false → item_at n xs ≡ Some x → test x ≡ false
not_any test n [] x none i = absurd cc
not_any test zero (y ∷ ys) x none i = subst (λ (z : Rental). test z ≡ false) (same_Some y x i) (or_parts (test y) (list_any test ys) none).0
not_any test (suc n) (y ∷ ys) x none i = not_any test n ys x (or_parts (test y) (list_any test ys) none).1 i

-- a rider who isn't riding has no open rental
none_open : (s : Operator) (rider n : ℕ) (x : Rental) → is_riding s rider ≡ false → item_numbered n s.rentals ≡ Some x → is_open x ≡ true → x.rider ≡ rider → ⊥
none_open s rider n x idle i ongoing his = at (n - s.rentals.archived) i where
  at : (k : ℕ) → item_in k s.rentals.items ≡ Some x → ⊥
  at zero found = absurd cc
  at (suc k) found =
      let test = not_any (λ r. (r.rider == rider) && is_open r) k s.rentals.items x idle found in
      let equal : (x.rider == rider) ≡ true = elim (eqb_tells x.rider rider) [ inl w ↦ w.0 | inr w ↦ absurd (w.1 his) ] in
      let holds : ((x.rider == rider) && is_open x) ≡ true = ap (λ (b : Bool). b && is_open x) equal ∙ ongoing in
      absurd cc

-- the new rental is the last, and the rider has no other that is open
added_tell : (s next : Operator) (x : Rental) → next.rentals ≡ with_item x s.rentals → is_riding s x.rider ≡ false → NewestTells s → NewestTells next
added_tell s next x is idle tells a b q r i j ongoing same = elim (now a q i) [
  | inl old ↦ elim (now b r j) [
    | inl also ↦ tells a b q r old also ongoing same
    | inr new ↦ absurd (none_open s x.rider a q idle old ongoing (sym same ∙ ap (λ (z : Rental). z.rider) new.1))
  ]
  | inr last ↦ elim (now b r j) [
    | inl old ↦ (let within = number_within b s.rentals r old in omega (arith, within, last.0))
    | inr new ↦ omega (arith, last.0, new.0)
  ]
] where
  now : (n : ℕ) (y : Rental) → item_numbered n next.rentals ≡ Some y → (item_numbered n s.rentals ≡ Some y) ⊎ (n ≡ last_number s.rentals + 1) × (y ≡ x)
  now n y k = number_or_last n s.rentals x y (ap (λ (rs : Numbered Rental). item_numbered n rs) (sym is) ∙ k)

-- ---- a rental ends

-- it is open no more, and each other one stays as it was
closed_tell : (s next : Operator) (n : ℕ) (c : Closing) → next.rentals ≡ number_changed n (closed_by c) s.rentals → NewestTells s → NewestTells next
closed_tell s next n c is tells a b q r i j ongoing same = by (number_turned n (closed_by c) s.rentals a q (now a q i)) (number_turned n (closed_by c) s.rentals b r (now b r j))
  where
    now : (k : ℕ) (y : Rental) → item_numbered k next.rentals ≡ Some y → item_numbered k (number_changed n (closed_by c) s.rentals) ≡ Some y
    now k y h = ap (λ (rs : Numbered Rental). item_numbered k rs) (sym is) ∙ h

    by : IsTurned (closed_by c) n a (item_numbered n s.rentals) (item_numbered a s.rentals) q → IsTurned (closed_by c) n b (item_numbered n s.rentals) (item_numbered b s.rentals) r → b ≤ a
    by (Here x at found turned) other = absurd (let shut : is_open q ≡ false = ap (λ (z : Rental). is_open z) turned in cc)
    by (Elsewhere apart found) (Here x at there turned) =
        let his : x.rider ≡ q.rider = ap (λ (z : Rental). z.rider) (sym turned) ∙ same in
        let below = tells a n q x found there ongoing his in
        omega (arith, below, at)
    by (Elsewhere apart found) (Elsewhere far there) = tells a b q r found there ongoing same

-- ---- each kind of command

started : (s : Operator) (now rider : ℕ) (station : List ℕ) (o : Option DockedBike) → is_riding s rider ≡ false → NewestTells s → NewestTells (after_start rider station now o s)
started s now rider station None idle tells = tells
started s now rider station (Some b) idle tells =
    added_tell s (after_start rider station now (Some b) s)
    (record { rider = rider; bike = b.bike; plan = plan_for (own_plan (map.get s.riders rider)) b.plan; from_station = station; start = now; closing = None }) refl idle tells

ended : (s : Operator) (now bike : ℕ) (station : List ℕ) (dock : ℕ) (o : Option RentalView) → NewestTells s → NewestTells (after_end bike station dock now o s)
ended s now bike station dock None tells = tells
ended s now bike station dock (Some r) tells = closed_tell s (after_end bike station dock now (Some r) s) r.number (closing_now r (Some station) now) refl tells

recovered : (s : Operator) (now : ℕ) (o : Option RentalView) → NewestTells s → NewestTells (after_recovery now o s)
recovered s now None tells = tells
recovered s now (Some r) tells = closed_tell s (after_recovery now (Some r) s) r.number (closing_now r None now) refl tells

refunded : (s : Operator) (now amount : ℕ) (o : Option RentalView) → NewestTells s → NewestTells (refunded_by amount now o s)
refunded s now amount None tells = tells
refunded s now amount (Some r) tells = same_tell s (refunded_by amount now (Some r) s) refl tells

effect_tells : (s : Operator) (now : ℕ) (c : Command) → refusal_of s c ≡ None → NewestTells s → NewestTells (effect s now c)
effect_tells s now (command.TopUp rider amount) none tells = same_tell s (effect s now (command.TopUp rider amount)) refl tells
effect_tells s now (command.Start rider station dock) none tells =
    let free = none_holds (tests (view_of s (command.Start rider station dock)) (command.Start rider station dock)) none in
    started s now rider station (docked_view s (docked_at s station dock)) free.1.1.1.0 tells
effect_tells s now (command.End bike station dock) none tells = ended s now bike station dock (rental_of s (map.get s.bikes bike)) tells
effect_tells s now (command.Recover rental) none tells = recovered s now (rental_view s rental (item_numbered rental s.rentals)) tells
effect_tells s now (command.Refund rental amount) none tells = refunded s now amount (rental_view s rental (item_numbered rental s.rentals)) tells
effect_tells s now c none tells = same_tell s (effect s now c) (quiet_kind s now c refl none).rentals tells

-- ---- a step

decided : (s : Operator) (now : ℕ) (q : Request) (o : Option Refusal) → refusal_of s q.command ≡ o → NewestTells s → NewestTells (outcome s now q o).1
decided s now q (Some r) is tells = tells
decided s now q None is tells = effect_tells s now q.command is tells

answered : (s : Operator) (t : ℕ) (q : Request) (o : Option AcceptedRequest) → NewestTells s → NewestTells (outcome_with_kept s t q o).1
answered s t q (Some k) tells = tells
answered s t q None tells = decided s (max t s.now) q (refusal_of s q.command) refl tells

-- A request leaves each open rental its rider's newest.
pub step_tells : (s : Operator) (t : ℕ) (q : Request) → NewestTells s → NewestTells (step s t q).1
step_tells s t q tells = answered s t q (kept_under (key_in q) s.history.items) tells
