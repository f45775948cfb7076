-- A bicycle put: what each number of each station becomes.
use Rattle.std.proofs.Common.{◌≡◌, ℕ, ◌+◌, Bool, Option, Some, None, refl, ap, ap₂, ◌∙◌, arith}
use Rattle.std.specs.Ordering.{nat_cmp}
use Rattle.std.specs.FinMap as map
use Rattle.std.specs.FinMap.{FinMap}
use Rattle.std.specs.FinSet.{FinSet}
use Rattle.bike_operator.specs.declared.records.Bike.{Bike}
use Rattle.bike_operator.specs.Operator.{Operator, texts_cmp}
use Rattle.bike_operator.specs.Counts.{count, is_working_dock, docks_broken}
use Rattle.bike_operator.specs.Sound.{AreBikesSound}
use Rattle.bike_laws.proofs.SingleSteps.CountLemmas.{weight, count-added}
use Rattle.bike_laws.proofs.SingleSteps.MapLemmas.{number_order}
use Rattle.bike_laws.specs.SingleSteps.Numbers.{is_available_of, is_disabled_of}
use Rattle.bike_laws.specs.SingleSteps.Laws.{share, HasPut, PutLaw, PutDocksLaw}
use Rattle.bike_laws.proofs.SingleSteps.DockLaw.{docks_law}

share_is : (test : Bike → Bool) (o : Option Bike) → weight test o ≡ share test o
share_is test None = refl
share_is test (Some b) = refl

module _ (s next : Operator) (k : ℕ) (b : Bike) (h : HasPut s next k b) where
  -- a test that looks at the broken docks alone, over the bicycles
  put_count : (test : FinSet texts_cmp → Bike → Bool)
      → count (λ e. test next.broken e.1) (map.entries next.bikes) + share (test s.broken) (map.get s.bikes k) ≡ count (λ e. test s.broken e.1) (map.entries s.bikes) + share (test s.broken) (Some b)
  put_count test =
      let added = count-added number_order (test s.broken) s.bikes k b in
      let w = share_is (test s.broken) (map.get s.bikes k) in
      let here : count (λ (e : ℕ × Bike). test s.broken e.1) (map.entries (map.insert s.bikes k b)) + share (test s.broken) (map.get s.bikes k) ≡ count (λ (e : ℕ × Bike). test s.broken e.1) (map.entries s.bikes) + share (test s.broken) (Some b) = omega (arith, added, w) in
      let counted = λ (m : FinMap nat_cmp Bike) (broken : FinSet texts_cmp). count (λ (e : ℕ × Bike). test broken e.1) (map.entries m) + share (test s.broken) (map.get s.bikes k) in
      ap₂ counted h.bikes h.broken ∙ here

  -- THE LAW OF A BICYCLE PUT
  pub put_law : PutLaw s next k b
  put_law = record {
    available = λ station type_id. put_count (λ broken. is_available_of (record s { broken = broken }) station type_id);
    disabled = λ station type_id. put_count (λ broken. is_disabled_of (record s { broken = broken }) station type_id);
    occupied = λ station. put_count (λ broken x. is_working_dock (record s { broken = broken }) station x.place);
    broken = λ station docks. ap (λ (broken : FinSet texts_cmp). docks_broken (record s { broken = broken }) station docks) h.broken;
  }

  pub put_docks_law : AreBikesSound s → AreBikesSound next → PutDocksLaw s next k b
  put_docks_law sound sound_next station docks before after =
      let was = docks_law s sound station docks before in
      let is = docks_law next sound_next station docks after in
      let taken = put_law.occupied station in
      let broken = put_law.broken station docks in
      omega (arith, was, is, taken, broken)
