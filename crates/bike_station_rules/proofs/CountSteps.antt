-- One more dock that is counted, or isn't.
use Rattle.std.proofs.Common.{◌≡◌, ℕ, suc, ◌+◌, Bool, true, false, refl, ap, subst, arith}
use Rattle.bike_operator.specs.Counts.{count, docks_up_to}
use Rattle.bike_laws.specs.SingleSteps.Laws.{one}
use Rattle.bike_laws.proofs.SingleSteps.StoredCountLemmas.{count_last}

module _ (test : ℕ → Bool) where
  next : (dock : ℕ) → count test (docks_up_to (suc dock)) ≡ count test (docks_up_to dock) + one (test (suc dock))
  unfolding docks_up_to
  next dock = count_last test (docks_up_to dock) (suc dock)

  step : (dock : ℕ) → count test (docks_up_to (dock + 1)) ≡ count test (docks_up_to dock) + one (test (dock + 1))
  step dock = let same : suc dock ≡ dock + 1 = omega arith in subst (λ (n : ℕ). count test (docks_up_to n) ≡ count test (docks_up_to dock) + one (test n)) same (next dock)

  pub counted : (dock many : ℕ) → many ≡ count test (docks_up_to dock) → test (dock + 1) ≡ true → many + 1 ≡ count test (docks_up_to (dock + 1))
  counted dock many is passes = let more = step dock in let first : one (test (dock + 1)) ≡ 1 = ap one passes in omega (arith, is, more, first)

  pub not_counted : (dock many : ℕ) → many ≡ count test (docks_up_to dock) → test (dock + 1) ≡ false → many ≡ count test (docks_up_to (dock + 1))
  not_counted dock many is fails = let more = step dock in let first : one (test (dock + 1)) ≡ 0 = ap one fails in omega (arith, is, more, first)

  pub none_yet : 0 ≡ count test (docks_up_to 0)
  unfolding docks_up_to
  none_yet = refl
