-- Values by number after one more.
use Rattle.std.proofs.Common.{◌≡◌, ℕ, zero, suc, ◌+◌, ◌-◌, ◌<◌, List, [], ◌∷◌, ◌++◌, length, length-append, Option, Some, None, refl, sym, ◌∙◌, arith, replicate}
use Rattle.std.proofs.lemmas.List.{get_or-set_same, get_or-set_other, length-replicate}
use Rattle.bike_ledger_rules.specs.Known.{value_at, reaching, with_value}

module _ {V : Type 0} where
  nothing_at : (size n : ℕ) → value_at {V = V} (replicate size None) n ≡ None
  nothing_at zero n = refl
  nothing_at (suc size) zero = refl
  nothing_at (suc size) (suc n) = nothing_at size n

  value_at-longer : (values : List (Option V)) (size n : ℕ) → value_at (values ++ replicate size None) n ≡ value_at values n
  value_at-longer [] size n = nothing_at size n
  value_at-longer (v ∷ values) size zero = refl
  value_at-longer (v ∷ values) size (suc n) = value_at-longer values size n

  reaches : (values : List (Option V)) (number : ℕ) → number < length (reaching (number + 1) values)
  reaches values number =
      let more = number + 1 - length values in
      let long = length-append values (replicate more None) in
      let added = length-replicate {A = Option V} more None in
      omega (arith, long, added)

  pub value_at-same : (values : List (Option V)) (number : ℕ) (v : V) → value_at (with_value values number v) number ≡ Some v
  value_at-same values number v = get_or-set_same (reaching (number + 1) values) number (Some v) None (reaches values number)

  pub value_at-other : (values : List (Option V)) (number : ℕ) (v : V) (n : ℕ) → (number ≡ n → ⊥)
      → value_at (with_value values number v) n ≡ value_at values n
  value_at-other values number v n apart =
      get_or-set_other (reaching (number + 1) values) number n (Some v) None (λ same. apart (sym same))
      ∙ value_at-longer values (number + 1 - length values) n
