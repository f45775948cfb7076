-- The levels that a state keeps.
use Rattle.std.proofs.Common.{◌≡◌, ◌≢◌, ℕ, zero, suc, ◌+◌, ◌<◌, ◌≤◌, List, ◌∷◌, length, get_or, set, refl, arith, add-one, get_or-set_other, get_or-set_same}
use Rattle.bike_json.specs.declared.level.Level.{Level}
use Rattle.bike_json.specs.declared.level.Level.TheVariants.{Start}
use Rattle.bike_json.specs.State.{enclosing}

enclosing-set : (levels : List Level) (i n : ℕ) (level : Level) → n ≤ i → enclosing (set levels i level) n ≡ enclosing levels n
enclosing-set levels i zero level h = refl
enclosing-set levels i (suc n) level h =
    let other : n ≢ i = omega arith in
    let below : n ≤ i = omega arith in
    let first : get_or (set levels i level) n Start ≡ get_or levels n Start = get_or-set_other levels i n level Start other in
    rw (first, enclosing-set levels i n level below) refl

pub enclosing-push : (levels : List Level) (n : ℕ) (level : Level) → n < length levels → enclosing (set levels n level) (n + 1) ≡ level ∷ enclosing levels n
enclosing-push levels n level h =
    let here : n ≤ n = omega arith in
    let first : get_or (set levels n level) n Start ≡ level = get_or-set_same levels n level Start h in
    rw (add-one, first, enclosing-set levels n n level here) refl
