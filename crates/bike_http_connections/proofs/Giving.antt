-- Clients who are handed out, one of those that were there.
use Rattle.std.proofs.Common.{◌≡◌, ℕ, List, ◌∷◌, Option, Some, None, is_some, Bool, true, false, subst}
use Rattle.bike_http_connection.specs.declared.exchange.Exchange.{Exchange}
use Rattle.bike_http_connection.specs.Connected.{Connected, handed_as}
use Rattle.bike_http_connections.specs.Ahead.{Loses}
use Rattle.bike_http_connections.specs.Handed.{Gives}
use Rattle.bike_http_connections.proofs.Losing.{loses_via}

module _ {S : Type 0} (known : Bool) (input coming taken : S → List ℕ) where
  -- one that was taken out
  pub gives_taken : (old new : List Connected) (x : Connected) (exchange : Exchange S) → Loses old (x ∷ new)
      → x ≡ handed_as input coming taken exchange → Loses old (handed_as input coming taken exchange ∷ new)
  gives_taken old new x exchange out is = subst (λ (y : Connected). Loses old (y ∷ new)) is out

  -- after others were lost
  pub gives_after : (old middle seen new : List Connected) (given : Option (Exchange S × List ℕ)) → seen ≡ middle
      → Loses old middle → Gives known input coming taken seen new given → Gives known input coming taken old new given
  gives_after old middle seen new None is lost gives = loses_via old middle seen new is lost gives
  gives_after old middle seen new (Some handed) is lost gives =
      (loses_via old middle seen (handed_as input coming taken handed.0 ∷ new) is lost gives.0, gives.1, gives.2)

  -- where none is
  pub gives_none : (old new : List Connected) (given : Option (Exchange S × List ℕ)) → is_some given ≡ false
      → Gives known input coming taken old new given → Loses old new
  gives_none old new None none gives = gives
  gives_none old new (Some handed) none gives = absurd (let e : true ≡ false = none in cc)
