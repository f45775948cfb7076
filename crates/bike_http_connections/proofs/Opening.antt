-- Clients who are connected and those that aren't accepted yet, as some end, come in or are handed out.
use Rattle.std.proofs.Common.{◌≡◌, ℕ, List, [], ◌∷◌, ◌++◌, take, map, Bool, Option, Some, None, IsPermutation, subst, ap, ◌∙◌}
use Rattle.std.proofs.lemmas.List.{map-append}
use Rattle.std.proofs.lemmas.List.Sorted.{IsPermutation-map}
use Rattle.bike_http_connection.specs.declared.exchange.Exchange.{Exchange}
use Rattle.bike_http_connection.specs.Asking.{Coming}
use Rattle.bike_http_connection.specs.Connected.{Connected, begun_as, handed_as}
use Rattle.bike_http_connections.specs.Ahead.{Loses, fresh}
use Rattle.bike_http_connections.specs.Accepting.{PicksAlone, IsFresh}
use Rattle.bike_http_connections.specs.Handed.{Gives}
use Rattle.bike_http_connections.proofs.Losing.{loses_then, loses_front, loses_behind, loses_before, loses_one}

-- ---- none is handed out

-- some who are connected are lost, or some that aren't accepted yet
pub loses_open : (old opened left coming : List Connected) → opened ++ coming ≡ old → Loses opened left → Loses old (left ++ coming)
loses_open old opened left coming is lost = subst (λ (c : List Connected). Loses c (left ++ coming)) is (loses_before coming opened left lost)

loses_fresh : (coming left : List Coming) → Loses coming left → Loses (map fresh coming) (map fresh left)
loses_fresh coming left lost = (
  map fresh lost.0,
  subst (λ (c : List Connected). IsPermutation (map fresh coming) c) (map-append fresh lost.0 left) (IsPermutation-map fresh coming (lost.0 ++ left) lost.1),
)

pub loses_coming : (old opened : List Connected) (coming left : List Coming) → opened ++ map fresh coming ≡ old → Loses coming left
    → Loses old (opened ++ map fresh left)
loses_coming old opened coming left is lost =
    subst (λ (c : List Connected). Loses c (opened ++ map fresh left)) is
    (loses_behind opened (map fresh coming) (map fresh left) (loses_fresh coming left lost))

-- one is taken in that was accepted
pub taken_in : (old opened new coming : List Connected) (x one : Connected) → opened ++ coming ≡ old → x ≡ one → Loses (x ∷ opened) new
    → Loses (one ∷ old) (new ++ coming)
taken_in old opened new coming x one is same into =
    let whole : Loses (one ∷ opened) new = subst (λ (y : Connected). Loses (y ∷ opened) new) same into in
    subst (λ (c : List Connected). Loses (one ∷ c) (new ++ coming)) is (loses_before coming (one ∷ opened) new whole)

pub into_seen : {one : Connected} (seen middle new : List Connected) → seen ≡ middle → Loses (one ∷ seen) new → Loses (one ∷ middle) new
into_seen {one} seen middle new is into = subst (λ (c : List Connected). Loses (one ∷ c) new) is into

-- .. that was waited for alone; where it doesn't come in, it is lost
pub lost_anyway : {S : Type 0} (coming : S → List ℕ) (old new : List Coming) (piece : List ℕ) (told : Option (S × ℕ × ℕ)) → PicksAlone coming old new piece told
    → Loses old new
lost_anyway {S} coming old new piece None picks = picks
lost_anyway {S} coming old new piece (Some one) picks =
    let it : Coming = record { moment = one.1; input = take one.2 piece ++ coming one.0 } in
    loses_then old (it ∷ new) new picks (loses_front (it ∷ []) new)

module _ {S : Type 0} (input coming taken : S → List ℕ) where
  -- who begins is who was ahead
  begins : (socket : S) (moment : ℕ) (came : List ℕ) → IsFresh coming input taken came socket
      → begun_as input coming taken socket moment came ≡ fresh (record { moment = moment; input = came ++ coming socket })
  begins socket moment came is =
      let ahead : List Coming = record { moment = moment; input = came ++ coming socket } ∷ [] in
      ap (λ (xs : List ℕ). let it : Connected = record { client = record { moment = moment; input = xs }; ahead = ahead; response = taken socket } in it) is.0
      ∙ ap (λ (xs : List ℕ). let it : Connected = record { client = record { moment = moment; input = came ++ coming socket }; ahead = ahead; response = xs } in it) is.1

  -- .. and was ahead before
  pub accepted_in : (old new opened : List Connected) (ahead left : List Coming) (socket : S) (moment : ℕ) (came : List ℕ) → opened ++ map fresh ahead ≡ old
      → Loses ahead (record { moment = moment; input = came ++ coming socket } ∷ left) → IsFresh coming input taken came socket
      → Loses (begun_as input coming taken socket moment came ∷ (opened ++ map fresh left)) new → Loses old new
  accepted_in old new opened ahead left socket moment came is picks new_one into =
      let one : Coming = record { moment = moment; input = came ++ coming socket } in
      let begun : Loses (fresh one ∷ (opened ++ map fresh left)) new =
      subst (λ (c : Connected). Loses (c ∷ (opened ++ map fresh left)) new) (begins socket moment came new_one) into in
      subst (λ (c : List Connected). Loses c new) is
      (loses_then (opened ++ map fresh ahead) (opened ++ fresh one ∷ map fresh left) new
      (loses_behind opened (map fresh ahead) (fresh one ∷ map fresh left) (loses_fresh ahead (one ∷ left) picks))
      (loses_then (opened ++ fresh one ∷ map fresh left) (fresh one ∷ (opened ++ map fresh left)) new (loses_one opened (map fresh left) (fresh one)) begun))

  -- ---- one is handed out

  pub gives_in : (known : Bool) (old opened left ahead : List Connected) (given : Option (Exchange S × List ℕ)) → opened ++ ahead ≡ old
      → Gives known input coming taken opened left given → Gives known input coming taken old (left ++ ahead) given
  gives_in known old opened left ahead None is gives =
      subst (λ (c : List Connected). Loses c (left ++ ahead)) is (loses_before ahead opened left gives)
  gives_in known old opened left ahead (Some handed) is gives = (
    subst (λ (c : List Connected). Loses c (handed_as input coming taken handed.0 ∷ left ++ ahead)) is
        (loses_before ahead opened (handed_as input coming taken handed.0 ∷ left) gives.0),
    gives.1,
    gives.2,
  )
