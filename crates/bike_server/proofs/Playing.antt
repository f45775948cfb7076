-- Connections that are played, one after the other.
use Rattle.std.proofs.Common.{◌≡◌, ℕ, ◌+◌, ◌<◌, List, [], ◌∷◌, ◌++◌, map, length, drop, slice_index_or, refl, sym, subst, ap, ◌∙◌, append_assoc, add-one, drop-cons, arith}
use Rattle.std.proofs.Math.ListN.{drop_of_length-le}
use Rattle.std.proofs.lemmas.List.{map-append}
use Rattle.std.proofs.lemmas.List.Sorted.{IsPermutation-sym, IsPermutation-middle}
use Rattle.bike_http_connection.specs.Connected.{Connected}
use Rattle.bike_http_connections.specs.Ahead.{Loses, fresh, ahead_of}
use Rattle.bike_http_connections.proofs.Losing.{loses_moved}
use Rattle.bike_server.specs.declared.memory.PlayedRequest.{PlayedRequest}
use Rattle.bike_server.specs.declared.memory.PlayedResponse.{PlayedResponse}
use Rattle.bike_server.specs.Played.{coming_of, parted}

pub next_visit : (visits : List PlayedRequest) (next : ℕ) (other : PlayedRequest) → next < length visits
    → map coming_of (drop next visits) ≡ coming_of (slice_index_or visits next other) ∷ map coming_of (drop (next + 1) visits)
next_visit visits next other within = rw (add-one next) (ap (map coming_of) (drop-cons visits next other within))

-- who is let go stands behind those before
pub let_go : (gone : List PlayedResponse) (parting : PlayedResponse) (rest : List Connected) → Loses (parted parting ∷ (map parted gone ++ rest)) (map parted (gone ++ parting ∷ []) ++ rest)
let_go gone parting rest =
    subst (λ (xs : List Connected). Loses (parted parting ∷ (map parted gone ++ rest)) xs)
    (sym (append_assoc (map parted gone) (parted parting ∷ []) rest) ∙ ap (λ (xs : List Connected). xs ++ rest) (sym (map-append parted gone (parting ∷ []))))
    (loses_moved (parted parting ∷ (map parted gone ++ rest)) (map parted gone ++ parted parting ∷ rest)
    (IsPermutation-sym (map parted gone ++ parted parting ∷ rest) (parted parting ∷ (map parted gone ++ rest)) (IsPermutation-middle (map parted gone) (parted parting) rest)))

-- who was let go asks for nothing more
gone_ask : (gone : List PlayedResponse) (rest : List Connected) → ahead_of (map parted gone ++ rest) ≡ ahead_of rest
gone_ask [] rest = refl
gone_ask (parting ∷ gone) rest = gone_ask gone rest

-- nobody is ahead any more
pub nobody_ahead : (gone : List PlayedResponse) (visits : List PlayedRequest) (next : ℕ) → next ≡ length visits
    → ahead_of (map parted gone ++ map fresh (map coming_of (drop next visits))) ≡ []
nobody_ahead gone visits next all =
    gone_ask gone (map fresh (map coming_of (drop next visits)))
    ∙ ap (λ (xs : List PlayedRequest). ahead_of (map fresh (map coming_of xs))) (drop_of_length-le visits {i = next} (omega (arith, all)))
