-- A connection that begins.
use Rattle.std.proofs.Common.{◌≡◌, ℕ, List, [], ◌∷◌, ◌++◌, ap, ◌∙◌, append-nil}
use Rattle.bike_http_connection.specs.declared.peer.Peer.{Peer}
use Rattle.bike_http_connection.specs.declared.gathering.Gathering.{Gathering}
use Rattle.bike_http_connection.specs.declared.connection.State.TheVariants as state
use Rattle.bike_http_connection.specs.Connected.{Connected, connected_as, begun_as}

module _ {S : Type 0} (input coming taken : S → List ℕ) where
  abbrev begun : ℕ → S → List ℕ → List ℕ → Connected
  begun moment socket bytes response = record {
    client = record { moment = moment; input = input socket };
    ahead = record { moment = moment; input = bytes ++ coming socket } ∷ [];
    response = response;
  }

  -- a connection of which some came
  pub one_is : (peer : Peer S) (gathering : Gathering) (start came : List ℕ) (moment : ℕ) (socket : S) (x : Connected)
      → x ≡ connected_as input coming taken peer (state.Gathering gathering) → peer.moment ≡ moment → peer.socket ≡ socket
      → gathering.bytes.items ≡ start ++ came → start ≡ [] → x ≡ begun_as input coming taken socket moment came
  one_is peer gathering start came moment socket x is at of_socket grown none =
      is
      ∙ ap (λ (m : ℕ). begun m peer.socket gathering.bytes.items (taken peer.socket ++ [])) at
      ∙ ap (λ (s : S). begun moment s gathering.bytes.items (taken s ++ [])) of_socket
      ∙ ap (λ (b : List ℕ). begun moment socket b (taken socket ++ [])) (grown ∙ ap (λ (xs : List ℕ). xs ++ came) none)
      ∙ ap (λ (r : List ℕ). begun moment socket came r) (append-nil (taken socket))
