use Rattle.std.proofs.Common.{◌≡◌, ℕ, ◌-◌, List, [], ◌∷◌, ◌++◌, map, drop, vec_len, Some, sym, subst, ap, ◌∙◌, arith}
use Rattle.std.proofs.lemmas.List.{map-append}
use Rattle.bike_http_connection.specs.Connected.{Connected}
use Rattle.bike_http_connections.specs.Ahead.{Loses, fresh}
use Rattle.bike_server.specs.declared.memory.PlayedResponse.{PlayedResponse}
use Rattle.bike_server.specs.Visits.{Leaving, Kept}
use Rattle.bike_server.specs.Played.{coming_of, leaving_of, parted}
use Rattle.bike_server.proofs.Playing.{let_go}
use Rattle.bike_server.proofs.memory.PlayedConnectionsArrivals.finish.Goals as goal

pub returns : goal.returns
returns c =
    let it = c.self.inside in
    let rest : List Connected = map fresh (map coming_of (drop it.next it.visits.now)) in
    let parting : PlayedResponse = record { visit = record { moment = c.args.client.moment; input = c.args.client.input }; served = c.args.served; sent = c.args.writer } in
    let before : List Leaving = map leaving_of it.gone.items in
    let pushed = c.push_reserved.ensures in
    let gone : map leaving_of c.push_reserved.new.self.items ≡ before ++ leaving_of parting ∷ [] =
    ap (λ (items : List PlayedResponse). map leaving_of items) pushed.items ∙ map-append leaving_of it.gone.items (parting ∷ []) in
    let pending : it.next - vec_len c.push_reserved.new.self ≡ it.next - vec_len it.gone - 1 = omega (arith, pushed.len) in
    rw (← c.self.view_is) (record {
      clients =
          subst (λ (items : List PlayedResponse). Loses (parted parting ∷ (map parted it.gone.items ++ rest)) (map parted items ++ rest)) (sym pushed.items)
          (let_go it.gone.items parting rest);
      kept =
          ap (λ (g : List Leaving). Some (let kept : Kept = record { gone = g; pending = it.next - vec_len c.push_reserved.new.self } in kept)) gone
          ∙ ap (λ (n : ℕ). Some (let kept : Kept = record { gone = before ++ leaving_of parting ∷ []; pending = n } in kept)) pending;
    })
