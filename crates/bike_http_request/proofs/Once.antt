-- An input asks for one thing.
use Rattle.std.proofs.Common.{◌≡◌, ℕ, List, map, sym, ap, ◌∙◌, inl, inr}
use Rattle.httparse.specs.Grammar.{RequestHead}
use Rattle.httparse.specs.Spans.{name_and_value}
use Rattle.httparse.proofs.GrammarLemmas.{request_unique}
use Rattle.bike_http_head.specs.Length.{body_length}
use Rattle.bike_http_request.specs.Asked.{asked_behind, Asks}
use Rattle.bike_http_request.specs.declared.action.Action.{Action}

abbrev behind : RequestHead → List ℕ → Action
behind head rest = asked_behind (body_length (map name_and_value head.fields)) head rest

pub asks_once : (input : List ℕ) (asked other : Action) → Asks input asked → Asks input other → asked ≡ other
asks_once input asked other (inr x) (inr y) = x.1 ∙ sym y.1
asks_once input asked other (inr x) (inl y) = absurd (x.0 y.0 y.1 y.2)
asks_once input asked other (inl x) (inr y) = absurd (y.0 x.0 x.1 x.2)
asks_once input asked other (inl x) (inl y) =
    let same = request_unique input x.0 y.0 x.1 y.1 x.2.reads y.2.reads in
    x.3 ∙ (ap (λ (h : RequestHead). behind h x.1) same.0 ∙ (ap (λ (l : List ℕ). behind y.0 l) same.1 ∙ sym y.3))
