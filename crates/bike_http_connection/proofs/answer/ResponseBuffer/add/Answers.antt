use Rattle.std.proofs.Common.{◌≡◌, ◌∙◌, ℕ, ◌+◌, List, [], ◌∷◌, ◌++◌, length, length-append, take, drop, map, vec_items, refl, ap, arith}
use Rattle.std.proofs.lemmas.List.{drop-append-le}
use Rattle.bike_http_connection.specs.Answers.{bytes_in}
use Rattle.bike_http_connection.proofs.Sending.{pushed_is}
use Rattle.bike_http_connection.proofs.answer.ResponseBuffer.add.Goals as goal

abbrev Grows : goal.After-push_back_reserved → Type 0
Grows c = bytes_in (map vec_items c.push_back_reserved.new.self.items) c.replace-full.new.dest.items
    ≡ bytes_in (map vec_items c.self.inside.full.items) c.self.inside.last.items ++ take c.min-count-2.result c.args.bytes.now

grows : (c : goal.After-push_back_reserved) → Grows c
grows c =
    let more = take c.min-count-2.result c.args.bytes.now in
    let full : c.push_back_reserved.new.self.items ≡ c.self.inside.full.items ++ c.self.inside.last ∷ [] =
    c.push_back_reserved.ensures.items ∙ rw (c.reserve.ensures.items, c.replace-full.ensures.value) refl in
    let last : c.replace-full.new.dest.items ≡ more =
    rw c.replace-full.ensures.after (c.in_ok-extend_from_slice-2.ensures.items ∙ rw c.in_ok-block.ensures.items refl) in
    pushed_is vec_items c.self.inside.full.items c.push_back_reserved.new.self.items c.self.inside.last c.replace-full.new.dest.items more full last

pub invariant_of-self-2 : goal.invariant_of-self-2
invariant_of-self-2 c =
    let more = take c.min-count-2.result c.args.bytes.now in
    let before = bytes_in (map vec_items c.self.inside.full.items) c.self.inside.last.items in
    let long : length (before ++ more) ≡ length before + length more = length-append before more in
    let same = ap (λ (xs : List ℕ). length xs) (grows c) in
    omega (arith, c.self.invariant, long, same)

pub returns-clause-added : goal.returns-clause-added
returns-clause-added c =
    let more = take c.min-count-2.result c.args.bytes.now in
    let before = bytes_in (map vec_items c.self.inside.full.items) c.self.inside.last.items in
    ap (λ (xs : List ℕ). drop c.self.inside.taken xs) (grows c)
    ∙ drop-append-le c.self.inside.taken before more c.self.invariant
    ∙ ap (λ (xs : List ℕ). xs ++ more) c.self.view_is
