use Rattle.std.proofs.Common.{rules, ◌≡◌, [], ◌∷◌, ◌++◌, sym}
use Rattle.bike_queries.proofs.pages.last_id.Goals as goal

pub returns-in-Some : goal.returns-in-Some
returns-in-Some c =
    let last = c.in-Some.last.now in
    let front = c.in-Some.field-0-1.now in
    let parts : c.args.stations.now ≡ front ++ last ∷ [] = search rules in
    (front, last, parts, sym c.id.ensures)
