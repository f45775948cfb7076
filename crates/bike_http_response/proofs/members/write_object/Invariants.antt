use Rattle.std.proofs.Common.{◌++◌, drop, map}
use Rattle.bike_http_response.specs.Bodies.{scalar_tree}
use Rattle.bike_http_response.proofs.Listed.{SoFar}
use Rattle.bike_http_response.proofs.members.write_object.Given as goal

abbrev pub invariant-loop-field : goal.invariant-loop-field
invariant-loop-field g l =
    SoFar l.fn.json l.json (g.W.Output.contents l.fn.out) (g.W.Output.contents l.out)
    (map (λ m. (m.0.plain.now, scalar_tree m.1)) (l.fields ++ l.behind)) (map (λ m. (m.0.plain.now, scalar_tree m.1)) (drop l.field-index l.fields ++ l.behind))

abbrev pub invariant-loop-last : goal.invariant-loop-last
invariant-loop-last g l =
    SoFar l.fn.json l.json (g.W.Output.contents l.fn.out) (g.W.Output.contents l.out)
    (map (λ m. (m.0.plain.now, scalar_tree m.1)) (l.fields ++ l.behind)) (map (λ m. (m.0.plain.now, scalar_tree m.1)) (drop l.last-index l.behind))
