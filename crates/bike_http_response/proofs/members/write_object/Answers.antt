use Rattle.std.proofs.Common.{◌+◌, ◌∷◌, ◌++◌, ◌∙◌, ap, sym, drop, map}
use Rattle.bike_http_response.specs.Bodies.{scalar_tree}
use Rattle.bike_http_response.proofs.Listed.{members_start, members_next, members_end, drop_get, drop_none}
use Rattle.bike_http_response.proofs.members.write_object.Goals as goal

pub loop-field-init : goal.loop-field-init
loop-field-init g c = members_start _ c.begin_object.ensures.wrote c.begin_object.ensures.place

pub loop-field-preserved : goal.loop-field-preserved
loop-field-preserved g c =
    let i = c.loop-field.field-index in
    let next = drop_get c.args.fields.now i _ c.loop-field-test.true ∙ ap (λ m. m ∷ drop (i + 1) c.args.fields.now) (sym c.field-item.is) in
    members_next c.loop-field.invariant (ap (λ l. map (λ m. (m.0.plain.now, scalar_tree m.1)) (l ++ c.args.behind.now)) next) c.write_member.ensures.wrote c.write_member.ensures.place

pub loop-last-init : goal.loop-last-init
loop-last-init g c = rw (drop_none c.args.fields.now c.loop-field.field-index c.loop-field-test.false) at c.loop-field.invariant

pub loop-last-preserved : goal.loop-last-preserved
loop-last-preserved g c =
    let i = c.loop-last.last-index in
    let next = drop_get c.args.behind.now i _ c.loop-last-test.true ∙ ap (λ m. m ∷ drop (i + 1) c.args.behind.now) (sym c.last-item.is) in
    members_next c.loop-last.invariant (ap (map (λ m. (m.0.plain.now, scalar_tree m.1))) next) c.write_member-in-loop-last.ensures.wrote c.write_member-in-loop-last.ensures.place

pub returns-clause-wrote : goal.returns-clause-wrote
returns-clause-wrote g c =
    let none = drop_none c.args.behind.now c.loop-last.last-index c.loop-last-test.false in
    members_end c.loop-last.invariant (ap (map (λ m. (m.0.plain.now, scalar_tree m.1))) none) c.end_object.ensures.wrote
