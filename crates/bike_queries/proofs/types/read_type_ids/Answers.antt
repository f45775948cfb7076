use Rattle.std.proofs.Common.{◌≡◌, [], ◌∷◌, ◌++◌, Some, map, ap, rules}
use Rattle.bike_queries.proofs.TypeLemmas.{next_read, all_read}
use Rattle.bike_queries.proofs.types.read_type_ids.Goals as goal

pub loop-row-init : goal.loop-row-init
loop-row-init c = ap (map Some) c.new-type_ids.ensures.items

pub loop-row-preserved : goal.loop-row-preserved
loop-row-preserved c =
    let pushed : c.push.new.self.items ≡ c.loop-row.type_ids.items ++ c.in_ok-type_id.type_id ∷ [] = search rules in
    next_read c.args.rows.now c.loop-row.row-index c.row-item.result c.loop-row.type_ids.items c.push.new.self.items c.in_ok-type_id.type_id
    c.loop-row-test.true c.row-item.is c.in_ok-type_id.ensures.ok pushed c.loop-row.invariant

pub returns : goal.returns
returns c = all_read c.args.rows.now c.loop-row.row-index c.loop-row.type_ids.items c.loop-row-test.false c.loop-row.invariant
