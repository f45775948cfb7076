use Rattle.std.proofs.Common.{refl, arith}
use Rattle.bike_queries.proofs.CountLemmas.{none_counted, next_counted, all_counted}
use Rattle.bike_queries.proofs.counts.count_types.Goals as goal

pub loop-type_id-init : goal.loop-type_id-init
loop-type_id-init c = record {
  place = omega arith;
  counted = λ rises. none_counted c.args.told.now c.args.docks c.args.type_ids.now _ refl refl c.requires c.get.ensures.value c.get-2.ensures.value;
}

pub loop-type_id-preserved : goal.loop-type_id-preserved
loop-type_id-preserved c = record {
  place = c.counts_from-next.ensures.place;
  counted = λ rises.
      next_counted c.args.told.now c.args.docks c.args.type_ids.now c.loop-type_id.type_id-index c.type_id-item.result c.in_ok-copy.copy
      c.loop-type_id.counts c.add_type.new.counts c.counts_from-next.result.0 c.loop-type_id-test.true c.type_id-item.is c.in_ok-copy.ensures
      (c.counts_from-next.ensures.counts rises) c.in_ok-add_type.ensures (c.loop-type_id.invariant.counted rises);
}

pub returns : goal.returns
returns c = λ rises. all_counted c.args.told.now c.args.docks c.args.type_ids.now c.loop-type_id.type_id-index c.loop-type_id.counts c.loop-type_id-test.false (c.loop-type_id.invariant.counted rises)
