use Rattle.std.proofs.Common.{rules, ap, ◌∙◌}
use Rattle.std.specs.Prelude.{option_map}
use Rattle.bike_sql.proofs.ChainLaws.{reads_as, reads_both, reads_failed}
use Rattle.bike_judges.specs.Judging.{key_row}
use Rattle.bike_judges.specs.Least.{least_key}
use Rattle.bike_judges.proofs.ReadsLaw.{reads_told}
use Rattle.bike_catalogue_rules.proofs.NamesJudged.{AreFound, names_judged}
use Rattle.bike_catalogue_rules.proofs.names.judge_names.Goals as goal

pub returns-in_err-by_place : goal.returns-in_err-by_place
returns-in_err-by_place g c = reads_failed (reads_both c.in_ok-own.ensures (reads_both c.in_ok-by_order.ensures c.in_err-by_place.ensures)) (search rules)

pub returns-in_err-by_offer : goal.returns-in_err-by_offer
returns-in_err-by_offer g c = reads_failed (reads_both c.in_ok-own.ensures (reads_both c.in_ok-by_order.ensures (reads_both c.in_ok-by_place.ensures c.in_err-by_offer.ensures))) (search rules)

pub returns : goal.returns
returns g c = reads_as
    (reads_told {told = AreFound c.in_ok-own.own c.in_ok-by_order.by_order c.in_ok-by_place.by_place}
    (reads_both c.in_ok-own.ensures (reads_both c.in_ok-by_order.ensures (reads_both c.in_ok-by_place.ensures c.in_ok-by_offer.ensures)))
    (λ db ours found it. record {
      ours = ours;
      own_is = it.0;
      by_order = it.1.0;
      by_place = λ verdict is. it.1.1.0 verdict (c.new.ensures.says _ verdict is);
      by_offer = λ verdict is. it.1.1.1 verdict (c.new-2.ensures.says _ verdict is);
    }))
    (λ db it. names_judged db c.in_ok-own.own c.in_ok-by_order.by_order c.in_ok-by_place.by_place c.in_ok-by_offer.by_offer c.least-2.result
    (c.least-2.ensures ∙ ap (λ key. least_key key (option_map key_row c.in_ok-by_offer.by_offer)) c.least.ensures) it)
