use Rattle.std.proofs.Common.{arith, subst, ◌∙◌, ap, ◌+◌}
use Rattle.std.proofs.lemmas.List.{take_all}
use Rattle.bike_schema.specs.Tables.{IsOurs}
use Rattle.bike_schema.proofs.MakesLemmas.{makes_ours}
use Rattle.bike_recognition.proofs.LookLemmas.{reads_known}
use Rattle.bike_migrate.specs.Raised.{request_names, request_writes, WritesOnly}
use Rattle.bike_migrate.proofs.StepLemmas.{does_weaker, does_then, reads_does}
use Rattle.bike_migrate.proofs.FillLemmas.{no_writes, more_requests}
use Rattle.bike_migrate.proofs.copy.fill_requests.Goals as goal

pub loop-row-init : goal.loop-row-init
loop-row-init g c = record {
  counted = c.in_ok-number.ensures;
  added = does_weaker (reads_does (reads_known {P = IsOurs} c.in_ok-check_open.ensures)) (λ a b x ours same. no_writes request_names a b same.0 ours);
}

pub loop-row-preserved : goal.loop-row-preserved
loop-row-preserved g c = record {
  counted = c.in_ok-number-2.ensures ∙ ap (λ n. n + 1) c.loop-row.invariant.counted;
  added = does_then c.loop-row.invariant.added (λ a b ours only. makes_ours only.makes) c.in_ok-copy_request.ensures
      (λ a b d x ours first second. more_requests c.args.rows.now c.loop-row.row-index c.row-item.result _ (c.in_ok-number-2.ensures ∙ ap (λ n. n + 1) c.loop-row.invariant.counted) c.loop-row-test.true c.row-item.is a b d first second);
}

pub returns : goal.returns
returns g c =
    does_weaker c.loop-row.invariant.added (λ a b x ours makes. subst (λ rows. WritesOnly request_names (request_writes rows) a b)
    (take_all c.loop-row.row-index c.args.rows.now (let past = c.loop-row-test.false in omega (arith, past))) makes)
