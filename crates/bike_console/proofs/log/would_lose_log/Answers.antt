use Rattle.std.proofs.Common.{arith}
use Rattle.std.proofs.lemmas.Bool.{and_parts}
use Rattle.std.proofs.lemmas.Result.{IfErr-weaker}
use Rattle.bike_console.proofs.log.would_lose_log.Goals as goal

pub returns-in-Ok-false-clause-failed : goal.returns-in-Ok-false-clause-failed
returns-in-Ok-false-clause-failed g c =
    IfErr-weaker c.is_damaged.result _ _ (λ told failed. (
      failed.0,
      λ clean.
          let more = failed.1 (and_parts _ _ clean).0 in
          let before = c.is_lone.ensures.counts in
          omega (arith, more, before),
    ))
    c.is_damaged.ensures.failed
