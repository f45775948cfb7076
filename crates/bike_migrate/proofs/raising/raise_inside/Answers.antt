use Rattle.std.proofs.Common.{rules, subst}
use Rattle.std.specs.Prelude.{option_map}
use Rattle.bike_audit.specs.Audit.{row_name}
use Rattle.bike_migrate.specs.Raised.{tables_raised}
use Rattle.bike_migrate.specs.Verdicts.{IsVerdictAt}
use Rattle.bike_migrate.proofs.StepLemmas.{does_under, does_both, does_as, does_failed}
use Rattle.bike_migrate.proofs.DropLemmas.{old_stay}
use Rattle.bike_migrate.proofs.DoneLemmas.{raises}
use Rattle.bike_migrate.proofs.JudgeLemmas.{is_at, judged_does}
use Rattle.bike_migrate.proofs.raising.raise_inside.Goals as goal

pub returns-in_err-build : goal.returns-in_err-build
returns-in_err-build g c = does_failed (does_under (is_at c.args.earlier c.args.stations.now c.args.riders.now c.args.kept.now) c.in_err-build.ensures) (search rules)

pub returns-in_err-bad : goal.returns-in_err-bad
returns-in_err-bad g c = does_failed (judged_does c.args.earlier c.args.stations.now c.args.riders.now c.args.kept.now c.in_ok-build.ensures c.in_err-bad.ensures) (search rules)

pub returns-in-Some : goal.returns-in-Some
returns-in-Some g c = does_as (judged_does c.args.earlier c.args.stations.now c.args.riders.now c.args.kept.now c.in_ok-build.ensures c.in_ok-bad.ensures)
    (λ a b has it. record { verdict = subst (λ o. IsVerdictAt c.args.earlier (tables_raised c.args.earlier a) (option_map row_name o)) c.in-Some.is it.1; becomes = tt })

pub returns-in_err-drop_old-in-None : goal.returns-in_err-drop_old-in-None
returns-in_err-drop_old-in-None g c =
    does_failed (does_both (judged_does c.args.earlier c.args.stations.now c.args.riders.now c.args.kept.now c.in_ok-build.ensures c.in_ok-bad.ensures)
    (λ a b has it. (it.0.raised.sound, old_stay c.args.earlier a b has.0 it.0)) c.in_err-drop_old-in-None.ensures) (search rules)

pub returns-in_ok-drop_old-in-None : goal.returns-in_ok-drop_old-in-None
returns-in_ok-drop_old-in-None g c =
    does_as (does_both (judged_does c.args.earlier c.args.stations.now c.args.riders.now c.args.kept.now c.in_ok-build.ensures c.in_ok-bad.ensures)
    (λ a b has it. (it.0.raised.sound, old_stay c.args.earlier a b has.0 it.0)) c.in_ok-drop_old-in-None.ensures)
    (λ a d has it. record {
      verdict = subst (λ o. IsVerdictAt c.args.earlier (tables_raised c.args.earlier a) (option_map row_name o)) c.in-None.is it.1.1;
      becomes = raises c.args.earlier a it.0 d it.1.0 it.2;
    })
