use Rattle.std.proofs.Common.{sym, subst, ◌∙◌, max}
use Rattle.bike_schema.specs.Tables.{tables_of}
use Rattle.bike_ledger_rules.specs.declared.riders.RiderNumbers.{RiderNumbers}
use Rattle.bike_ledger_rules.specs.Riders.{behind, AreBelow}
use Rattle.bike_ledger_rules.proofs.ReadLaws.{reads_ours_as}
use Rattle.bike_ledger_rules.proofs.RiderFolds.{all_below}
use Rattle.bike_ledger_rules.proofs.RiderLines.{fold_riders}
use Rattle.bike_ledger_rules.proofs.Widths.{riders_wide}
use Rattle.bike_ledger_rules.proofs.riders.riders_end.Goals as goal

pub returns : goal.returns
returns g c = reads_ours_as c.in_ok-numbers.ensures (λ db ours is.
    let t = tables_of db in
    let none : RiderNumbers = record { end = 0 } in
    let rows = fold_riders t (riders_wide db ours.has) (λ (a : RiderNumbers) o. record a { end = max a.end (behind o) }) none in
    subst (λ (a : RiderNumbers). AreBelow a.end t.riders) (sym (is ∙ rows)) (all_below t.riders none))
