use Rattle.std.proofs.Common.{◌∙◌, ap, pos}
use Rattle.std.specs.List.{filter_map}
use Rattle.bike_operator.specs.Sound.{befores}
use Rattle.bike_readings.specs.ReadOff.{rider_in}
use Rattle.bike_schema.specs.Tables.{tables_of}
use Rattle.bike_ledger_rules.specs.declared.books.BeforeSum.{BeforeSum}
use Rattle.bike_ledger_rules.proofs.BooksFolds.{more, before_summed, summed_from_none}
use Rattle.bike_ledger_rules.proofs.ReadLaws.{reads_ours}
use Rattle.bike_ledger_rules.proofs.RiderLines.{fold_riders}
use Rattle.bike_ledger_rules.proofs.Widths.{riders_wide}
use Rattle.bike_ledger_rules.proofs.books.sum_before.Goals as goal

pub returns : goal.returns
returns g c = reads_ours c.fold_lines.ensures (λ db ours before is.
    let t = tables_of db in
    let none : BeforeSum = record { sum = pos 0 } in
    ap (λ (a : BeforeSum). a.sum) (is ∙ fold_riders t (riders_wide db ours.has) more none)
    ∙ before_summed t.riders none ∙ summed_from_none (befores (filter_map rider_in t.riders)))
