use Rattle.std.proofs.Common.{option_map, sym, ap, ◌∙◌}
use Rattle.bike_fleet_reads.proofs.ColumnLemmas.{holds_types}
use Rattle.bike_fleet_reads.proofs.by_type.by_type_at.Goals as goal

pub returns-in-Some : goal.returns-in-Some
returns-in-Some c = holds_types _ _ _ c.counts_by_type.ensures.reads c.in_ok-text.ensures.ok (sym c.in_ok-by_type.ensures ∙ ap (option_map (λ list. list.items)) c.in-Some.is)
