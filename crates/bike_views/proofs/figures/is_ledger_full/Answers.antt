use Rattle.std.proofs.Common.{◌+◌, ◌<◌, arith, nat_le, sym, subst, ◌∙◌}
use Rattle.bike_sql.proofs.ChainLaws.{reads_as}
use Rattle.bike_operator.specs.Operator.{last_number}
use Rattle.bike_operator.specs.declared.limits.TheConstants.{MOST_BIKES, MOST_ENTRIES}
use Rattle.bike_views.proofs.OpenLaws.{open_of, open_sound}
use Rattle.bike_views.proofs.figures.is_ledger_full.Goals as goal

pub returns-then-entries : goal.returns-then-entries
returns-then-entries g c = open_sound _ (λ s m sound are.
    let few : last_number s.entries + MOST_BIKES < MOST_ENTRIES = subst (λ n. n + MOST_BIKES < MOST_ENTRIES) are (omega arith) in
    sym (c.ledger_room_law.ensures.room s sound few))

pub returns : goal.returns
returns g c = open_of (reads_as c.in_ok-open.ensures (λ db it s h are.
    let entries = c.from.ensures ∙ are in
    let open_now = c.from-2.ensures ∙ it s h in
    λ i. nat_le (c.from-3.ensures i) (entries i + open_now i)))
