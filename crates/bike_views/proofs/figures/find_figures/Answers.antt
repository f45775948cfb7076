use Rattle.std.proofs.Common.{rules, max, sym, ◌∙◌}
use Rattle.bike_sql.proofs.ChainLaws.{reads_as, reads_both, reads_failed}
use Rattle.bike_views.proofs.figures.find_figures.Goals as goal

pub returns-in_err-last : goal.returns-in_err-last
returns-in_err-last g c =
    reads_failed (reads_both (reads_both (reads_both (reads_both c.in_ok-since.ensures c.in_ok-rentals.ensures) c.in_ok-orders.ensures) c.in_ok-entries.ensures) c.in_err-last.ensures) (search rules)

pub returns : goal.returns
returns g c = reads_as (reads_both (reads_both (reads_both (reads_both c.in_ok-since.ensures c.in_ok-rentals.ensures) c.in_ok-orders.ensures) c.in_ok-entries.ensures) c.in_ok-last.ensures) (λ db it s h.
    let since = it.0.0.0.0 s h in
    let last = it.1 s h in
    let now = c.later.ensures.value ∙ (λ i. max (since i) (last i).moment) ∙ sym h.listing.now_is in
    λ i. record { now = now i; rentals = it.0.0.0.1 s h i; orders = it.0.0.1 s h i; entries = it.0.1 s h i; requests = (last i).number })
