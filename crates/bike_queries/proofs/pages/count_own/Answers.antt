use Rattle.std.proofs.Common.{true, sym, ap, ◌∙◌, ◌+◌, ◌≡◌}
use Rattle.std.proofs.lemmas.List.Elements.{All-more}
use Rattle.bike_queries.specs.Pages.{is_own}
use Rattle.bike_queries.proofs.pages.count_own.Goals as goal

pub loop-row-preserved : goal.loop-row-preserved
loop-row-preserved c =
    let id = c.args.id.now in
    let own : is_own id c.row-item.result ≡ true = sym c.is_own.ensures ∙ c.if-not-is_own.false in (
      ap (λ k. k + 1) c.loop-row.invariant.0,
      All-more (λ row. is_own id row ≡ true) c.args.rows.now c.loop-row.row-index c.row-item.result c.loop-row-test.true c.loop-row.invariant.1
          (ap (is_own id) (sym c.row-item.is) ∙ own),
    )
