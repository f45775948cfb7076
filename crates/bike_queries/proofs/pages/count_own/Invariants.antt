use Rattle.std.proofs.Common.{◌≡◌, take, true}
use Rattle.std.specs.List.{All}
use Rattle.bike_queries.specs.Pages.{is_own}
use Rattle.bike_queries.proofs.pages.count_own.Given as goal

-- all rows so far are the station's own
abbrev pub invariant-loop-row : goal.invariant-loop-row
invariant-loop-row l = (l.own ≡ l.row-index) × All (λ row. is_own l.id row ≡ true) (take l.row-index l.rows)
