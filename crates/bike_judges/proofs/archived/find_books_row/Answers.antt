use Rattle.bike_sql.proofs.CallLaws.{read_returns}
use Rattle.bike_sql.proofs.ParamLemmas.{bindings}
use Rattle.bike_schema.specs.Tables.{IsOurs}
use Rattle.bike_judges.proofs.ArchivedLaw.{finds_books}
use Rattle.bike_judges.proofs.archived.find_books_row.Goals as goal

pub returns : goal.returns
returns g c = read_returns (λ db (ours : IsOurs db). finds_books.finds db ours.has) c.first_row.ensures (search bindings)
