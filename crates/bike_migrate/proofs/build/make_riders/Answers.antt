use Rattle.bike_book.specs.Tables.{Books}
use Rattle.bike_schema.specs.Layouts.{name_of}
use Rattle.bike_migrate.proofs.StepLemmas.{does_under, does_both}
use Rattle.bike_migrate.proofs.build.make_riders.Goals as goal

pub returns : goal.returns
returns g c = does_both (does_under (λ db unnamed. (unnamed.0, tt)) c.in_ok-create_riders.ensures) (λ a b unnamed made. let books = made.unnamed (name_of Books) unnamed.1.0 in (books, tt))
    c.create_books.ensures
