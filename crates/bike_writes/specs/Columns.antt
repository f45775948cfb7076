-- The columns of a place.
use Rattle.std.specs.Prelude.{[], ◌∷◌, option_map}
use Rattle.sqlite_value.specs.declared.value.Value.TheVariants.{Text}
use Rattle.sqlite_value.specs.Order.{Row}
use Rattle.sqlite.specs.Values.{or_null}
use Rattle.bike_book.specs.Rows.{number_value}
use Rattle.bike_writes.specs.declared.fleet.PlaceColumns.{PlaceColumns}

-- station_id, dock, rental, truck, ord
abbrev pub columns_of : PlaceColumns → Row
columns_of c =
    or_null Text (option_map (λ text. text.now) c.station) ∷ or_null number_value c.dock ∷ or_null number_value c.rental
    ∷ or_null number_value c.truck ∷ or_null number_value c.order
    ∷ []
