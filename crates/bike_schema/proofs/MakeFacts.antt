-- Each statement that makes a table makes that table, and each that makes an index makes an index.
use Rattle.std.proofs.Common.{◌≡◌, List, ℕ, [], ◌∷◌, get_or, map, Ok, refl}
use Rattle.std.specs.List.{AllByRecursion, AllZip}
use Rattle.sqlite_resolve.specs.Compile.{first, table_defined_by}
use Rattle.sqlite_tied.specs.Compute.{everything}
use Rattle.bike_sql.specs.Layout.{Layout, table_of}
use Rattle.bike_sql.proofs.IndexLaw.{IsOnlyIndex}
use Rattle.bike_book.specs.Tables.{TableName, table_place, Meta, System, Plans, Segments, Types, Regions, Stations, Docks, Bikes, Trucks, Riders, Rentals, Orders, Entries, History, MoreNames, Books}
use Rattle.bike_schema.specs.Layouts.{layout_of, every_table}
use Rattle.bike_schema.specs.Creates.{table_texts, index_texts}
use Rattle.bike_schema.specs.Indexes.{every_index}
use Rattle.bike_schema.proofs.IndexLemmas.{Tells}
use Rattle.bike_schema.proofs.MakeTexts.{IsOnlyCreate}

-- the text is a CREATE TABLE and nothing else, and its table is of this layout
pub record Declares (text : List ℕ) (layout : Layout) : Type 0 where
  pub only : IsOnlyCreate text (first text)
  pub defined : table_defined_by text ≡ Ok (table_of layout 0)

abbrev pub text_of : TableName → List ℕ
text_of t = get_or table_texts (table_place t) []

pub texts_are : map text_of every_table ≡ table_texts
texts_are = refl

pub declared : (t : TableName) → Declares (text_of t) (layout_of t)
unfolding everything
declared Meta = record { only = (refl, refl); defined = refl }
declared System = record { only = (refl, refl); defined = refl }
declared Plans = record { only = (refl, refl); defined = refl }
declared Segments = record { only = (refl, refl); defined = refl }
declared Types = record { only = (refl, refl); defined = refl }
declared Regions = record { only = (refl, refl); defined = refl }
declared Stations = record { only = (refl, refl); defined = refl }
declared Docks = record { only = (refl, refl); defined = refl }
declared Bikes = record { only = (refl, refl); defined = refl }
declared Trucks = record { only = (refl, refl); defined = refl }
declared Riders = record { only = (refl, refl); defined = refl }
declared Rentals = record { only = (refl, refl); defined = refl }
declared Orders = record { only = (refl, refl); defined = refl }
declared Entries = record { only = (refl, refl); defined = refl }
declared History = record { only = (refl, refl); defined = refl }
declared MoreNames = record { only = (refl, refl); defined = refl }
declared Books = record { only = (refl, refl); defined = refl }

pub index_only : AllByRecursion (λ text. IsOnlyIndex (first text)) index_texts
unfolding everything
index_only = ((refl, refl), ((refl, refl), ((refl, refl), ((refl, refl), ((refl, refl), ((refl, refl), tt))))))

-- the statement of each index tells it
pub each_told : AllZip Tells index_texts every_index
unfolding everything
each_told = (
  record { only = ((refl, refl), refl, refl); places = 4 ∷ 5 ∷ []; defined = λ tree. refl; are = λ tree. refl },
  (
    record { only = ((refl, refl), refl, refl); places = 7 ∷ []; defined = λ tree. refl; are = λ tree. refl },
    (
      record { only = ((refl, refl), refl, refl); places = 2 ∷ []; defined = λ tree. refl; are = λ tree. refl },
      (
        record { only = ((refl, refl), refl, refl); places = 3 ∷ []; defined = λ tree. refl; are = λ tree. refl },
        (
          record { only = ((refl, refl), refl, refl); places = 1 ∷ 2 ∷ 3 ∷ 4 ∷ []; defined = λ tree. refl; are = λ tree. refl },
          (record { only = ((refl, refl), refl, refl); places = 3 ∷ 4 ∷ []; defined = λ tree. refl; are = λ tree. refl }, tt),
        ),
      ),
    ),
  ),
)
