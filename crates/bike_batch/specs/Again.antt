-- The history as request lines, which send its requests again.
use Rattle.std.specs.Prelude.{ℕ, List, [], ◌∷◌, ◌++◌}
use Rattle.std.specs.List.{flat_map}
use Rattle.bike_operator.specs.Operator.{Operator}
use Rattle.bike_operator.specs.Requests.{RequestTexts, request_texts, line_again}
use Rattle.bike_queries.specs.Requests.{requests_behind}

-- the lines of requests, each with a line feed
abbrev pub lines_again : List RequestTexts → List ℕ
lines_again = flat_map (λ x. line_again x ++ 10 ∷ [])

-- THE HISTORY AS REQUEST LINES: what is behind a number, each with its moment and a line feed
abbrev pub history_text : Operator → ℕ → List ℕ
history_text s number = flat_map (λ e. line_again (request_texts e) ++ 10 ∷ []) (requests_behind s number)
