-- Answers that may come before all of their request was read.
use Rattle.std.specs.Prelude.{◌≡◌, ◌⊎◌, Result, Ok, Err}
use Rattle.bike_http.specs.declared.exchange.Served.{Served}
use Rattle.bike_http.specs.declared.exchange.Served.TheVariants.{Empty, Status}
use Rattle.bike_http.specs.declared.exchange.ServeFault.{ServeFault}

-- an answer of status 400, 404, 405 or 413
abbrev pub MayBeEarly : Result Served ServeFault → Type 0
MayBeEarly (Ok Empty) = ⊥
MayBeEarly (Ok (Status code)) = (code ≡ 400) ⊎ ((code ≡ 404) ⊎ ((code ≡ 405) ⊎ (code ≡ 413)))
MayBeEarly (Err fault) = ⊥
