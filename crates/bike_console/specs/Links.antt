-- Logs at the names of links to a database file.
use Rattle.std.specs.Prelude.{◌≡◌, ◌≤◌, Option, Some, None}
use Rattle.bike_console.specs.declared.found.FoundFile.{FoundFile}
use Rattle.bike_console.specs.declared.log.TheConstants.{LEAST_LOG}

-- both names lead to one file
abbrev pub IsOne : FoundFile → FoundFile → Type 0
IsOne file other = (file.device ≡ other.device) × (file.number ≡ other.number)

-- a log is the one that the engine reads
abbrev pub IsRead : FoundFile → Option FoundFile → Type 0
IsRead log None = ⊥
IsRead log (Some read) = IsOne log read

-- A LOG THAT IS PASSED OVER: it is long enough to hold a commit, and the engine reads another one or none.
abbrev pub IsPassedOver : FoundFile → Option FoundFile → Type 0
IsPassedOver log read = (LEAST_LOG ≤ log.length) × (¬ IsRead log read)
