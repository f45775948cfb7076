-- What writing a line owes.
use Rattle.std.specs.Prelude.{ℕ, List, Option, Result, Ok, Err}
use Rattle.std.specs.Io.KnownBytes.{Keeps, Appends}
use Rattle.bike_stream.specs.Writing.{AppendsFront}
use Rattle.bike_day_texts.specs.declared.fault.LineFault.{LineFault}
use Rattle.bike_day_texts.specs.declared.fault.LineFault.TheVariants.{Write, NoMemory}

-- The line was written whole; or a front of it, and not all; or nothing, where memory was refused.
abbrev pub WritesLine : {A : Type 0} → Option (List ℕ) → Option (List ℕ) → List ℕ → Result A LineFault → Type 0
WritesLine old new line (Ok x) = Appends old new line
WritesLine old new line (Err Write) = AppendsFront old new line
WritesLine old new line (Err NoMemory) = Keeps old new
