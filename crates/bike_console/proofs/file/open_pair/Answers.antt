use Rattle.std.proofs.Common.{refl, inl, inr}
use Rattle.sqlite.specs.declared.error.Error.TheVariants.{SqliteFailure}
use Rattle.sqlite.specs.declared.error.ErrorCode.TheVariants as code
use Rattle.bike_console.proofs.file.open_pair.Goals as goal

pub returns-then-not-is_plain-clause-barred : goal.returns-then-not-is_plain-clause-barred
returns-then-not-is_plain-clause-barred g c = (SqliteFailure code.CannotOpen, refl, inl refl)

pub returns-in-Err-OutOfMemory-clause-barred : goal.returns-in-Err-OutOfMemory-clause-barred
returns-in-Err-OutOfMemory-clause-barred g c = (SqliteFailure code.OutOfMemory, refl, inr (inl refl))

pub returns-in-Err-Io-clause-barred : goal.returns-in-Err-Io-clause-barred
returns-in-Err-Io-clause-barred g c = (SqliteFailure code.OutOfMemory, refl, inr (inl refl))

pub returns-in-Err-clause-barred : goal.returns-in-Err-clause-barred
returns-in-Err-clause-barred g c = (SqliteFailure code.CannotOpen, refl, inl refl)
