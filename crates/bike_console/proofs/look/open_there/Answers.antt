use Rattle.std.proofs.Common.{refl, inl}
use Rattle.sqlite.specs.declared.error.Error.TheVariants.{SqliteFailure}
use Rattle.sqlite.specs.declared.error.ErrorCode.TheVariants as code
use Rattle.bike_console.proofs.look.open_there.Goals as goal

pub returns-in_default-clause-barred : goal.returns-in_default-clause-barred
returns-in_default-clause-barred g c = (SqliteFailure code.CannotOpen, refl, inl refl)

pub returns-then-not-is_at-clause-barred : goal.returns-then-not-is_at-clause-barred
returns-then-not-is_at-clause-barred g c = (SqliteFailure code.CannotOpen, refl, inl refl)
