-- Why a statement failed.
use Rattle.sqlite_syntax.specs.declared.error.ParseError.TheVariants as parse
use Rattle.sqlite_resolve.specs.declared.error.CompileError.TheVariants as compile
use Rattle.sqlite.specs.declared.error.ErrorCode.TheVariants as code
use Rattle.sqlite.specs.declared.error.Error.{Error}
use Rattle.sqlite.specs.declared.error.Error.TheVariants.{SqliteFailure, SqlInputError}
use Rattle.bike_schema.specs.declared.fault.StatementFault.{StatementFault}
use Rattle.bike_schema.specs.declared.fault.StatementFault.TheVariants.{NoMemory, StoreFailed}

-- an error of the engine as a fault: each way in which it tells that it wanted memory, and every other error
abbrev pub fault_of : Error → StatementFault
fault_of (SqliteFailure code.OutOfMemory) = NoMemory
fault_of (SqlInputError compile.OutOfMemory) = NoMemory
fault_of (SqlInputError (compile.Parse parse.OutOfMemory)) = NoMemory
fault_of _ = StoreFailed
