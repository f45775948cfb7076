mod StatementLemmas
mod ColumnLemmas
mod FoundLemmas
mod LoadLemmas
mod LastLemmas
mod BrokenLemmas
