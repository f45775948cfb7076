-- What a statement inside a transaction is, and what ends one.
use Rattle.std.specs.Prelude.{◌≡◌, ℕ, false, List, Ok, IsTrue}
use Rattle.sqlite_schema.specs.declared.schema.Schema.{Schema}
use Rattle.sqlite_resolve.specs.declared.compiled.Compiled.{Compiled}
use Rattle.sqlite.specs.Calls.{IsWrite}
use Rattle.sqlite.specs.Listing.{understood}
use Rattle.sqlite.specs.State.{State}

-- In this schema the text is a write: neither does it end the transaction, nor begin one.
abbrev pub IsWriteIn : Schema → List ℕ → Type 0
IsWriteIn schema text = (c : Compiled) → understood schema text ≡ Ok c → IsWrite c.command

-- no transaction is open, and what is seen is what is committed
pub record IsEnded (old new : State) : Type 0 where
  pub autocommit : new.in_transaction ≡ false
  pub undone : IsTrue new.is_open → new.now ≡ old.committed
  pub committed : IsTrue new.is_open → new.committed ≡ old.committed
  pub was_open : IsTrue new.is_open → IsTrue old.is_open
