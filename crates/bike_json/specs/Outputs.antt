-- What a text is written to, and what it does with bytes.
use Rattle.std.specs.Prelude.{◌≡◌, List, ℕ, Option, Bool, IsTrue}
use Rattle.std.specs.Io.KnownBytes.{Appends}
use Rattle.bike_stream.specs.Writing.{AppendsFront}

-- the bytes that an output holds, where they are known, and whether it may refuse some
pub record OutputState : Type 0 where
  pub bytes : Option (List ℕ)
  pub may_refuse : Bool

-- the same output, with other bytes
abbrev pub IsSameOutput : OutputState → OutputState → Type 0
IsSameOutput old new = new.may_refuse ≡ old.may_refuse

-- it took all of these bytes
abbrev pub Takes : OutputState → OutputState → List ℕ → Type 0
Takes old new bytes = Appends old.bytes new.bytes bytes × IsSameOutput old new

-- it took a front of them, and not all, since it may refuse bytes
abbrev pub Refuses : OutputState → OutputState → List ℕ → Type 0
Refuses old new bytes = AppendsFront old.bytes new.bytes bytes × IsSameOutput old new × IsTrue old.may_refuse
