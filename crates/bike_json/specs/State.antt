-- Where a writer of JSON stands, and what a series of calls writes.
use Rattle.std.specs.Prelude.{◌≡◌, ◌<◌, ◌⊎◌, ℕ, zero, suc, ◌+◌, List, [], ◌∷◌, ◌++◌, length, Bool, true, false, IsTrue}
use Rattle.std.specs.Prelude.{get_or}
use Rattle.std.specs.Io.KnownBytes.{Keeps, Appends}
use Rattle.bike_stream.specs.Writing.{AppendsFront}
use Rattle.bike_json.specs.Outputs.{OutputState, IsSameOutput}
use Rattle.bike_json.specs.Tree.{comma}
use Rattle.bike_json.specs.declared.level.Level.{Level}
use Rattle.bike_json.specs.declared.level.Level.TheVariants.{Start, Done, EmptyArray, FilledArray, EmptyObject}
use Rattle.bike_json.specs.declared.level.Level.TheVariants.{FilledObject, NamedObject}

-- the levels round the open one, the nearest first
abbrev pub enclosing : List Level → ℕ → List Level
enclosing levels zero = []
enclosing levels (suc n) = get_or levels n Start ∷ enclosing levels n

-- the open level, the ones round it, whether a write failed, and how many bytes the calls wrote that succeeded
pub record Place : Type 0 where
  pub top : Level
  pub round : List Level
  pub failed : Bool
  pub count : ℕ

-- a text that is being written: where it stands, and the output that it goes to
pub record Text : Type 0 where
  pub place : Place
  pub contents : OutputState

-- where every text begins
abbrev pub outset : Place
outset = record { top = Start; round = []; failed = false; count = 0 }

-- a value may come here
abbrev pub takes_value : Level → Bool
takes_value Start = true
takes_value Done = false
takes_value EmptyArray = true
takes_value FilledArray = true
takes_value EmptyObject = false
takes_value FilledObject = false
takes_value NamedObject = true

-- a name may come here, and so may an object's end
abbrev pub takes_name : Level → Bool
takes_name Start = false
takes_name Done = false
takes_name EmptyArray = false
takes_name FilledArray = false
takes_name EmptyObject = true
takes_name FilledObject = true
takes_name NamedObject = false

-- an array's end may come here
abbrev pub takes_array_end : Level → Bool
takes_array_end Start = false
takes_array_end Done = false
takes_array_end EmptyArray = true
takes_array_end FilledArray = true
takes_array_end EmptyObject = false
takes_array_end FilledObject = false
takes_array_end NamedObject = false

-- the open level holds something, so that a comma comes before the next part
abbrev pub has_more : Level → Bool
has_more Start = false
has_more Done = false
has_more EmptyArray = false
has_more FilledArray = true
has_more EmptyObject = false
has_more FilledObject = true
has_more NamedObject = false

-- the level after a value
abbrev pub after_value : Level → Level
after_value Start = Done
after_value Done = Done
after_value EmptyArray = FilledArray
after_value FilledArray = FilledArray
after_value EmptyObject = FilledObject
after_value FilledObject = FilledObject
after_value NamedObject = FilledObject

-- the greatest count, that of a u64
abbrev pub greatest_count : ℕ
greatest_count = 18446744073709551615

-- why a call may fail: the output may refuse bytes, or with these the count would pass its bound
abbrev pub MayFail : OutputState → ℕ → List ℕ → Type 0
MayFail output count bytes = IsTrue output.may_refuse ⊎ (greatest_count < count + length bytes)

-- what calls do to the failure, the count and the bytes that the output holds: after a failure nothing is written; at
-- one, for which there is a cause, a front of the bytes, and not all; without one all of them, which the count gains
abbrev pub Writes : Bool → Bool → ℕ → ℕ → OutputState → OutputState → List ℕ → Type 0
Writes true failed before after old new bytes = (failed ≡ true) × (after ≡ before) × Keeps old.bytes new.bytes
Writes false true before after old new bytes = AppendsFront old.bytes new.bytes bytes × MayFail old before bytes
Writes false false before after old new bytes = Appends old.bytes new.bytes bytes × (after ≡ before + length bytes)

-- calls went from one place to the other and wrote these bytes, or at a failure a front of them
pub record Wrote (from to : Place) (old new : OutputState) (bytes : List ℕ) : Type 0 where
  pub are : Writes from.failed to.failed from.count to.count old new bytes
  pub same : IsSameOutput old new

-- the same of the next part, before which stands a comma where the open level holds something
abbrev pub WroteNext : Place → Place → OutputState → OutputState → List ℕ → Type 0
WroteNext from to old new text = Wrote from to old new (comma (has_more from.top) ++ text)

-- the open level and those round it
abbrev pub IsAt : Place → Level → List Level → Type 0
IsAt place top round = (place.top ≡ top) × (place.round ≡ round)
