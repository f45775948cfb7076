-- What serving connections leaves of a desk, whatever clients send and whatever becomes of the sockets.
use Rattle.std.specs.Prelude.{◌≡◌, ◌≤◌, false, List, ◌++◌, length}
use Rattle.sqlite_trees.specs.declared.store.Store.{Ghosts}
use Rattle.bike_operator.specs.Operator.{Operator}
use Rattle.bike_operator.specs.Runs.{Call, after}
use Rattle.bike_operator.specs.Sound.{AreCalls}
use Rattle.sqlite_trees.specs.Tree.{Trees}
use Rattle.bike_schema.specs.Stands.{AllLeft, TreesStandFor}
use Rattle.bike_desk.specs.Desk.{DeskValue, desk_state, IsAt, TreesStandForEither}

-- Some good requests were served. A desk that goes on is at the operator after them; all that a crash may leave stands
-- for that operator, or for the one after at most one request more.
pub record ServesRequests {S : Type 0} (g : Ghosts S) (desk : DeskValue S) (s : Operator) : Type 0 where
  pub calls : List Call
  pub more : List Call
  pub one : length more ≤ 1
  pub good : AreCalls calls
  pub good_more : AreCalls more
  pub goes_on : desk.is_stopped ≡ false → IsAt g desk (after s calls)
  pub left : AllLeft (desk_state g desk) (TreesStandForEither (after s calls) (after s (calls ++ more)))

-- the trees stand for the operator after good requests
abbrev pub StandsAfterRequests : Operator → Trees → Type 0
StandsAfterRequests s trees = (calls : List Call) × AreCalls calls × TreesStandFor (after s calls) trees
