use Rattle.std.proofs.Common.{◌≡◌, ◌≤◌, false, List, IfSome}
use Rattle.sqlite.specs.State.{HasCleanDisk}
use Rattle.sqlite_trees.specs.View.{doubt}
use Rattle.bike_operator.specs.Operator.{Operator}
use Rattle.bike_operator.specs.Runs.{Call, after}
use Rattle.bike_operator.specs.Sound.{AreCalls}
use Rattle.bike_desk.specs.Desk.{desk_state, IsAt}
use Rattle.bike_server.proofs.InOrder.{SoFar}
use Rattle.bike_server.proofs.server.serve_count.Given as goal

-- the desk is at the operator after the requests so far, and each connection so far was answered
abbrev pub invariant-loop-turn : goal.invariant-loop-turn
invariant-loop-turn g l = record {
  clean : doubt (desk_state g.S.Store l.fn.desk).is_clean ≤ doubt (desk_state g.S.Store l.desk).is_clean;
  goes_on : l.fn.desk.is_stopped ≡ false → l.desk.is_stopped ≡ false;
  ran : HasCleanDisk (desk_state g.S.Store l.desk) → (s : Operator) → IsAt g.S.Store l.fn.desk s
      → (calls : List Call) × AreCalls calls × IsAt g.S.Store l.desk (after s calls);
  served : HasCleanDisk (desk_state g.S.Store l.desk) → (s : Operator) → IsAt g.S.Store l.fn.desk s
      → IfSome (g.A.Arrivals.known l.fn.arrivals) (λ before. SoFar g.S.Store l.desk s l._turn before (g.A.Arrivals.known l.arrivals));
}
