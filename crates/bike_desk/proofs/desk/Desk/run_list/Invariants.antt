use Rattle.std.proofs.Common.{◌≡◌, ◌≤◌, false, take, length, vec_len, vec_capacity}
use Rattle.sqlite_trees.specs.View.{doubt}
use Rattle.sqlite.specs.State.{HasCleanDisk}
use Rattle.bike_operator.specs.Operator.{Operator}
use Rattle.bike_operator.specs.Runs.{after, replies}
use Rattle.bike_schema.specs.Makes.{OthersStay}
use Rattle.bike_desk.specs.Desk.{desk_state, IsAt}
use Rattle.bike_desk.proofs.desk.Desk.run_list.Given as goal

-- the requests so far are answered, and there is room for the other replies
abbrev pub invariant-calls : goal.invariant-calls
invariant-calls g l = record {
  count : length l.replies.items ≡ l.moment-index;
  len : vec_len l.replies ≡ l.moment-index;
  room : length l.calls ≤ vec_capacity l.replies;
  clean : doubt (desk_state g.S.Store l.fn.self).is_clean ≤ doubt (desk_state g.S.Store l.self).is_clean;
  so_far : HasCleanDisk (desk_state g.S.Store l.self) → (s : Operator) → IsAt g.S.Store l.fn.self s
      → (l.replies.items ≡ replies s (take l.moment-index l.calls)) × IsAt g.S.Store l.self (after s (take l.moment-index l.calls));
  others : HasCleanDisk (desk_state g.S.Store l.self) → (s : Operator) → IsAt g.S.Store l.fn.self s
      → OthersStay (desk_state g.S.Store l.fn.self).now (desk_state g.S.Store l.self).now;
  goes_on : l.self.is_stopped ≡ false;
}
