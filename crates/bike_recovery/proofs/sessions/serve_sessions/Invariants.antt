use Rattle.std.proofs.Common.{◌≡◌, ◌≤◌, map, take, length, vec_len, vec_capacity}
use Rattle.sqlite.specs.State.{HasCleanDisk}
use Rattle.bike_operator.specs.Operator.{Operator}
use Rattle.bike_desk.specs.Desk.{desk_state, IsAt}
use Rattle.bike_recovery.specs.SessionsServed.{ServesSessions}
use Rattle.bike_recovery.proofs.sessions.serve_sessions.Given as goal

-- the sessions so far are served, and there is room for what the others are told
abbrev pub invariant-sessions : goal.invariant-sessions
invariant-sessions g l = record {
  len : vec_len l.told ≡ l.calls-index;
  room : length l.sessions ≤ vec_capacity l.told;
  so_far : HasCleanDisk (desk_state g.S.Store l.now) → (s : Operator) → IsAt g.S.Store l.fn.desk s
      → ServesSessions g.S.Store l.now s (map (λ calls. calls.items) (take l.calls-index l.sessions)) (map (λ a. a.replies.items) l.told.items);
}
