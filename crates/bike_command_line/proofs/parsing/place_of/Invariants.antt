use Rattle.std.proofs.Common.{◌≤◌, ◌+◌, ℕ, List, Bor, length, map, take}
use Rattle.bike_command_line.specs.Told.{Against}
use Rattle.bike_command_line.proofs.parsing.place_of.Given as goal

-- clap has this against the words before the place, and with the next one too
abbrev pub invariant-loop-place : goal.invariant-loop-place
invariant-loop-place l = record {
  within : l.place ≤ length l.words;
  there : Against (take l.place (map (λ (w : Bor (List ℕ)). w.now) l.words)) l.kind;
  after : Against (take (l.place + 1) (map (λ (w : Bor (List ℕ)). w.now) l.words)) l.kind;
}

abbrev pub decreases-loop-place : goal.decreases-loop-place
decreases-loop-place l = l.place
