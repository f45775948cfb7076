use Rattle.std.proofs.Common.{◌-◌, ◌≤◌, length}
use Rattle.bike_http_request.specs.Received.{Grew}
use Rattle.bike_http_request.proofs.incoming.receive_until.Given as goal

abbrev pub invariant-loop-input : goal.invariant-loop-input
invariant-loop-input g l = record {
  grew : Grew (g.R.Read.remaining l.fn.reader) (g.R.Read.remaining l.reader) l.fn.input l.input;
  fewer : l.reads.count ≤ l.fn.reads.count;
}

abbrev pub decreases-loop-input : goal.decreases-loop-input
decreases-loop-input g l = l.end - length l.input
