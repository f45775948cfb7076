use Rattle.std.proofs.Common.{◌-◌, ◌<◌, ◌≤◌, length}
use Rattle.httparse.specs.Grammar.{HasNoRequest}
use Rattle.bike_http_request.specs.Received.{Grew}
use Rattle.bike_http_request.proofs.incoming.receive_head.Given as goal

abbrev pub invariant-loop-input : goal.invariant-loop-input
invariant-loop-input g l = record {
  grew : Grew (g.R.Read.remaining l.fn.reader) (g.R.Read.remaining l.reader) l.fn.input l.input;
  short : length l.input < 8192;
  none : HasNoRequest l.input;
  fewer : l.reads.count ≤ l.fn.reads.count;
}

abbrev pub decreases-loop-input : goal.decreases-loop-input
decreases-loop-input g l = 8192 - length l.input
