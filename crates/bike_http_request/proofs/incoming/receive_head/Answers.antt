use Rattle.std.proofs.Common.{ap, sym, subst, length, arith}
use Rattle.httparse.specs.Grammar.{HasNoRequest}
use Rattle.bike_http_request.proofs.Receiving.{grew_nothing, nothing_none}
use Rattle.bike_http_request.proofs.incoming.receive_head.Goals as goal

pub loop-input-init : goal.loop-input-init
loop-input-init g c = record {
  grew = grew_nothing _ _;
  short = omega (arith, ap length c.requires);
  none = subst HasNoRequest (sym c.requires) nothing_none;
  fewer = omega arith;
}
