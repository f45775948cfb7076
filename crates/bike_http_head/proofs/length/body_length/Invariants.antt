use Rattle.std.proofs.Common.{◌≡◌, drop, map}
use Rattle.httparse.specs.Spans.{header_bytes}
use Rattle.bike_http_head.specs.Length.{body_length}
use Rattle.bike_http_head.proofs.Fields.{left}
use Rattle.bike_http_head.proofs.length.body_length.Given as goal

abbrev pub invariant-loop-at : goal.invariant-loop-at
invariant-loop-at l = body_length (map (header_bytes l.bytes) l.fields) ≡ left l.told (drop l.at (map (header_bytes l.bytes) l.fields))
