use Rattle.std.proofs.Common.{◌≡◌, string_bytes, take}
use Rattle.bike_batch.specs.Again.{lines_again}
use Rattle.bike_batch.proofs.history.page_text.Given as goal

abbrev pub invariant-loop-request : goal.invariant-loop-request
invariant-loop-request l = string_bytes l.text ≡ lines_again (take l.request-index l.requests)
