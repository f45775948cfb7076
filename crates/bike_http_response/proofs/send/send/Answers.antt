use Rattle.std.proofs.Common.{refl}
use Rattle.bike_json.proofs.Series.{Wrote_err}
use Rattle.bike_http_response.proofs.Sending.{front_then}
use Rattle.bike_http_response.proofs.send.send.Goals as goal

pub returns-in-Err : goal.returns-in-Err
returns-in-Err g c =
    let wrote = rw c.new-json.ensures at c.write_body.ensures.wrote in
    let (front, cause) = rw c.in-Err.is at (Wrote_err c.outcome.result wrote refl c.outcome.ensures) in
    let begun = rw (c.as_bytes.ensures.value, c.as_str.ensures.value, c.head_text-head.ensures, c.status-status.ensures, c.allow.ensures, c.requires) at c.in_ok-write_whole.ensures.ok in
    front_then _ _ _ _ _ begun front
