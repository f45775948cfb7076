use Rattle.bike_http_head.proofs.Fronts.{whole_is_read, none_full, none_many}
use Rattle.bike_http_head.proofs.head.read_head.Goals as goal

pub returns-in-Ok-Complete : goal.returns-in-Ok-Complete
returns-in-Ok-Complete c =
    let within = rw c.in-Ok-Complete.field-0-is at c.in-Ok-Complete.ensures.within in
    let complete = rw c.in-Ok-Complete.field-0-is at c.in-Ok-Complete.ensures.complete in
    whole_is_read _ _ c.min.ensures _ _ _ (search) within complete c.head_of.ensures

pub returns-else-bytes-lt-HEAD_LENGTH : goal.returns-else-bytes-lt-HEAD_LENGTH
returns-else-bytes-lt-HEAD_LENGTH c =
    let partial = rw c.in-Ok-Partial.field-0-is at c.in-Ok-Partial.ensures.partial in
    none_full _ _ c.min.ensures c.if-bytes-lt-HEAD_LENGTH.false partial

pub returns-in-Err : goal.returns-in-Err
returns-in-Err c = none_many _ _ c.min.ensures c.in-Err.ensures.no_room
