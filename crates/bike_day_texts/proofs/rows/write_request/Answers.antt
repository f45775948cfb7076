use Rattle.std.proofs.Common.{sym}
use Rattle.bike_day_texts.proofs.rows.write_request.Goals as goal

pub returns : goal.returns
returns g c =
    rw (sym c.request.view_is) (
    rw (
      c.as_bytes.ensures.value,
      c.format.ensures.text,
      c.as_bytes-2.ensures.value,
      c.as_str.ensures.value,
      c.text-moment.ensures,
      c.as_bytes-3.ensures.value,
      c.as_bytes-4.ensures.value,
      c.as_bytes-5.ensures.value,
      c.as_bytes-6.ensures.value,
    )
    at c.write_line.ensures)
