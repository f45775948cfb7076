use Rattle.std.proofs.Common.{sym, ap, ◌∙◌, Some, None}
use Rattle.bike_texts.proofs.Unescaping.{no_ascii, no_long_ascii, ascii_read}
use Rattle.bike_texts.proofs.escapes.read_ascii.Goals as goal

pub returns-in_err-bytes-clause-read : goal.returns-in_err-bytes-clause-read
returns-in_err-bytes-clause-read c = rw c.from_residual.ensures (no_long_ascii c.args.text.now (rw c.as_bytes.ensures.value at c.in_err-bytes.ensures.none))

pub returns-in_default-clause-read : goal.returns-in_default-clause-read
returns-in_default-clause-read c =
    sym (no_ascii c.args.text.now c.in_ok-bytes.bytes.items (rw c.as_bytes.ensures.value at c.in_ok-bytes.ensures.read) (λ u. c.in_default.ensures.cases.0 (rw c.as_slice.ensures.value u)))

pub returns-in_err-checked-clause-read : goal.returns-in_err-checked-clause-read
returns-in_err-checked-clause-read c =
    let bytes = rw c.as_bytes.ensures.value at c.in_ok-bytes.ensures.read in
    let none = rw (c.in-Ok.ensures.cases.0, c.as_slice.ensures.value) at c.in_err-checked.ensures.read in
    rw c.from_residual-in_err-checked.ensures (ascii_read c.args.text.now c.in_ok-bytes.bytes.items None bytes none)

pub returns-clause-read : goal.returns-clause-read
returns-clause-read c =
    let bytes = rw c.as_bytes.ensures.value at c.in_ok-bytes.ensures.read in
    let read = rw (c.in-Ok.ensures.cases.0, c.as_slice.ensures.value) at c.in_ok-checked.ensures.read in
    ascii_read c.args.text.now c.in_ok-bytes.bytes.items (Some c.copy_ascii.result.bytes) bytes (read ∙ ap Some (sym c.copy_ascii.ensures))
