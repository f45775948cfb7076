use Rattle.std.proofs.Common.{ap}
use Rattle.sqlite_value.specs.Order.{column}
use Rattle.bike_schema.proofs.ReadLemmas.{ident_read, language_read}
use Rattle.bike_office_reads.proofs.names.read_system_key.Goals as goal

pub returns : goal.returns
returns c = λ r is.
    let id_is = ident_read c.in_ok-system_id.ensures.ok (ap (λ row. column row 1) is) in
    let language_is = language_read c.in_ok-language.ensures.ok (ap (λ row. column row 2) is) in
    λ i. (id_is i, language_is i)
