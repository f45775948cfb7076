use Rattle.std.proofs.Common.{sym, subst}
use Rattle.bike_operator.specs.Operator.{last_number}
use Rattle.bike_book.specs.Found.{IsLast, last_row}
use Rattle.bike_book.specs.Tables.{Orders}
use Rattle.bike_book.proofs.FoundNumbers.{found_numbers}
use Rattle.bike_schema.proofs.AnswerLemmas.{answers_made}
use Rattle.bike_fleet_reads.proofs.orders.order_count.Goals as goal

pub returns : goal.returns
returns g c = answers_made c.in_ok-row.ensures c.last_of.ensures (λ db x is last s h.
    let none_archived = subst (λ archived. IsLast archived (last_number s.orders) (last_row s h.listed Orders)) h.sound.orders.all_orders (found_numbers s h.listed h.sound h.listing).last_order in
    last _ (subst (IsLast 0 _) (sym (is s h)) none_archived))
