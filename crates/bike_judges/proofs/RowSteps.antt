-- Two rows compared column by column.
use Rattle.std.proofs.Common.{◌≡◌, ℕ, drop, length, min, nat_cmp, sym, ◌∙◌}
use Rattle.sqlite_value.specs.Order.{Row, row_cmp}
use Rattle.sqlite_value.specs.Keys.{plain}
use Rattle.sqlite_value.proofs.KeyLemmas.{entry_cmp-plain, entry_cmp_past}

-- past the columns that both rows have, the shorter is first
pub row_past : (a b : Row) (at : ℕ) → at ≡ min (length a) (length b) → row_cmp (drop at a) (drop at b) ≡ nat_cmp (length a) (length b)
row_past a b at e = sym (entry_cmp-plain (drop at a) (drop at b)) ∙ entry_cmp_past plain a b at e
