-- Of two demands on the keys of a table the first failing of both is the lesser.
use Rattle.std.proofs.Common.{◌≡◌, Bool, true, false, cond, Option, Some, None, Ordering, refl, sym, ap, ◌∙◌}
use Rattle.std.specs.Ordering.{is_lt, ordering_reverse}
use Rattle.std.specs.declared.cmp.Ordering.TheVariants.{Less, Equal, Greater}
use Rattle.sqlite_value.specs.Order.{Row, row_cmp}
use Rattle.sqlite_value.proofs.OrderLemmas.{row_cmp_total}
use Rattle.bike_book.specs.Tables.{TableName, Tables}
use Rattle.bike_judges.specs.Verdicts.{IsFirstFailing}
use Rattle.bike_judges.specs.Least.{least_key}

-- what is below a key is below any that isn't below that
under : (other a b : Row) → row_cmp other a ≡ Less → is_lt (row_cmp b a) ≡ false → row_cmp other b ≡ Less
under other a b low not_below = go (row_cmp a b) refl where
  go : (o : Ordering) → row_cmp a b ≡ o → row_cmp other b ≡ Less
  go Less e = row_cmp_total.trans other a b low e
  go Equal e =
      let back : row_cmp b other ≡ row_cmp a other = sym (row_cmp_total.congr a b other e) in
      row_cmp_total.antisymm other b ∙ ap ordering_reverse back ∙ sym (row_cmp_total.antisymm other a) ∙ low
  go Greater e = absurd (let back : row_cmp b a ≡ Less = row_cmp_total.antisymm b a ∙ ap ordering_reverse e in let t : true ≡ false = sym (ap is_lt back) ∙ not_below in cc)

pub least_verdict : (t : Tables) (name : TableName) (P Q : Row → Type 0) (a b : Option Row) → IsFirstFailing t name P a → IsFirstFailing t name Q b
    → IsFirstFailing t name (λ key. P key × Q key) (least_key a b)
least_verdict t name P Q None None p q = λ key. (p key, q key)
least_verdict t name P Q None (Some b) p q = record { bad = λ both. q.bad both.1; own = q.own; before = λ other low. (p other, q.before other low) }
least_verdict t name P Q (Some a) None p q = record { bad = λ both. p.bad both.0; own = p.own; before = λ other low. (p.before other low, q other) }
least_verdict t name P Q (Some a) (Some b) p q = go (is_lt (row_cmp b a)) refl where
  below : (o : Ordering) → row_cmp b a ≡ o → is_lt o ≡ true → row_cmp b a ≡ Less
  below Less e is = e
  below Equal e is = absurd cc
  below Greater e is = absurd cc

  go : (c : Bool) → is_lt (row_cmp b a) ≡ c → IsFirstFailing t name (λ key. P key × Q key) (cond c (Some b) (Some a))
  go true e =
      let low : row_cmp b a ≡ Less = below (row_cmp b a) refl e in
      record { bad = λ both. q.bad both.1; own = q.own; before = λ other less. (p.before other (row_cmp_total.trans other b a less low), q.before other less) }
  go false e = record { bad = λ both. p.bad both.0; own = p.own; before = λ other less. (p.before other less, q.before other (under other a b less e)) }
