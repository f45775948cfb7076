-- What is counted and summed for the row of books.
use Rattle.std.proofs.Common.{◌≡◌, ℕ, ℤ, pos, ◌+◌, ◌+ℤ◌, List, [], ◌∷◌, length, Option, Some, None, refl, ap, ◌∙◌, arith}
use Rattle.std.specs.Prelude.{option_map, unwrap_or}
use Rattle.std.specs.List.{fold, filter_map, cons_option}
use Rattle.std.proofs.lemmas.Int.{ints}
use Rattle.sqlite_value.specs.Order.{Row}
use Rattle.bike_operator.specs.Operator.{Rider}
use Rattle.bike_operator.specs.Sound.{befores}
use Rattle.bike_readings.specs.Readings.{rider_read, meta_read}
use Rattle.bike_readings.specs.ReadOff.{first, first_of, rider_in, sums_in, past_of}
use Rattle.bike_ledger_rules.specs.declared.books.EntryCount.{EntryCount}
use Rattle.bike_ledger_rules.specs.declared.books.BeforeSum.{BeforeSum}
use Rattle.bike_ledger_rules.specs.declared.books.MetaSums.{MetaSums}
use Rattle.bike_ledger_rules.specs.Books.{one_entry_more, with_meta, past_in}
use Rattle.bike_ledger_rules.specs.Sums.{with_read}

pub entries_counted : (rows : List Row) (a : EntryCount) → (fold one_entry_more a rows).count ≡ a.count + length rows
entries_counted [] a = omega arith
entries_counted (r ∷ rows) a = let rest = entries_counted rows (one_entry_more a r) in rest ∙ (omega arith)

-- ---- what riders had

-- with what a rider had, if a rider was read
abbrev pub more : BeforeSum → Option (ℕ × Rider × ℤ) → BeforeSum
more a o = record a { sum = with_read (λ sum e. sum +ℤ e.1.before) a.sum o }

regroup : (a b c : ℤ) → (a +ℤ b) +ℤ c ≡ a +ℤ (b +ℤ c)
regroup a b c = omega (arith, ints)

and_nothing : (a : ℤ) → a ≡ a +ℤ pos 0
and_nothing a = omega (arith, ints)

pub before_summed : (rows : List Row) (a : BeforeSum)
    → (fold (λ b r. more b (rider_read r)) a rows).sum ≡ a.sum +ℤ befores (filter_map rider_in rows)
before_summed [] a = and_nothing a.sum
before_summed (r ∷ rows) a = go (rider_read r) (before_summed rows) where
  go : (o : Option (ℕ × Rider × ℤ))
      → ((b : BeforeSum) → (fold (λ b r. more b (rider_read r)) b rows).sum ≡ b.sum +ℤ befores (filter_map rider_in rows))
      → (fold (λ b r. more b (rider_read r)) (more a o) rows).sum
      ≡ a.sum +ℤ befores (cons_option (option_map (λ (e : ℕ × Rider × ℤ). (e.0, e.1)) o) (filter_map rider_in rows))
  go None rest = rest a
  go (Some e) rest = rest (more a (Some e)) ∙ regroup a.sum e.1.before (befores (filter_map rider_in rows))

-- from nothing on
pub summed_from_none : (z : ℤ) → pos 0 +ℤ z ≡ z
summed_from_none z = omega (arith, ints)

-- ---- cash and revenue

abbrev Meant : Type 0
Meant = ℕ × ℕ × ℤ × ℤ

abbrev sums_of : Meant → ℤ × ℤ
sums_of e = (e.2, e.3)

or_none : {A : Type 0} (o : Option A) → o ≡ first_of o None
or_none None = refl
or_none (Some x) = refl

pub sums_found : (rows : List Row) (a : MetaSums)
    → (fold with_meta a rows).found ≡ first_of a.found (option_map sums_of (first (filter_map meta_read rows)))
sums_found [] a = or_none a.found
sums_found (r ∷ rows) a = sums_found rows (with_meta a r) ∙ go a.found (meta_read r) (filter_map meta_read rows) where
  go : (x : Option (ℤ × ℤ)) (o : Option Meant) (es : List Meant)
      → first_of (first_of x (option_map sums_of o)) (option_map sums_of (first es)) ≡ first_of x (option_map sums_of (first (cons_option o es)))
  go None None es = refl
  go None (Some e) es = refl
  go (Some x) o es = refl

-- 0 where there are none
pub past_found : (rows : List Row) (a : MetaSums) → a ≡ fold with_meta (record { found = None }) rows → past_in a ≡ past_of rows
past_found rows a is =
    ap past_in is ∙ ap (λ (o : Option (ℤ × ℤ)). past_in (record { found = o })) (sums_found rows (record { found = None }))
    ∙ go (first (filter_map meta_read rows))
  where
    go : (o : Option Meant) → past_in (record { found = option_map sums_of o }) ≡ unwrap_or (option_map sums_in o) (record { cash = pos 0; revenue = pos 0 })
    go None = refl
    go (Some e) = refl
