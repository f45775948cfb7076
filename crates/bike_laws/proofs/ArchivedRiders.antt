-- What riders have where entries are archived: their balances don't change.
use Rattle.std.proofs.Common.{◌≡◌, ◌≢◌, inl, inr, ℕ, ℤ, zero, suc, pos, ◌+◌, ◌+ℤ◌, List, [], ◌∷◌, length, take, drop, Bool, true, false, cond, eqb, T, Option, Some, None, refl, sym, ap}
use Rattle.std.proofs.Common.{ap₂, ◌∙◌, subst, arith}
use Rattle.std.specs.Prelude.{◌&&◌, map, option_map, is_some}
use Rattle.std.specs.Ordering.{nat_cmp, is_eq, is_lt, eq_by_cmp}
use Rattle.std.specs.declared.cmp.Ordering.{Ordering}
use Rattle.std.specs.declared.cmp.Ordering.TheVariants.{Less, Equal, Greater}
use Rattle.std.specs.Cmp.{nat_cmp_total}
use Rattle.std.specs.FinMap as finmap
use Rattle.std.specs.FinMap.{FinMap}
use Rattle.std.specs.FinMap.Entries.{is_sorted, below_all}
use Rattle.std.proofs.lemmas.Int.{ints}
use Rattle.bike_ledger.specs.Entries.{Entry}
use Rattle.bike_ledger.specs.Ledger.{balance_of, credit, share}
use Rattle.bike_operator.specs.Operator.{Operator, Rider, item_at}
use Rattle.bike_operator.specs.Steps.{found_changed, key_changed}
use Rattle.bike_operator.specs.View.{before_of, rider_balance}
use Rattle.bike_operator.specs.Sound.{IsSound}
use Rattle.bike_laws.specs.Archiving.{Front, rider_with, riders_with, archived_with, archived}
use Rattle.bike_laws.proofs.SingleSteps.ItemLemmas.{number_of_place}
use Rattle.bike_laws.proofs.EntryLemmas.{other_number}
use Rattle.bike_laws.proofs.FrontLemmas.{total_parts}

-- ---- the map

below_with : (es : List Entry) (k : ℕ) (rs : List (ℕ × Rider)) → below_all nat_cmp k (map (rider_with es) rs) ≡ below_all nat_cmp k rs
below_with es k [] = refl
below_with es k (r ∷ rs) = ap (λ (b : Bool). is_lt (nat_cmp k r.0) && b) (below_with es k rs)

sorted_with : (es : List Entry) (rs : List (ℕ × Rider)) → is_sorted nat_cmp (map (rider_with es) rs) ≡ is_sorted nat_cmp rs
sorted_with es [] = refl
sorted_with es (r ∷ rs) = ap₂ (λ (a b : Bool). a && b) (below_with es r.0 rs) (sorted_with es rs)

length_with : (es : List Entry) (rs : List (ℕ × Rider)) → length (map (rider_with es) rs) ≡ length rs
length_with es [] = refl
length_with es (r ∷ rs) = ap suc (length_with es rs)

-- a rider with what these entries come to
abbrev pub with_before : List Entry → ℕ → Rider → Rider
with_before es k r = record r { before = r.before +ℤ balance_of k es }

find_with : (es : List Entry) (k : ℕ) (rs : List (ℕ × Rider)) → finmap.find nat_cmp k (map (rider_with es) rs) ≡ option_map (with_before es k) (finmap.find nat_cmp k rs)
find_with es k [] = refl
find_with es k (r ∷ rs) = go (nat_cmp k r.0) refl (find_with es k rs) where
  go : (o : Ordering) → nat_cmp k r.0 ≡ o → finmap.find nat_cmp k (map (rider_with es) rs) ≡ option_map (with_before es k) (finmap.find nat_cmp k rs)
      → cond (is_eq o) (Some (rider_with es r).1) (finmap.find nat_cmp k (map (rider_with es) rs)) ≡ option_map (with_before es k) (cond (is_eq o) (Some r.1) (finmap.find nat_cmp k rs))
  go Less e rest = rest
  go Equal e rest = ap (λ (n : ℕ). Some (with_before es n r.1)) (sym (finmap.nat_cmp-IsAntisymmetric k r.0 e))
  go Greater e rest = rest

pub entries_with : (es : List Entry) (m : FinMap nat_cmp Rider) → finmap.entries (riders_with es m) ≡ map (rider_with es) (finmap.entries m)
entries_with es m = finmap.entries-from_sorted nat_cmp (map (rider_with es) (finmap.entries m)) (subst T (sym (sorted_with es (finmap.entries m))) (finmap.entries_sorted m))

pub get_with : (es : List Entry) (m : FinMap nat_cmp Rider) (k : ℕ) → finmap.get (riders_with es m) k ≡ option_map (with_before es k) (finmap.get m k)
get_with es m k =
    finmap.get-entries (riders_with es m) k ∙ ap (finmap.find nat_cmp k) (entries_with es m) ∙ find_with es k (finmap.entries m)
    ∙ ap (option_map (with_before es k)) (sym (finmap.get-entries m k))

pub there_with : (es : List Entry) (m : FinMap nat_cmp Rider) (k : ℕ) → finmap.contains_key (riders_with es m) k ≡ finmap.contains_key m k
there_with es m k = ap is_some (get_with es m k) ∙ go (finmap.get m k) where
  go : (o : Option Rider) → is_some (option_map (with_before es k) o) ≡ is_some o
  go None = refl
  go (Some r) = refl

pub len_with : (es : List Entry) (m : FinMap nat_cmp Rider) → finmap.len (riders_with es m) ≡ finmap.len m
len_with es m =
    finmap.len-entries (riders_with es m) ∙ ap length (entries_with es m) ∙ length_with es (finmap.entries m) ∙ sym (finmap.len-entries m)

-- ---- riders who are added or changed

pub insert_with : (es : List Entry) (m : FinMap nat_cmp Rider) (k : ℕ) (r : Rider) → finmap.insert (riders_with es m) k (with_before es k r) ≡ riders_with es (finmap.insert m k r)
insert_with es m k r = finmap.same_map nat_cmp_total finmap.nat_cmp-IsAntisymmetric _ _ same where
  same : (q : ℕ) → finmap.get (finmap.insert (riders_with es m) k (with_before es k r)) q ≡ finmap.get (riders_with es (finmap.insert m k r)) q
  same q =
      finmap.get-insert nat_cmp_total (riders_with es m) k (with_before es k r) q ∙ go (nat_cmp q k) refl
      ∙ ap (option_map (with_before es q)) (sym (finmap.get-insert nat_cmp_total m k r q)) ∙ sym (get_with es (finmap.insert m k r) q)
    where
      go : (o : Ordering) → nat_cmp q k ≡ o
          → cond (is_eq o) (Some (with_before es k r)) (finmap.get (riders_with es m) q) ≡ option_map (with_before es q) (cond (is_eq o) (Some r) (finmap.get m q))
      go Less e = get_with es m q
      go Equal e = ap (λ (n : ℕ). Some (with_before es n r)) (sym (finmap.nat_cmp-IsAntisymmetric q k e))
      go Greater e = get_with es m q

-- a new rider has none of the entries that go
pub added_with : (es : List Entry) (m : FinMap nat_cmp Rider) (k : ℕ) (r : Rider) → balance_of k es ≡ pos 0 → r.before ≡ pos 0
    → finmap.insert (riders_with es m) k r ≡ riders_with es (finmap.insert m k r)
added_with es m k r none new =
    let before : r.before ≡ r.before +ℤ balance_of k es = omega (arith, ints, none, new) in
    ap (λ (z : ℤ). finmap.insert (riders_with es m) k (record r { before = z })) before ∙ insert_with es m k r

-- a rider who is changed, but for what was archived
pub changed_with : (es : List Entry) (m : FinMap nat_cmp Rider) (k : ℕ) (f : Rider → Rider) → ((r : Rider) → f (with_before es k r) ≡ with_before es k (f r))
    → key_changed (riders_with es m) k f ≡ riders_with es (key_changed m k f)
changed_with es m k f commutes = ap (found_changed (riders_with es m) k f) (get_with es m k) ∙ go (finmap.get m k) where
  go : (o : Option Rider) → found_changed (riders_with es m) k f (option_map (with_before es k) o) ≡ riders_with es (found_changed m k f o)
  go None = refl
  go (Some r) = ap (finmap.insert (riders_with es m) k) (commutes r) ∙ insert_with es m k (f r)

-- ---- balances

-- nobody but a rider has entries among these
abbrev pub AreOfRiders : FinMap nat_cmp Rider → List Entry → Type 0
AreOfRiders m es = (k : ℕ) → finmap.get m k ≡ None → balance_of k es ≡ pos 0

-- what entries of others come to
none_of_his : (k : ℕ) (es : List Entry) → ((n : ℕ) (e : Entry) → item_at n es ≡ Some e → e.rider ≢ k) → balance_of k es ≡ pos 0
none_of_his k [] apart = refl
none_of_his k (e ∷ es) apart =
    let here : share k e ≡ pos 0 = ap (λ (b : Bool). cond b (credit e.kind e.amount) (pos 0)) (other_number e.rider k (λ same. apart zero e refl (sym same))) in
    let rest = none_of_his k es (λ n x i. apart (suc n) x i) in
    omega (arith, ints, here, rest)

pub front_item : (n k : ℕ) (es : List Entry) (e : Entry) → item_at k (take n es) ≡ Some e → item_at k es ≡ Some e
front_item zero k es e i = absurd cc
front_item (suc n) k [] e i = i
front_item (suc n) zero (x ∷ es) e i = i
front_item (suc n) (suc k) (x ∷ es) e i = front_item n k es e i

pub of_riders : (n : ℕ) (s : Operator) → IsSound s → AreOfRiders s.riders (take n s.entries.items)
of_riders n s sound k none = none_of_his k (take n s.entries.items) others where
  others : (j : ℕ) (e : Entry) → item_at j (take n s.entries.items) ≡ Some e → e.rider ≢ k
  others j e i same =
      let there = (sound.ledger.entries (s.entries.archived + suc j) e (number_of_place j s.entries e (front_item n j s.entries.items e i))).rider_is in
      let not_there : finmap.contains_key s.riders e.rider ≡ false = ap (λ (m : ℕ). finmap.contains_key s.riders m) same ∙ ap is_some none in
      cc

pub balance_left : (f : Front) (s : Operator) (rider : ℕ) → AreOfRiders s.riders (take f.entries s.entries.items) → rider_balance (archived f s) rider ≡ rider_balance s rider
balance_left f s rider theirs = ap (λ (o : Option Rider). before_of o +ℤ balance_of rider (drop f.entries s.entries.items)) (get_with (take f.entries s.entries.items) s.riders rider)
    ∙ go (finmap.get s.riders rider) refl (total_parts f.entries (share rider) s.entries.items)
  where
    go : (o : Option Rider) → finmap.get s.riders rider ≡ o
        → balance_of rider s.entries.items ≡ balance_of rider (take f.entries s.entries.items) +ℤ balance_of rider (drop f.entries s.entries.items)
        → before_of (option_map (with_before (take f.entries s.entries.items) rider) o) +ℤ balance_of rider (drop f.entries s.entries.items) ≡ before_of o +ℤ balance_of rider s.entries.items
    go None e parts = let none = theirs rider e in omega (arith, ints, parts, none)
    go (Some r) e parts = omega (arith, ints, parts)
