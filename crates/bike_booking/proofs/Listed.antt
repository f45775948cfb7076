-- What is listed, where a dock is marked.
use Rattle.std.proofs.Common.{◌≡◌, ℕ, List, Bool, true, false, cond, Some, is_some, refl, sym, ap, ◌∙◌, subst}
use Rattle.std.specs.Ordering.{eq_by_cmp}
use Rattle.std.specs.Cmp.{eq_by_cmp_equiv}
use Rattle.std.specs.FinMap as fin
use Rattle.std.specs.FinMap.{FinMap}
use Rattle.std.specs.FinSet as set
use Rattle.bike_operator.specs.Operator.{Operator, AcceptedRequest, DockKey, Numbered, texts_cmp, dock_key}
use Rattle.bike_operator.specs.Sound.{HasDock}
use Rattle.bike_laws.proofs.SingleSteps.MapLemmas.{texts_order, tied}
use Rattle.bike_book.specs.Stored.{Listed, IsListing, IsDockKey, moment_since}
use Rattle.bike_book.proofs.ListingLemmas.{KeepsDocks, dock_kept}
use Rattle.bike_booking.specs.AddedOrSet.{with_dock}

-- ---- a key added to a map of keys

module _ (keys : FinMap texts_cmp (Unit {0})) (k q : List (List ℕ)) where
  added_at : fin.contains_key (fin.insert keys k tt) q ≡ is_some (cond (eq_by_cmp texts_cmp q k) (Some tt) (fin.get keys q))
  added_at = ap is_some (fin.get-insert texts_order.total keys k tt q)

  added_kept : fin.contains_key keys q ≡ true → fin.contains_key (fin.insert keys k tt) q ≡ true
  added_kept there = added_at ∙ go (eq_by_cmp texts_cmp q k) where
    go : (b : Bool) → is_some (cond b (Some tt) (fin.get keys q)) ≡ true
    go true = refl
    go false = there

  added_other : fin.contains_key (fin.insert keys k tt) q ≡ true → eq_by_cmp texts_cmp q k ≡ false → fin.contains_key keys q ≡ true
  added_other there apart = ap (λ (b : Bool). is_some (cond b (Some tt) (fin.get keys q))) (sym apart) ∙ sym added_at ∙ there

-- what holds of each key, and of the one that is added
all_added : (keys : FinMap texts_cmp (Unit {0})) (k : List (List ℕ)) (P : List (List ℕ) → Type 0) → P k → ((q : List (List ℕ)) → fin.contains_key keys q ≡ true → P q)
    → (q : List (List ℕ)) → fin.contains_key (fin.insert keys k tt) q ≡ true → P q
all_added keys k P here each q there = go (eq_by_cmp texts_cmp q k) refl where
  go : (b : Bool) → eq_by_cmp texts_cmp q k ≡ b → P q
  go true e = subst P (sym (tied texts_order q k e)) here
  go false e = each q (added_other keys k q there e)

added_here : (keys : FinMap texts_cmp (Unit {0})) (k : List (List ℕ)) → fin.contains_key (fin.insert keys k tt) k ≡ true
added_here keys k = added_at keys k k ∙ ap (λ (b : Bool). is_some (cond b (Some tt) (fin.get keys k))) ((eq_by_cmp_equiv texts_order.total).refl k)

-- one dock is marked, and listed
module _ (s n : Operator) (m : Listed) (station : List ℕ) (dock : ℕ) (listing : IsListing s m)
    (others : (key : DockKey) → eq_by_cmp texts_cmp key (dock_key station dock) ≡ false → set.contains n.broken key ≡ set.contains s.broken key) where
  marked : (key : DockKey) → set.contains n.broken key ≡ true → fin.contains_key (with_dock station dock m).docks key ≡ true
  marked key there = go (eq_by_cmp texts_cmp key (dock_key station dock)) refl where
    go : (b : Bool) → eq_by_cmp texts_cmp key (dock_key station dock) ≡ b → fin.contains_key (with_dock station dock m).docks key ≡ true
    go true e =
        subst (λ (q : DockKey). fin.contains_key (with_dock station dock m).docks q ≡ true) (sym (tied texts_order key (dock_key station dock) e)) (added_here m.docks (dock_key station dock))
    go false e = added_kept m.docks (dock_key station dock) key (listing.marked key (sym (others key e) ∙ there))

  pub listing_marked : KeepsDocks s n → n.now ≡ s.now → n.history ≡ s.history → HasDock s station dock → IsListing n (with_dock station dock m)
  listing_marked keeps now history has = record {
    docks = all_added m.docks (dock_key station dock) (IsDockKey n) (record { station = station; dock = dock; key_is = refl; has = keeps station dock has })
        (λ key there. dock_kept s n keeps key (listing.docks key there));
    marked = marked;
    now_is = now ∙ listing.now_is ∙ ap (λ (l : Numbered AcceptedRequest). moment_since m.since l.items) (sym history);
  }
