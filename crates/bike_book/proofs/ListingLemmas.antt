-- Rows stay listed right where docks go on being there and the broken ones and the history stay, and where a request is
-- added to the history.
use Rattle.std.proofs.Common.{◌≡◌, ◌≤◌, ℕ, max, List, [], ◌∷◌, ◌++◌, refl, sym, ap, ◌∙◌, subst}
use Rattle.std.specs.FinSet as set
use native.Mathlib.Nat.{le_trans, le-max_left, max-eq_right}
use Rattle.bike_operator.specs.Operator.{Operator, AcceptedRequest, Numbered, DockKey, texts_cmp, with_item}
use Rattle.bike_operator.specs.Sound.{HasDock}
use Rattle.bike_laws.specs.History.{last_moment_of}
use Rattle.bike_book.specs.Stored.{Listed, IsListing, IsDockKey, moment_since}

-- docks go on being there
abbrev pub KeepsDocks : Operator → Operator → Type 0
KeepsDocks s n = (station : List ℕ) (dock : ℕ) → HasDock s station dock → HasDock n station dock

pub dock_kept : (s n : Operator) → KeepsDocks s n → (key : DockKey) → IsDockKey s key → IsDockKey n key
dock_kept s n keeps key k = record { station = k.station; dock = k.dock; key_is = k.key_is; has = keeps k.station k.dock k.has }

-- the same broken docks, moment and history
pub listing_same : (s n : Operator) (m : Listed) → KeepsDocks s n → n.broken ≡ s.broken → n.now ≡ s.now → n.history ≡ s.history → IsListing s m → IsListing n m
listing_same s n m keeps broken now history h = record {
  docks = λ key there. dock_kept s n keeps key (h.docks key there);
  marked = λ key there. h.marked key (ap (λ (b : set.FinSet texts_cmp). set.contains b key) (sym broken) ∙ there);
  now_is = now ∙ h.now_is ∙ ap (λ (h : Numbered AcceptedRequest). moment_since m.since h.items) (sym history);
}

-- ---- a request more

last_added : (now : ℕ) (history : List AcceptedRequest) (a : AcceptedRequest) → last_moment_of now (history ++ a ∷ []) ≡ a.moment
last_added now [] a = refl
last_added now (b ∷ history) a = last_added b.moment history a

-- the moment of a request that comes no earlier is the operator's after it
moment_added : (since : ℕ) (history : List AcceptedRequest) (a : AcceptedRequest) → moment_since since history ≤ a.moment → moment_since since (history ++ a ∷ []) ≡ a.moment
moment_added since history a later =
    ap (max since) (last_added 0 history a) ∙ max-eq_right (le_trans (le-max_left since (last_moment_of 0 history)) later)

pub listing_closed : (s n : Operator) (m : Listed) (a : AcceptedRequest) → KeepsDocks s n → n.broken ≡ s.broken → n.now ≡ a.moment → n.history ≡ with_item a s.history → s.now ≤ a.moment
    → IsListing s m → IsListing n m
listing_closed s n m a keeps broken now history later h = record {
  docks = λ key there. dock_kept s n keeps key (h.docks key there);
  marked = λ key there. h.marked key (ap (λ (b : set.FinSet texts_cmp). set.contains b key) (sym broken) ∙ there);
  now_is = now ∙ sym (ap (λ (h : Numbered AcceptedRequest). moment_since m.since h.items) history ∙ moment_added m.since s.history.items a (subst (λ (k : ℕ). k ≤ a.moment) h.now_is later));
}
