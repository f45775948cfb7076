-- Row changes one after the other.
use Rattle.std.proofs.Common.{◌≡◌, ℕ, ◌+◌, ◌<◌, List, [], ◌∷◌, ◌++◌, true, IsTrue, refl, sym, ap, ◌∙◌, subst, take, length, get_or, add-one, arith}
use Rattle.std.proofs.Math.Seq.{take-suc}
use Rattle.sqlite.specs.State.{State}
use Rattle.bike_book.specs.declared.row_change.RowChange.{RowChange}
use Rattle.bike_book.specs.Writes.{RowWrite, write_of, writes_of}
use Rattle.bike_schema.specs.Tables.{IsOurs}
use Rattle.bike_schema.specs.Makes.{Puts}
use Rattle.bike_schema.proofs.MakesLemmas.{makes_none, puts_then}

writes_more : (xs : List RowChange) (c : RowChange) → writes_of (xs ++ c ∷ []) ≡ writes_of xs ++ write_of c ∷ []
writes_more [] c = refl
writes_more (x ∷ xs) c = ap (λ (ws : List RowWrite). write_of x ∷ ws) (writes_more xs c)

pub none_put : (s : State) → IsTrue s.is_open → s.in_transaction ≡ true → IsOurs s.now → Puts [] s s
none_put s live inside ours = record {
  continues = record { was_open = live; is_open = live; now_is = refl; committed_is = refl; mode = inside };
  makes = makes_none s.now ours.sound ours.has;
}

pub put_more : (xs : List RowChange) (c : RowChange) (a b d : State) → Puts (writes_of xs) a b → Puts (write_of c ∷ []) b d → Puts (writes_of (xs ++ c ∷ [])) a d
put_more xs c a b d one two = subst (λ (ws : List RowWrite). Puts ws a d) (sym (writes_more xs c)) (puts_then (writes_of xs) (write_of c ∷ []) a b d one two)

take-next : {A : Type 0} (xs : List A) (i : ℕ) (d : A) → i < length xs → take (i + 1) xs ≡ take i xs ++ get_or xs i d ∷ []
take-next xs i d h = ap (λ n. take n xs) (add-one i) ∙ take-suc xs i d h

-- one more item is taken
pub take-item : {A : Type 0} (xs : List A) (i : ℕ) (x : A) → i < length xs → x ≡ get_or xs i x → take (i + 1) xs ≡ take i xs ++ x ∷ []
take-item xs i x low is = take-next xs i x low ∙ ap (λ y. take i xs ++ y ∷ []) (sym is)
