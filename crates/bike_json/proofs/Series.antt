-- What series of writes do together.
use Rattle.std.proofs.Common.{◌≡◌, ℕ, zero, suc, ◌+◌, ◌<◌, List, [], ◌∷◌, ◌++◌, Bool, true, false, not, cond, Option, Result, Ok, Err, is_ok, OnOk, OnErr, length, take, refl, sym, ap, ◌∙◌, inl, inr}
use Rattle.std.proofs.Common.{subst, arith, length-append}
use Rattle.std.specs.Io.KnownBytes.{Keeps, Appends}
use Rattle.std.proofs.KnownBytes.{Appends-trans, Appends-kept, Keeps-trans}
use Rattle.bike_stream.specs.Writing.{AppendsFront}
use Rattle.bike_json.specs.Outputs.{OutputState, IsSameOutput}
use Rattle.bike_json.specs.State.{Place, Writes, Wrote, MayFail}

take_first : (k : ℕ) (x y : List ℕ) → k < length x → take k (x ++ y) ≡ take k x
take_first k [] y lt = absurd (omega arith)
take_first zero (b ∷ x) y lt = refl
take_first (suc k) (b ∷ x) y lt = ap (λ l. b ∷ l) (take_first k x y (omega arith))

take_then : (x y : List ℕ) (k : ℕ) → take (length x + k) (x ++ y) ≡ x ++ take k y
take_then [] y k = let e : length {A = ℕ} [] + k ≡ k = omega arith in rw e refl
take_then (b ∷ x) y k = let e : length (b ∷ x) + k ≡ suc (length x + k) = omega arith in rw e (ap (λ l. b ∷ l) (take_then x y k))

front_first : (a b : Option (List ℕ)) (x y : List ℕ) → AppendsFront a b x → AppendsFront a b (x ++ y)
front_first a b x y h = (h.0, omega (arith, length-append x y, h.1), rw (take_first h.0 x y h.1) h.2)

front_then : (a b c : Option (List ℕ)) (x y : List ℕ) → Appends a b x → AppendsFront b c y → AppendsFront a c (x ++ y)
front_then a b c x y h k = (length x + k.0, omega (arith, length-append x y, k.1), rw (take_then x y k.0) (Appends-trans a b c x (take k.0 y) h k.2))

front_kept : (a b c : Option (List ℕ)) (x : List ℕ) → AppendsFront a b x → Keeps b c → AppendsFront a c x
front_kept a b c x h k = (h.0, h.1, Appends-kept a b c (take h.0 x) h.2 k)

-- why the first of two series may fail, the two together may, and so why the second may
pub fails_first : (a : OutputState) (m : ℕ) (x y : List ℕ) → MayFail a m x → MayFail a m (x ++ y)
fails_first a m x y (inl h) = inl h
fails_first a m x y (inr h) = inr (omega (arith, length-append x y, h))

fails_then : (a b : OutputState) (l m : ℕ) (x y : List ℕ) → IsSameOutput a b → m ≡ l + length x → MayFail b m y → MayFail a l (x ++ y)
fails_then a b l m x y s e (inl h) = inl (sym s ∙ h)
fails_then a b l m x y s e (inr h) = inr (omega (arith, length-append x y, e, h))

-- two series one after the other
Writes_then : (f g h : Bool) (l m n : ℕ) (a b c : OutputState) (x y : List ℕ)
    → IsSameOutput a b → Writes f g l m a b x → Writes g h m n b c y → Writes f h l n a c (x ++ y)
Writes_then true true h l m n a b c x y s p q = (q.0, q.1 ∙ p.1, Keeps-trans a.bytes b.bytes c.bytes p.2 q.2)
Writes_then true false h l m n a b c x y s p q = absurd (cc p.0)
Writes_then false true true l m n a b c x y s p q = (front_first a.bytes c.bytes x y (front_kept a.bytes b.bytes c.bytes x p.0 q.2), fails_first a l x y p.1)
Writes_then false true false l m n a b c x y s p q = absurd (cc q.0)
Writes_then false false true l m n a b c x y s p q = (front_then a.bytes b.bytes c.bytes x y p.0 q.0, fails_then a b l m x y s p.1 q.1)
Writes_then false false false l m n a b c x y s p q = (Appends-trans a.bytes b.bytes c.bytes x y p.0 q.0, omega (arith, length-append x y))

pub Wrote_then : {p q r : Place} {a b c : OutputState} {x y : List ℕ} → Wrote p q a b x → Wrote q r b c y → Wrote p r a c (x ++ y)
Wrote_then {p} {q} {r} {a} {b} {c} {x} {y} h k = record { are = Writes_then p.failed q.failed r.failed p.count q.count r.count a b c x y h.same h.are k.are; same = k.same ∙ h.same }

-- only the failure and the count of a place matter
pub Wrote_to : {p q r : Place} {a b : OutputState} {x : List ℕ} → Wrote p q a b x → r.failed ≡ q.failed → r.count ≡ q.count → Wrote p r a b x
Wrote_to h e f = record { are = rw (e, f) h.are; same = h.same }

pub Wrote_as : {p q : Place} {a b : OutputState} {x y : List ℕ} → x ≡ y → Wrote p q a b x → Wrote p q a b y
Wrote_as {p} {q} {a} {b} e h = subst (Wrote p q a b) e h

settled : (f g : Bool) (m n k : ℕ) (a b : OutputState) (x : List ℕ) → Writes f g m n a b x → k ≡ cond g m n → Writes f g m k a b x
settled true true m n k a b x h e = (h.0, e, h.2)
settled true false m n k a b x h e = absurd (cc h.0)
settled false true m n k a b x h e = h
settled false false m n k a b x h e = (h.0, e ∙ h.1)

-- a call's end: the levels moved, and a call that failed gives its count back
pub Wrote_settled : {p q r : Place} {a b : OutputState} {x : List ℕ} {f : Bool} {n m : ℕ} → Wrote p q a b x → f ≡ q.failed → m ≡ q.count
    → r.failed ≡ f → n ≡ p.count → r.count ≡ cond f n m → Wrote p r a b x
Wrote_settled {p} {q} {r} {a} {b} {x} {f} {n} {m} h e g k l is =
    let given : r.count ≡ cond q.failed p.count q.count = is ∙ (ap (λ t. cond t n m) e ∙ (ap (λ t. cond q.failed t m) l ∙ ap (λ t. cond q.failed p.count t) g)) in
    record { are = rw (k ∙ e) (settled p.failed q.failed p.count q.count r.count a b x h.are given); same = h.same }

ok_bytes : {A E : Type 0} (failed : Bool) (m n : ℕ) (a b : OutputState) (x : List ℕ) (r : Result A E) → is_ok r ≡ not failed → Writes false failed m n a b x
    → OnOk r (Appends a.bytes b.bytes x × (n ≡ m + length x))
ok_bytes failed m n a b x (Err e) h w = tt
ok_bytes true m n a b x (Ok u) h w = absurd (cc h)
ok_bytes false m n a b x (Ok u) h w = w

err_bytes : {A E : Type 0} (failed : Bool) (m n : ℕ) (a b : OutputState) (x : List ℕ) (r : Result A E) → is_ok r ≡ not failed → Writes false failed m n a b x
    → OnErr r (AppendsFront a.bytes b.bytes x × MayFail a m x)
err_bytes failed m n a b x (Ok u) h w = tt
err_bytes true m n a b x (Err e) h w = w
err_bytes false m n a b x (Err e) h w = absurd (cc h)

-- what the outcome says of a series before which nothing had failed: all was written, and counted
pub Wrote_ok : {A E : Type 0} {p q : Place} {a b : OutputState} {x : List ℕ} (r : Result A E) → Wrote p q a b x → p.failed ≡ false → is_ok r ≡ not q.failed
    → OnOk r (Appends a.bytes b.bytes x × (q.count ≡ p.count + length x))
Wrote_ok {A} {E} {p} {q} {a} {b} {x} r w e h = ok_bytes q.failed p.count q.count a b x r h (rw e at w.are)

-- or a front of it, and there is a cause
pub Wrote_err : {A E : Type 0} {p q : Place} {a b : OutputState} {x : List ℕ} (r : Result A E) → Wrote p q a b x → p.failed ≡ false → is_ok r ≡ not q.failed
    → OnErr r (AppendsFront a.bytes b.bytes x × MayFail a p.count x)
Wrote_err {A} {E} {p} {q} {a} {b} {x} r w e h = err_bytes q.failed p.count q.count a b x r h (rw e at w.are)

first_only : (x y : List ℕ) → take (length x) (x ++ y) ≡ x
first_only [] y = refl
first_only (b ∷ x) y = ap (λ l. b ∷ l) (first_only x y)

front_bytes : (failed : Bool) (m n : ℕ) (a b : OutputState) (x y : List ℕ) → 0 < length y → Writes false failed m n a b x → AppendsFront a.bytes b.bytes (x ++ y)
front_bytes true m n a b x y more w = front_first a.bytes b.bytes x y w.0
front_bytes false m n a b x y more w = (length x, omega (arith, length-append x y, more), rw (first_only x y) w.0)

-- a series that ends before the bytes do: a front of them, whether or not a write failed
pub Wrote_front : {p q : Place} {a b : OutputState} {x : List ℕ} (y : List ℕ) → Wrote p q a b x → p.failed ≡ false → 0 < length y → AppendsFront a.bytes b.bytes (x ++ y)
Wrote_front {p} {q} {a} {b} {x} y w e more = front_bytes q.failed p.count q.count a b x y more (rw e at w.are)
