-- Reading the columns of a row one after the other.
use Rattle.std.proofs.Common.{◌≡◌, ℕ, suc, [], ◌∷◌, length, Bool, true, false, eqb, cond, Option, Some, None, refl, ap, subst, ◌∙◌, sym, arith}
use Rattle.std.specs.Prelude.{option_and_then}
use Rattle.std.proofs.lemmas.Bool.{eqb-true}
use Rattle.std.proofs.lemmas.Bool.Decides.{nat_tests}
use Rattle.std.proofs.lemmas.Option.{option_and_then_some, cond_some, same_Some}
use Rattle.sqlite_value.specs.declared.value.Value.{Value}
use Rattle.sqlite_value.specs.declared.value.Value.TheVariants.{Null}
use Rattle.sqlite_value.specs.Order.{Row, column}
use Rattle.sqlite_sql.specs.Ops.{is_null}
use Rattle.bike_fields.proofs.Lengths.{both_hold}
use Rattle.bike_readings.specs.ColumnReaders.{where_wide, are_null}
use Rattle.bike_readings.proofs.ColumnLaws.{IsColumn, null_is}

-- the row has these columns from a place on
abbrev pub HasColumns : Row → ℕ → Row → Type 0
HasColumns row from [] = Unit {0}
HasColumns row from (v ∷ vs) = (column row from ≡ v) × HasColumns row (suc from) vs

behind : (v : Value) (row : Row) (from : ℕ) (vs : Row) → HasColumns (v ∷ row) (suc from) vs → HasColumns row from vs
behind v row from [] has = tt
behind v row from (w ∷ vs) has = (has.0, behind v row (suc from) vs has.1)

-- a row of so many columns is the list of them
pub row_is : (row vs : Row) → length row ≡ length vs → HasColumns row 0 vs → row ≡ vs
row_is [] [] wide has = refl
row_is [] (v ∷ vs) wide has = absurd (omega (arith, wide))
row_is (u ∷ row) [] wide has = absurd (omega (arith, wide))
row_is (u ∷ row) (v ∷ vs) wide has =
    let rest : row ≡ vs = row_is row vs (omega (arith, wide)) (behind u row 0 vs has.1) in
    λ i. has.0 i ∷ rest i

-- a row of which something is read has the width
pub wide : {A P : Type 0} (width : ℕ) (row : Row) {o : Option A} {x : A} → where_wide width row o ≡ Some x → (length row ≡ width → o ≡ Some x → P) → P
wide {A} {P} width row {o} {x} e k = go (eqb (length row) width) refl where
  go : (b : Bool) → eqb (length row) width ≡ b → P
  go true i = k (eqb-true (length row) width i) (sym (ap (λ b. cond b o None) i) ∙ e)
  go false i = let f : ◌≡◌ {A = Option A} None (Some x) = sym (ap (λ b. cond b o None) i) ∙ e in absurd cc

-- a column was read
pub takes : {A B P : Type 0} {read : Value → Option A} {write : A → Value} {Good : A → Type 0} {v : Value} (next : A → Option B) {b : B} → IsColumn read write Good
    → option_and_then next (read v) ≡ Some b
    → ((a : A) → v ≡ write a → Good a → next a ≡ Some b → P) → P
takes {read = read} {v = v} next {b} column e k = option_and_then_some next (read v) b e (λ a r s. let c = column.sound v a r in k a c.0 c.1 s)

-- all columns were read
pub ends : {X : Type 0} (row_of : X → Row) (Good : X → Type 0) {row : Row} {made : X} (x : X) → Some made ≡ Some x → length row ≡ length (row_of made) → HasColumns row 0 (row_of made) → Good made
    → (row ≡ row_of x) × Good x
ends row_of Good {row} {made} x e width columns good = subst (λ y. (row ≡ row_of y) × Good y) (same_Some made x e) (row_is row (row_of made) width columns, good)

-- .. and a test was passed
pub ends_if : {X : Type 0} (row_of : X → Row) (Good : X → Type 0) {row : Row} {made : X} (x : X) (test : Bool) → cond test (Some made) None ≡ Some x → length row ≡ length (row_of made)
    → HasColumns row 0 (row_of made) → (test ≡ true → Good made) → (row ≡ row_of x) × Good x
ends_if row_of Good {row} {made} x test e width columns good =
    let t = cond_some test made x e in subst (λ y. (row ≡ row_of y) × Good y) t.1 (row_is row (row_of made) width columns, good t.0)

-- a column that was written is read
pub gives : {A B : Type 0} {read : Value → Option A} {write : A → Value} {Good : A → Type 0} (next : A → Option B) (a : A) {b : B} → IsColumn read write Good → Good a → next a ≡ Some b
    → option_and_then next (read (write a)) ≡ Some b
gives next a column good e = rw (column.full a good) e

-- .. and a test is passed
pub gives_if : {X : Type 0} {made x : X} (test : Bool) → test ≡ true → made ≡ x → cond test (Some made) None ≡ Some x
gives_if {made = made} test holds is = rw holds (ap Some is)

-- a row that has the width is read
pub gives_wide : {A : Type 0} (width : ℕ) (row : Row) {o : Option A} {x : A} → length row ≡ width → o ≡ Some x → where_wide width row o ≡ Some x
gives_wide width row is e = let same : eqb (length row) width ≡ true = grind (arith, nat_tests, is) in rw same e

-- several columns were read together
pub given : {A B : Type 0} (next : A → Option B) (a : A) {o : Option A} {b : B} → o ≡ Some a → next a ≡ Some b → option_and_then next o ≡ Some b
given next a found e = rw found e

-- each of the columns is NULL
abbrev pub AreNull : Row → Type 0
AreNull [] = Unit {0}
AreNull (v ∷ vs) = (v ≡ Null) × AreNull vs

all_null : (vs : Row) → are_null vs ≡ true → AreNull vs
all_null [] h = tt
all_null (v ∷ vs) h = let b = both_hold (is_null v) (are_null vs) h in (null_is v b.0, all_null vs b.1)

-- one arm of a choice by columns that are all NULL
pub pick_null : {A P : Type 0} (vs : Row) {x y : Option A} {a : A} → cond (are_null vs) x y ≡ Some a → (AreNull vs → x ≡ Some a → P) → (y ≡ Some a → P) → P
pick_null {A} {P} vs {x} {y} {a} e null others = go (are_null vs) refl where
  go : (b : Bool) → are_null vs ≡ b → P
  go true i = null (all_null vs i) (sym (ap (λ b. cond b x y) i) ∙ e)
  go false i = others (sym (ap (λ b. cond b x y) i) ∙ e)
