-- What passed and failed checks say of a record.
use Rattle.std.proofs.Common.{◌≡◌, ℕ, List, Option, Some, None, Result, Ok, Err, IsErr, refl, sym, ◌∙◌, subst}
use Rattle.std.specs.Result.{IsErrAnd}
use Rattle.bike_fields.specs.declared.fault.Bound.{Bound}
use Rattle.bike_fields.specs.declared.fault.Field.{Field}
use Rattle.bike_fields.specs.declared.fault.FieldFault.{FieldFault}
use Rattle.bike_fields.specs.declared.fault.FieldFault.TheVariants.{Broken}
use Rattle.bike_fields.specs.Fault.{Tests}
use Rattle.bike_catalogue.specs.Rows.{SystemRow}
use Rattle.bike_fields.specs.Faults.{value_or_fault, or_else}

pub checked_ok : {X : Type 0} (x value : X) (fault : Option (Field × Bound)) → Ok x ≡ value_or_fault value fault → (x ≡ value) × (fault ≡ None)
checked_ok x value None e = (cc, refl)
checked_ok x value (Some f) e = absurd cc

-- an error that a check gave is the whole test's, where the fields before it passed
refused : {A B Y : Type 0} (view : A → B) (kept : B) (value : Y) (own whole : Option (Field × Bound)) (r : Result A FieldFault) (e : FieldFault) → Err e ≡ value_or_fault value own → whole ≡ own
    → IsErr r × IsErrAnd r (λ x. x ≡ e) → Tests view kept whole r
refused view kept value None whole r e given same passed = absurd cc
refused view kept value (Some f) whole (Ok x) e given same passed = absurd cc
refused view kept value (Some f) whole (Err x) e given same passed =
    let broken : e ≡ Broken f.0 f.1 = cc in
    let is : x ≡ Broken f.0 f.1 = passed.1 ∙ broken in
    subst (λ (x : FieldFault). Tests view kept whole (Err x)) (sym is) same

or_none : (f : Option (Field × Bound)) → or_else f None ≡ f
or_none None = refl
or_none (Some f) = refl

pub fifth_refused : {A B Y : Type 0} (view : A → B) (kept : B) (value : Y) (a b c d own : Option (Field × Bound)) (r : Result A FieldFault) (e : FieldFault) → a ≡ None → b ≡ None → c ≡ None → d ≡ None
    → Err e ≡ value_or_fault value own → IsErr r × IsErrAnd r (λ x. x ≡ e)
    → Tests view kept (or_else a (or_else b (or_else c (or_else d (or_else own None))))) r
fifth_refused view kept value a b c d own r e p q s t given passed =
    refused view kept value own (or_else a (or_else b (or_else c (or_else d (or_else own None))))) r e given (rw (p, q, s, t) (or_none own)) passed

pub five_clear : (a b c d e : Option (Field × Bound)) → a ≡ None → b ≡ None → c ≡ None → d ≡ None → e ≡ None → or_else a (or_else b (or_else c (or_else d (or_else e None)))) ≡ None
five_clear a b c d e p q r s t = rw (p, q, r, s, t) refl

pub nine_clear : (a b c d e f g h i : Option (Field × Bound)) → a ≡ None → b ≡ None → c ≡ None → d ≡ None → e ≡ None → f ≡ None → g ≡ None → h ≡ None → i ≡ None
    → or_else a (or_else b (or_else c (or_else d (or_else e (or_else f (or_else g (or_else h (or_else i None)))))))) ≡ None
nine_clear a b c d e f g h i p q r s t u v w x = rw (p, q, r, s, t) (rw (u, v, w, x) refl)

pub same_three : {A B C : Type 0} (a x : A) (b y : B) (c z : C) → a ≡ x → b ≡ y → c ≡ z → ◌≡◌ {A = A × B × C} (a, b, c) (x, y, z)
same_three a x b y c z p q r = rw (p, q, r) refl

pub same_system : (s : SystemRow) (a b c d e f g h : List ℕ) (i : ℕ) → a ≡ s.system_id → b ≡ s.language → c ≡ s.name → d ≡ s.opening_hours → e ≡ s.feed_contact_email → f ≡ s.timezone → g ≡ s.currency
    → h ≡ s.base_url → i ≡ s.ttl
    → (let row : SystemRow = record { system_id = a; language = b; name = c; opening_hours = d; feed_contact_email = e; timezone = f; currency = g; base_url = h; ttl = i } in row ≡ s)
same_system s a b c d e f g h i p q r t u v w x y = rw (p, q, r, t, u) (rw (v, w, x, y) refl)
