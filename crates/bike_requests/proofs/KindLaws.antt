-- Fields are read exactly: what is read is spelled by the parts, and what the parts spell is read.
use Rattle.std.proofs.Common.{◌≡◌, ℕ, List, [], ◌∷◌, ◌++◌, ◌&&◌, Bool, true, false, not, ◌==◌, Option, Some, Result, Ok, Err, OnOk, refl, sym, ap, ◌∙◌, subst, arith, append_assoc}
use Rattle.std.specs.Prelude.{nat_le, ◌≤◌}
use Rattle.std.specs.List.{list_all}
use Rattle.std.specs.Str.{bytes_eq}
use Rattle.std.proofs.lemmas.Bool.Decides.{nat_tests}
use Rattle.std.proofs.lemmas.List.{append-nil}
use Rattle.std.proofs.lemmas.Option.{option_and_then_some, same_Some}
use Rattle.bike_fields.proofs.Lengths.{both_hold}
use Rattle.bike_texts.specs.Parts.{Parts}
use Rattle.bike_texts.specs.Fields.{Field, fields_text, field_text}
use Rattle.bike_texts.specs.Reading.{◌>>=◌, field_at, no_more}
use Rattle.bike_texts.proofs.TabFree.{AreRead}
use Rattle.bike_texts.proofs.Chains.{IsReader, number_reader, choice_reader, ident_reader, language_reader, currency_reader, name_reader, ascii_reader, degrees_reader, form_reader, propulsion_reader}
use Rattle.bike_texts.proofs.Chains.{metres_reader, segments_reader, end_reader, ident_or_none_reader, side_reader, kind_reader}
use Rattle.bike_texts.specs.Kinds.{Kind, Numbers, Idents, Languages, Currencies, Names, Asciis, Choices, Coordinates, Forms, Ranges, SegmentLists, Ends, IdentsOrNone, Sides, NameKinds, ◌&◌}
use Rattle.bike_texts.specs.Kinds.{then_at, reads, fields_with}
use Rattle.bike_requests.specs.Unread.{all_at}

-- the fields stand first in the parts
pub record IsFirst (fields : List Field) (ps rest : Parts) : Type 0 where
  pub front : Parts
  pub split : ps ≡ front ++ rest
  pub read : AreRead fields front

-- the reader gives exactly the values whose fields stand first
pub record IsExact {A : Type 0} (read : Parts → Option (A × Parts)) (fields : A → List Field) : Type 0 where
  pub sound : (ps : Parts) (x : A × Parts) → read ps ≡ Some x → IsFirst (fields x.0) ps x.1
  pub full : (ps rest : Parts) (a : A) → IsFirst (fields a) ps rest → read ps ≡ Some (a, rest)

-- ---- one field

one_exact : {A : Type 0} {read : List ℕ → Option A} {field : A → Field} → IsReader read field → IsExact (field_at read) (λ a. field a ∷ [])
one_exact {A = A} {read = read} {field = field} reader = record { sound = sound; full = λ ps rest a h. rw h.split (full h.front rest a h.read) } where
  sound : (ps : Parts) (x : A × Parts) → field_at read ps ≡ Some x → IsFirst (field x.0 ∷ []) ps x.1
  sound [] x e = absurd cc
  sound (p ∷ ps) x e =
      option_and_then_some (λ a. Some (a, ps)) (read p) x e (λ a r s.
      let got = reader.sound p a r in
      let first : IsFirst (field a ∷ []) (p ∷ ps) ps = record { front = p ∷ []; split = refl; read = record { each = (got.0, tt); good = (got.1, tt) } } in
      subst (λ (y : A × Parts). IsFirst (field y.0 ∷ []) (p ∷ ps) y.1) (same_Some (a, ps) x s) first)

  full : (front rest : Parts) (a : A) → AreRead (field a ∷ []) front → field_at read (front ++ rest) ≡ Some (a, rest)
  full [] rest a h = absurd h.each
  full (p ∷ []) rest a h = rw (reader.full p a h.each.0 h.good.0) refl
  full (p ∷ q ∷ qs) rest a h = absurd h.each.1

-- ---- one behind another

both_read : (fs gs : List Field) (ps qs : Parts) → AreRead fs ps → AreRead gs qs → AreRead (fs ++ gs) (ps ++ qs)
both_read [] gs [] qs a b = b
both_read [] gs (p ∷ ps) qs a b = absurd a.each
both_read (f ∷ fs) gs [] qs a b = absurd a.each
both_read (f ∷ fs) gs (p ∷ ps) qs a b =
    let others = both_read fs gs ps qs (record { each = a.each.1; good = a.good.1 }) b in
    record { each = (a.each.0, others.each); good = (a.good.0, others.good) }

-- the parts of all fields are those of the first ones and those of the others
record AreParted (fs gs : List Field) (ps : Parts) : Type 0 where
  front : Parts
  back : Parts
  split : ps ≡ front ++ back
  first : AreRead fs front
  others : AreRead gs back

parted : (fs gs : List Field) (ps : Parts) → AreRead (fs ++ gs) ps → AreParted fs gs ps
parted [] gs ps h = record { front = []; back = ps; split = refl; first = record { each = tt; good = tt }; others = h }
parted (f ∷ fs) gs [] h = absurd h.each
parted (f ∷ fs) gs (p ∷ ps) h =
    let more = parted fs gs ps (record { each = h.each.1; good = h.good.1 }) in
    record {
      front = p ∷ more.front;
      back = more.back;
      split = ap (λ (qs : Parts). p ∷ qs) more.split;
      first = record { each = (h.each.0, more.first.each); good = (h.good.0, more.first.good) };
      others = more.others;
    }

then_exact : {A B : Type 0} {first : Parts → Option (A × Parts)} {second : A → Parts → Option (B × Parts)} {f : A → List Field} {g : A → B → List Field}
    → IsExact first f → ((a : A) → IsExact (second a) (g a)) → IsExact (then_at first second) (λ v. f v.0 ++ g v.0 v.1)
then_exact {A = A} {B = B} {first = first} {second = second} {f = f} {g = g} one other = record { sound = sound; full = full } where
  sound : (ps : Parts) (x : (A × B) × Parts) → then_at first second ps ≡ Some x → IsFirst (f x.0.0 ++ g x.0.0 x.0.1) ps x.1
  sound ps x e =
      option_and_then_some (λ a. second a.0 a.1 >>= λ b. Some ((a.0, b.0), b.1)) (first ps) x e (λ a ea e.
      option_and_then_some (λ b. Some ((a.0, b.0), b.1)) (second a.0 a.1) x e (λ b eb e.
      let s = one.sound ps a ea in
      let t = (other a.0).sound a.1 b eb in
      let both : IsFirst (f a.0 ++ g a.0 b.0) ps b.1 = record {
        front = s.front ++ t.front;
        split = s.split ∙ ap (λ (qs : Parts). s.front ++ qs) t.split ∙ sym (append_assoc s.front t.front b.1);
        read = both_read (f a.0) (g a.0 b.0) s.front t.front s.read t.read;
      } in
      subst (λ (y : (A × B) × Parts). IsFirst (f y.0.0 ++ g y.0.0 y.0.1) ps y.1) (same_Some ((a.0, b.0), b.1) x e) both))

  full : (ps rest : Parts) (v : A × B) → IsFirst (f v.0 ++ g v.0 v.1) ps rest → then_at first second ps ≡ Some (v, rest)
  full ps rest v h =
      let p = parted (f v.0) (g v.0 v.1) h.front h.read in
      let split : ps ≡ p.front ++ (p.back ++ rest) = h.split ∙ ap (λ (qs : Parts). qs ++ rest) p.split ∙ append_assoc p.front p.back rest in
      let got : first ps ≡ Some (v.0, p.back ++ rest) = one.full ps (p.back ++ rest) v.0 (record { front = p.front; split = split; read = p.first }) in
      let more : second v.0 (p.back ++ rest) ≡ Some (v.1, rest) = (other v.0).full (p.back ++ rest) rest v.1 (record { front = p.back; split = refl; read = p.others }) in
      rw (got, more) refl

-- ---- every kind

-- its bounds fit, and its words have no TAB and differ
abbrev pub is_fit : Kind → Bool
is_fit (Numbers least greatest) = nat_le greatest 4294967295
is_fit (Choices word other) = list_all (λ b. not (b == 9)) word && list_all (λ b. not (b == 9)) other && not (bytes_eq other word)
is_fit (Coordinates greatest) = nat_le greatest 180000000
is_fit (k & l) = is_fit k && is_fit l
is_fit _ = true

is_false : (b : Bool) → not b ≡ true → b ≡ false
is_false true h = absurd cc
is_false false h = refl

pub exact : (k : Kind) → is_fit k ≡ true → IsExact (reads k) (fields_with k)
exact (Numbers least greatest) fit = let small : greatest ≤ 4294967295 = grind (arith, nat_tests, fit) in one_exact (number_reader least greatest (omega (arith, small)))
exact Idents fit = one_exact ident_reader
exact Languages fit = one_exact language_reader
exact Currencies fit = one_exact currency_reader
exact Names fit = one_exact name_reader
exact Asciis fit = one_exact ascii_reader
exact (Choices word other) fit =
    let apart = both_hold (list_all (λ b. not (b == 9)) word && list_all (λ b. not (b == 9)) other) (not (bytes_eq other word)) fit in
    let free = both_hold (list_all (λ b. not (b == 9)) word) (list_all (λ b. not (b == 9)) other) apart.0 in
    one_exact (choice_reader word other free.0 free.1 (is_false (bytes_eq other word) apart.1))
exact (Coordinates greatest) fit = let small : greatest ≤ 180000000 = grind (arith, nat_tests, fit) in one_exact (degrees_reader greatest small)
exact Forms fit = one_exact form_reader
exact Ranges fit = then_exact (one_exact propulsion_reader) (λ propulsion. one_exact (metres_reader propulsion))
exact SegmentLists fit = one_exact segments_reader
exact Ends fit = one_exact end_reader
exact IdentsOrNone fit = one_exact ident_or_none_reader
exact Sides fit = one_exact side_reader
exact NameKinds fit = one_exact kind_reader
exact (k & l) fit = let both = both_hold (is_fit k) (is_fit l) fit in then_exact (exact k both.0) (λ _. exact l both.1)

-- ---- all fields

nothing_left : {A : Type 0} (a b : A) (rest : Parts) → (no_more rest >>= λ u. Some a) ≡ Some b → (rest ≡ []) × (a ≡ b)
nothing_left a b [] e = (refl, same_Some a b e)
nothing_left a b (p ∷ ps) e = absurd cc

pub all_sound : {A : Type 0} {read : Parts → Option (A × Parts)} {fields : A → List Field} → IsExact read fields → (ps : Parts) (a : A) → all_at read ps ≡ Some a → AreRead (fields a) ps
all_sound {A = A} {read = read} {fields = fields} reader ps a e =
    option_and_then_some (λ x. no_more x.1 >>= λ u. Some x.0) (read ps) a e (λ x first e.
    let s = reader.sound ps x first in
    let end = nothing_left x.0 a x.1 e in
    let split : s.front ≡ ps = sym (s.split ∙ ap (λ (qs : Parts). s.front ++ qs) end.0 ∙ append-nil s.front) in
    subst (λ (b : A). AreRead (fields b) ps) end.1 (subst (λ (qs : Parts). AreRead (fields x.0) qs) split s.read))

pub all_full : {A : Type 0} {read : Parts → Option (A × Parts)} {fields : A → List Field} → IsExact read fields → (ps : Parts) (a : A) → AreRead (fields a) ps → all_at read ps ≡ Some a
all_full reader ps a h = rw (reader.full ps [] a (record { front = ps; split = sym (append-nil ps); read = h })) refl

-- ---- writing

pub fields_text_append : (fs gs : List Field) → fields_text (fs ++ gs) ≡ fields_text fs ++ fields_text gs
unfolding fields_text
fields_text_append [] gs = refl
fields_text_append (f ∷ fs) gs =
    ap (λ (text : List ℕ). 9 ∷ field_text f ++ text) (fields_text_append fs gs) ∙ sym (append_assoc (9 ∷ field_text f) (fields_text fs) (fields_text gs))

-- the one was written, and the other behind it
pub both_written : {E : Type 0} (r : Result (Unit {0}) E) (fs gs : List Field) (start middle end : List ℕ) → middle ≡ start ++ fields_text fs → OnOk r (end ≡ middle ++ fields_text gs)
    → OnOk r (end ≡ start ++ fields_text (fs ++ gs))
both_written (Ok u) fs gs start middle end first other =
    other
    ∙ (ap (λ (text : List ℕ). text ++ fields_text gs) first
    ∙ (append_assoc start (fields_text fs) (fields_text gs)
    ∙ ap (λ (text : List ℕ). start ++ text) (sym (fields_text_append fs gs))))
both_written (Err e) fs gs start middle end first other = tt
