-- What is read of the text of types are the types.
use Rattle.std.proofs.Common.{◌≡◌, ℕ, List, [], ◌∷◌, Bool, true, false, cond, Option, Some, refl, sym, ap, ◌∙◌, map, decimal}
use Rattle.std.proofs.Common.{codes}
use Rattle.std.specs.List.{slice_split}
use Rattle.std.specs.Str.{bytes_eq}
use Rattle.std.proofs.lemmas.Option.{option_and_then_some, same_Some}
use Rattle.std.proofs.lemmas.Slice.Eq.{bytes_eq-Decides}
use Rattle.bike_fields.specs.Bytes.{is_ident, ident_of}
use Rattle.bike_fields.proofs.Callers.{ident_sound}
use Rattle.bike_texts.specs.Parts.{Parts}
use Rattle.bike_texts.specs.Reading.{◌>>=◌, field_at}
use Rattle.bike_texts.proofs.Absent.{Lacks, AllLack, joined_lacks, split_joined}
use Rattle.bike_texts.proofs.Splitting.{is_byte}
use Rattle.bike_texts.proofs.TabFree.{ident_lacks}
use Rattle.bike_book.specs.declared.by_type.CountedType.{CountedType}
use Rattle.bike_book.specs.ByType.{AreIdents, counted_text, by_type_text, count_read, counted_read, all_read, by_type_read, ReadsBack}
use Rattle.bike_book.proofs.Decimals.{decimal_lacks, count_is}

-- ---- one type

split_type : (c : CountedType) → is_ident c.type_id ≡ true → slice_split (is_byte 58) (counted_text c) ≡ c.type_id ∷ decimal c.counts.available ∷ decimal c.counts.disabled ∷ []
split_type c good =
    split_joined 58 c.type_id (decimal c.counts.available ∷ decimal c.counts.disabled ∷ []) refl (ident_lacks 58 refl c.type_id good)
    (decimal_lacks 58 c.counts.available refl, (decimal_lacks 58 c.counts.disabled refl, tt))

type_lacks : (c : CountedType) → is_ident c.type_id ≡ true → Lacks 59 (counted_text c)
type_lacks c good =
    joined_lacks 59 58 (c.type_id ∷ decimal c.counts.available ∷ decimal c.counts.disabled ∷ []) refl (
      ident_lacks 59 refl c.type_id good,
      (decimal_lacks 59 c.counts.available refl, (decimal_lacks 59 c.counts.disabled refl, tt)),
    )

-- the next part was read
taken : {A B P : Type 0} (read : List ℕ → Option A) (next : A × Parts → Option B) (p : List ℕ) (ps : Parts) (y : B) → (field_at read (p ∷ ps) >>= next) ≡ Some y
    → ((a : A) → read p ≡ Some a → next (a, ps) ≡ Some y → P) → P
taken read next p ps y e k =
    option_and_then_some next (read p >>= λ a. Some (a, ps)) y e (λ x first second.
    option_and_then_some (λ a. Some (a, ps)) (read p) x first (λ a is made. k a is (ap next (same_Some (a, ps) x made) ∙ second)))

counted_back : (c read : CountedType) → is_ident c.type_id ≡ true → counted_read (counted_text c) ≡ Some read → read ≡ c
unfolding counted_read
counted_back c read good e =
    taken ident_of _ c.type_id (decimal c.counts.available ∷ decimal c.counts.disabled ∷ []) read (rw (split_type c good) at e) (λ id id_read e.
    taken count_read _ (decimal c.counts.available) (decimal c.counts.disabled ∷ []) read e (λ available available_read e.
    taken count_read _ (decimal c.counts.disabled) [] read e (λ disabled disabled_read e.
    let id_is = (ident_sound c.type_id id id_read).0 in
    let available_is = count_is c.counts.available available available_read in
    let disabled_is = count_is c.counts.disabled disabled disabled_read in
    sym (same_Some _ read e) ∙ (λ i. record { type_id = sym id_is i; counts = record { available = available_is i; disabled = disabled_is i } }))))

-- ---- all of them

all_back : (cs read : List CountedType) → AreIdents cs → all_read (map counted_text cs) ≡ Some read → read ≡ cs
unfolding all_read
all_back [] read good e = sym (same_Some [] read e)
all_back (c ∷ cs) read good e =
    option_and_then_some (λ x. all_read (map counted_text cs) >>= λ xs. Some (x ∷ xs)) (counted_read (counted_text c)) read e (λ x first later.
    option_and_then_some (λ xs. Some (x ∷ xs)) (all_read (map counted_text cs)) read later (λ xs others made.
    let head = counted_back c x good.0 first in
    let tail = all_back cs xs good.1 others in
    sym (same_Some (x ∷ xs) read made) ∙ (λ i. head i ∷ tail i)))

all_lack : (cs : List CountedType) → AreIdents cs → AllLack 59 (map counted_text cs)
all_lack [] good = tt
all_lack (c ∷ cs) good = (type_lacks c good.0, all_lack cs good.1)

split_types : (c : CountedType) (cs : List CountedType) → AreIdents (c ∷ cs) → slice_split (is_byte 59) (by_type_text (c ∷ cs)) ≡ map counted_text (c ∷ cs)
split_types c cs good = split_joined 59 (counted_text c) (map counted_text cs) refl (type_lacks c good.0) (all_lack cs good.1)

-- no type has the text of none
not_none : (c : CountedType) (cs : List CountedType) → AreIdents (c ∷ cs) → bytes_eq (by_type_text (c ∷ cs)) (codes "-") ≡ false
not_none c cs good = go (bytes_eq (by_type_text (c ∷ cs)) (codes "-")) refl where
  go : (b : Bool) → bytes_eq (by_type_text (c ∷ cs)) (codes "-") ≡ b → b ≡ false
  go true same =
      let is = (bytes_eq-Decides (by_type_text (c ∷ cs)) (codes "-")).0 same in
      let types : map counted_text (c ∷ cs) ≡ codes "-" ∷ [] = sym (split_types c cs good) ∙ ap (slice_split (is_byte 59)) is in
      let first : counted_text c ≡ codes "-" = cc in
      let parts : c.type_id ∷ decimal c.counts.available ∷ decimal c.counts.disabled ∷ [] ≡ codes "-" ∷ [] = sym (split_type c good.0) ∙ ap (slice_split (is_byte 58)) first in
      absurd cc
  go false is = refl

pub types_back : ReadsBack
unfolding by_type_read
types_back [] read good e = sym (same_Some [] read e)
types_back (c ∷ cs) read good e =
    all_back (c ∷ cs) read good (ap all_read (sym (split_types c cs good))
    ∙ sym (ap (λ (b : Bool). cond b (Some []) (all_read (slice_split (is_byte 59) (by_type_text (c ∷ cs))))) (not_none c cs good)) ∙ e)
