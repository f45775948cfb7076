-- What the fields tell that are left, with what those before them told.
use Rattle.std.proofs.Common.{◌≡◌, ℕ, zero, suc, ◌<◌, ◌+◌, List, [], ◌∷◌, Bool, true, false, if◌then◌else◌, cond, Option, Some, None, length, drop, get_or, refl, sym, ap, ◌∙◌, arith}
use Rattle.std.specs.List.{list_any, filter}
use Rattle.bike_http_head.specs.Length.{Field, is_transfer_encoding, is_content_length, size_of, sizes_tell, told_after, body_length}
use Rattle.bike_http_head.specs.declared.length.BodyLength.{BodyLength}
use Rattle.bike_http_head.specs.declared.length.BodyLength.TheVariants.{Malformed}

abbrev pub sizes_left : Option BodyLength → List Field → BodyLength
sizes_left None fields = sizes_tell fields
sizes_left (Some size) [] = size
sizes_left (Some size) (f ∷ fields) = Malformed

abbrev pub left : Option BodyLength → List Field → BodyLength
left told fields = if list_any is_transfer_encoding fields then Malformed else sizes_left told (filter is_content_length fields)

malformed_left : (fields : List Field) → sizes_left (Some Malformed) fields ≡ Malformed
malformed_left [] = refl
malformed_left (f ∷ fields) = refl

size_first : (f : Field) (fields : List Field) → sizes_tell (f ∷ fields) ≡ sizes_left (Some (size_of f.1)) fields
size_first f [] = refl
size_first f (g ∷ fields) = refl

size_more : (told : Option BodyLength) (f : Field) (fields : List Field) → is_content_length f ≡ true
    → sizes_left told (f ∷ fields) ≡ sizes_left (told_after told f) fields
size_more None f fields e = rw e (size_first f fields)
size_more (Some size) f fields e = rw e (sym (malformed_left fields))

told_same : (told : Option BodyLength) (f : Field) → is_content_length f ≡ false → told_after told f ≡ told
told_same None f e = rw e refl
told_same (Some size) f e = rw e refl

if_same : (b : Bool) (x y z : BodyLength) → y ≡ z → (if b then x else y) ≡ (if b then x else z)
if_same true x y z e = refl
if_same false x y z e = e

pub left_all : (fields : List Field) → body_length fields ≡ left None fields
unfolding body_length
left_all fields = refl

pub left_none : (told : Option BodyLength) → left told [] ≡ sizes_left told []
left_none told = refl

pub left_encoding : (told : Option BodyLength) (f : Field) (fields : List Field) → is_transfer_encoding f ≡ true → left told (f ∷ fields) ≡ Malformed
left_encoding told f fields e = rw e refl

pub by_name : (told : Option BodyLength) (f : Field) (fields : List Field) (b : Bool) → is_content_length f ≡ b
    → sizes_left told (filter is_content_length (f ∷ fields)) ≡ sizes_left (told_after told f) (filter is_content_length fields)
by_name told f fields true e = rw e (size_more told f (filter is_content_length fields) e)
by_name told f fields false e =
    ap (λ (b : Bool). sizes_left told (cond b (f ∷ filter is_content_length fields) (filter is_content_length fields))) e
    ∙ ap (λ (t : Option BodyLength). sizes_left t (filter is_content_length fields)) (sym (told_same told f e))

pub left_more : (told : Option BodyLength) (f : Field) (fields : List Field) → is_transfer_encoding f ≡ false
    → left told (f ∷ fields) ≡ left (told_after told f) fields
left_more told f fields e = rw e (if_same (list_any is_transfer_encoding fields) Malformed _ _ (by_name told f fields (is_content_length f) refl))

-- the field at a place comes first of those from there on
pub drop_at : (fields : List Field) (i : ℕ) (f : Field) → i < length fields → ((other : Field) → f ≡ get_or fields i other) → drop i fields ≡ f ∷ drop (i + 1) fields
drop_at [] i f lt at = absurd (omega arith)
drop_at (g ∷ fields) zero f lt at = ap (λ (x : Field). x ∷ fields) (sym (at f))
drop_at (g ∷ fields) (suc i) f lt at = let e : suc i + 1 ≡ suc (i + 1) = omega arith in rw e (drop_at fields i f (omega arith) at)
