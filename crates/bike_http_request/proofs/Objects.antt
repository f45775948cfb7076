-- What reading a text of JSON says of the object that it is.
use Rattle.std.proofs.Common.{◌≡◌, ℕ, List, Bool, true, false, if◌then◌else◌, Some, None, is_some, refl, sym, ◌∙◌}
use Rattle.std.proofs.lemmas.Str.{IsUtf8-from_is_utf8, is_utf8-from_IsUtf8}
use Rattle.std.specs.Str.{IsUtf8, is_utf8}
use Rattle.serde_json.specs.Data.{Data}
use Rattle.serde_json.specs.Find.{as_object}
use Rattle.serde_json.specs.Read.{read}
use Rattle.bike_http_request.specs.Asked.{object_of}

object_is : (bytes : List ℕ) (d : Data) → IsUtf8 bytes → read bytes ≡ Some d → object_of bytes ≡ (if is_some (as_object d) then Some d else None)
unfolding object_of
object_is bytes d utf8 e = rw (is_utf8-from_IsUtf8 bytes utf8, e) refl

not_by : (bytes : List ℕ) (b : Bool) → is_utf8 bytes ≡ b → (IsUtf8 bytes → read bytes ≡ None) → object_of bytes ≡ None
unfolding object_of
not_by bytes true e h = rw (e, h (IsUtf8-from_is_utf8 bytes e)) refl
not_by bytes false e h = rw e refl

pub object_not : (bytes : List ℕ) → (IsUtf8 bytes → read bytes ≡ None) → object_of bytes ≡ None
object_not bytes h = not_by bytes (is_utf8 bytes) refl h

pub object_other : (bytes : List ℕ) (d : Data) → IsUtf8 bytes → read bytes ≡ Some d → false ≡ is_some (as_object d) → None ≡ object_of bytes
object_other bytes d utf8 e is = sym (object_is bytes d utf8 e ∙ rw (sym is) refl)

pub object_some : (bytes : List ℕ) (d : Data) → IsUtf8 bytes → read bytes ≡ Some d → true ≡ is_some (as_object d) → Some d ≡ object_of bytes
object_some bytes d utf8 e is = sym (object_is bytes d utf8 e ∙ rw (sym is) refl)
