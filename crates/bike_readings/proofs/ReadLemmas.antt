-- What was read of a column, and that nothing was.
use Rattle.std.proofs.Common.{◌≡◌, ℕ, List, Bool, true, false, cond, Option, Some, None, Result, Ok, Err, refl, subst}
use Rattle.std.specs.List.{list_all}
use Rattle.std.specs.Str.{IsUtf8, is_utf8}
use Rattle.std.proofs.lemmas.Str.{is_utf8-from_IsUtf8, IsUtf8-from_is_utf8}
use Rattle.sqlite_value.specs.declared.value.Value.{Value}
use Rattle.sqlite_value.specs.declared.value.Value.TheVariants.{Text}
use Rattle.bike_fields.specs.Bytes.{is_name, has_length, is_name_byte}
use Rattle.bike_schema.specs.declared.fault.StatementFault.{StatementFault}
use Rattle.bike_schema.specs.Columns.{read_or_failed, text_in}

pub read_some : {X : Type 0} (x : X) (o : Option X) → ◌≡◌ {A = Result X StatementFault} (Ok x) (read_or_failed o) → Some x ≡ o
read_some x None e = absurd cc
read_some x (Some y) e = cc

pub read_none : {X : Type 0} (fault : StatementFault) (o : Option X) → ◌≡◌ {A = Result X StatementFault} (Err fault) (read_or_failed o) → None ≡ o
read_none fault None e = cc
read_none fault (Some y) e = absurd cc

-- a column of bytes that are UTF-8 is a text, and one of other bytes is none
pub text_there : (v : Value) (text : List ℕ) → Text text ≡ v → IsUtf8 text → text_in v ≡ Some text
text_there v text is utf8 = let valid = is_utf8-from_IsUtf8 text utf8 in subst (λ w. text_in w ≡ Some text) is (rw valid refl)

pub text_missing : (v : Value) (text : List ℕ) → Text text ≡ v → ¬ IsUtf8 text → text_in v ≡ None
text_missing v text is other = subst (λ w. text_in w ≡ None) is (by (is_utf8 text) refl)
  where
    by : (b : Bool) → is_utf8 text ≡ b → ◌≡◌ {A = Option (List ℕ)} (cond b (Some text) None) None
    by true valid = absurd (other (IsUtf8-from_is_utf8 text valid))
    by false valid = refl

-- whether a text of the right length is a name, by its bytes
pub name_by : (bs : List ℕ) (b : Bool) → has_length 1 120 bs ≡ true → b ≡ list_all is_name_byte bs → IsUtf8 bs → b ≡ is_name bs
name_by bs b length is utf8 = let text = is_utf8-from_IsUtf8 bs utf8 in go (list_all is_name_byte bs) refl is text
  where
    go : (x : Bool) → list_all is_name_byte bs ≡ x → b ≡ x → is_utf8 bs ≡ true → b ≡ is_name bs
    go true i e text = rw (length, i, text) e
    go false i e text = rw (length, i) e
