-- Names that stand for themselves in a string.
use Rattle.std.proofs.Common.{◌≡◌, ℕ, List, [], ◌∷◌, ◌++◌, Bool, true, false, IsTrue, length, drop, slice_range, refl, sym, ap, ◌∙◌, append_assoc, arith}
use Rattle.std.specs.Prelude.{◌&&◌}
use Rattle.std.proofs.lemmas.List.{take_rest}
use Rattle.bike_json.specs.Escapes.{escaped_byte, json_escapes, string_text}
use Rattle.bike_json.specs.Names.{is_plain_byte, is_plain, text_behind_comma}
use Rattle.bike_json.specs.State.{takes_name, has_more}
use Rattle.bike_json.specs.Tree.{comma}
use Rattle.bike_json.specs.declared.level.Level.{Level}
use Rattle.bike_json.specs.declared.level.Level.TheVariants.{Start, Done, EmptyArray, FilledArray, EmptyObject, FilledObject, NamedObject}

both : (a b : Bool) → IsTrue (a && b) → IsTrue a × IsTrue b
both true b h = (refl, h)
both false b h = absurd (cc h)

plain_byte : (b : ℕ) → IsTrue (is_plain_byte b) → escaped_byte b ≡ b ∷ []
unfolding escaped_byte
plain_byte b plain = grind (arith, plain)

plain_name : (name : List ℕ) → IsTrue (is_plain name) → json_escapes name ≡ name
plain_name [] plain = refl
plain_name (b ∷ name) plain =
    let (first, rest) = both (is_plain_byte b) (is_plain name) plain in
    ap (λ l. l ++ json_escapes name) (plain_byte b first) ∙ ap (λ l. b ∷ l) (plain_name name rest)

-- the text of a name, its comma first
text_is : (name : List ℕ) → IsTrue (is_plain name) → text_behind_comma name ≡ 44 ∷ (string_text name ++ 58 ∷ [])
unfolding string_text
text_is name plain = ap (λ l. 44 ∷ 34 ∷ l) (ap (λ l. l ++ 34 ∷ 58 ∷ []) (sym (plain_name name plain)) ∙ sym (append_assoc (json_escapes name) (34 ∷ []) (58 ∷ [])))

-- behind other members all of it
pub text_behind : (name text : List ℕ) (top : Level) → IsTrue (is_plain name) → text ≡ text_behind_comma name → top ≡ FilledObject
    → text ≡ comma (has_more top) ++ (string_text name ++ 58 ∷ [])
text_behind name text top plain is at = rw at (is ∙ text_is name plain)

first_level : (top : Level) → IsTrue (takes_name top) → (top ≡ FilledObject → ⊥) → has_more top ≡ false
first_level Start h other = refl
first_level Done h other = refl
first_level EmptyArray h other = refl
first_level FilledArray h other = absurd (cc h)
first_level EmptyObject h other = refl
first_level FilledObject h other = absurd (other refl)
first_level NamedObject h other = refl

-- of the first member what stands behind the comma
pub text_first : (name text : List ℕ) (top : Level) → IsTrue (is_plain name) → text ≡ text_behind_comma name → IsTrue (takes_name top) → (top ≡ FilledObject → ⊥)
    → slice_range text 1 (length text) ≡ comma (has_more top) ++ (string_text name ++ 58 ∷ [])
text_first name text top plain is h other =
    take_rest text 1 ∙ (ap (drop 1) (is ∙ text_is name plain) ∙ ap (λ more. comma more ++ (string_text name ++ 58 ∷ [])) (sym (first_level top h other)))
