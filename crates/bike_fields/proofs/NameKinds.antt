-- A kind is read exactly from its word.
use Rattle.std.proofs.Common.{◌≡◌, ℕ, List, Some, refl, ap, ◌∙◌}
use Rattle.std.specs.Prelude.{codes}
use Rattle.std.specs.Str.{bytes_eq}
use Rattle.std.proofs.lemmas.Option.{same_Some}
use Rattle.std.proofs.lemmas.Slice.Eq.{bytes_eq-Decides}
use Rattle.bike_fields.specs.NameKinds.{kind_text, kind_of}
use Rattle.bike_fields.specs.declared.name_kind.NameKind.{NameKind}
use Rattle.bike_fields.specs.declared.name_kind.NameKind.TheVariants.{System, Station, «Type», Plan, Description, Region}
use Rattle.bike_fields.proofs.Callers.{pick}

pub kind_sound : (text : List ℕ) (kind : NameKind) → kind_of text ≡ Some kind → text ≡ kind_text kind
unfolding kind_of
kind_sound text kind e =
    pick (bytes_eq text (codes "system")) _ _ kind _ e (λ is e. (bytes_eq-Decides text (codes "system")).0 is ∙ ap kind_text (same_Some System kind e)) (λ e.
    pick (bytes_eq text (codes "station")) _ _ kind _ e (λ is e. (bytes_eq-Decides text (codes "station")).0 is ∙ ap kind_text (same_Some Station kind e)) (λ e.
    pick (bytes_eq text (codes "type")) _ _ kind _ e (λ is e. (bytes_eq-Decides text (codes "type")).0 is ∙ ap kind_text (same_Some «Type» kind e)) (λ e.
    pick (bytes_eq text (codes "plan")) _ _ kind _ e (λ is e. (bytes_eq-Decides text (codes "plan")).0 is ∙ ap kind_text (same_Some Plan kind e)) (λ e.
    pick (bytes_eq text (codes "description")) _ _ kind _ e (λ is e. (bytes_eq-Decides text (codes "description")).0 is ∙ ap kind_text (same_Some Description kind e)) (λ e.
    pick (bytes_eq text (codes "region")) _ _ kind _ e (λ is e. (bytes_eq-Decides text (codes "region")).0 is ∙ ap kind_text (same_Some Region kind e)) (λ e. absurd cc))))))

pub kind_full : (kind : NameKind) → kind_of (kind_text kind) ≡ Some kind
unfolding kind_of
kind_full System = refl
kind_full Station = refl
kind_full «Type» = refl
kind_full Plan = refl
kind_full Description = refl
kind_full Region = refl
