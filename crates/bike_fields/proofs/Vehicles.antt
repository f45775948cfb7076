-- A form or a propulsion is read exactly from its name.
use Rattle.std.proofs.Common.{◌≡◌, ℕ, List, Some, refl, ap, ◌∙◌}
use Rattle.std.specs.Prelude.{codes}
use Rattle.std.specs.Str.{bytes_eq}
use Rattle.std.proofs.lemmas.Option.{same_Some}
use Rattle.std.proofs.lemmas.Slice.Eq.{bytes_eq-Decides}
use Rattle.bike_fields.specs.Vehicle.{form_text, form_of, propulsion_text, propulsion_of}
use Rattle.bike_fields.specs.declared.vehicle.Form.{Form}
use Rattle.bike_fields.specs.declared.vehicle.Form.TheVariants.{Bicycle, CargoBicycle}
use Rattle.bike_fields.specs.declared.vehicle.Propulsion.{Propulsion}
use Rattle.bike_fields.specs.declared.vehicle.Propulsion.TheVariants.{Human, ElectricAssist}
use Rattle.bike_fields.proofs.Callers.{pick}

pub form_sound : (text : List ℕ) (form : Form) → form_of text ≡ Some form → text ≡ form_text form
unfolding form_of
form_sound text form e =
    pick (bytes_eq text (codes "bicycle")) _ _ form _ e (λ is e. (bytes_eq-Decides text (codes "bicycle")).0 is ∙ ap form_text (same_Some Bicycle form e)) (λ e.
    pick (bytes_eq text (codes "cargo_bicycle")) _ _ form _ e (λ is e. (bytes_eq-Decides text (codes "cargo_bicycle")).0 is ∙ ap form_text (same_Some CargoBicycle form e)) (λ e. absurd cc))

pub form_full : (form : Form) → form_of (form_text form) ≡ Some form
unfolding form_of
form_full Bicycle = refl
form_full CargoBicycle = refl

pub propulsion_sound : (text : List ℕ) (propulsion : Propulsion) → propulsion_of text ≡ Some propulsion → text ≡ propulsion_text propulsion
unfolding propulsion_of
propulsion_sound text propulsion e =
    pick (bytes_eq text (codes "human")) _ _ propulsion _ e (λ is e. (bytes_eq-Decides text (codes "human")).0 is ∙ ap propulsion_text (same_Some Human propulsion e)) (λ e.
    pick (bytes_eq text (codes "electric_assist")) _ _ propulsion _ e (λ is e. (bytes_eq-Decides text (codes "electric_assist")).0 is ∙ ap propulsion_text (same_Some ElectricAssist propulsion e))
    (λ e. absurd cc))

pub propulsion_full : (propulsion : Propulsion) → propulsion_of (propulsion_text propulsion) ≡ Some propulsion
unfolding propulsion_of
propulsion_full Human = refl
propulsion_full ElectricAssist = refl
