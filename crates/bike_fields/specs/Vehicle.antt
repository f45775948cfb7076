-- The names that GBFS gives to forms and propulsions.
use Rattle.std.specs.Prelude.{ℕ, List, if◌then◌else◌, Option, Some, None, codes}
use Rattle.std.specs.Str.{bytes_eq}
use Rattle.bike_fields.specs.declared.vehicle.Form.{Form}
use Rattle.bike_fields.specs.declared.vehicle.Form.TheVariants.{Bicycle, CargoBicycle}
use Rattle.bike_fields.specs.declared.vehicle.Propulsion.{Propulsion}
use Rattle.bike_fields.specs.declared.vehicle.Propulsion.TheVariants.{Human, ElectricAssist}

abbrev pub form_text : Form → List ℕ
form_text Bicycle = codes "bicycle"
form_text CargoBicycle = codes "cargo_bicycle"

abbrev pub propulsion_text : Propulsion → List ℕ
propulsion_text Human = codes "human"
propulsion_text ElectricAssist = codes "electric_assist"

-- the form of that name
unfoldable pub form_of : List ℕ → Option Form
form_of text =
    if bytes_eq text (codes "bicycle") then Some Bicycle else (
    if bytes_eq text (codes "cargo_bicycle") then Some CargoBicycle else None)

-- the propulsion of that name
unfoldable pub propulsion_of : List ℕ → Option Propulsion
propulsion_of text =
    if bytes_eq text (codes "human") then Some Human else (
    if bytes_eq text (codes "electric_assist") then Some ElectricAssist else None)
