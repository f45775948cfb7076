-- Who sent a request, and its text.
use Rattle.std.specs.Prelude.{◌≡◌, ℕ, ◌≤◌, List, ◌∷◌, ◌++◌, length, Bool, true, nat_lt, ◌==◌, if◌then◌else◌, Option}
use Rattle.std.specs.Prelude.{Some, None, option_and_then, codes, decimal}
use Rattle.std.specs.List.{position_or_len, before_first, after_first}
use Rattle.std.specs.Str.{bytes_eq}
use Rattle.bike_fixed.specs.Whole.{number_of}
use Rattle.bike_fields.specs.declared.numbers.TheConstants.{GREATEST_NUMBER}
use Rattle.bike_fields.specs.Bytes.{is_ident, ident_of}
use Rattle.bike_fields.specs.declared.caller.Caller.{Caller}
use Rattle.bike_fields.specs.declared.caller.Caller.TheVariants.{Office, Staff, Rider, Dock, Crew, Import}
use Rattle.bike_fields.specs.declared.caller.CallerName.{CallerName}
use Rattle.bike_fields.specs.declared.caller.CallerName.TheVariants as name

-- a caller whose number or identifier keeps its bounds
abbrev pub IsCaller : Caller → Type 0
IsCaller Office = Unit {0}
IsCaller (Staff name) = is_ident name ≡ true
IsCaller (Rider n) = (1 ≤ n) × (n ≤ GREATEST_NUMBER)
IsCaller (Dock station) = is_ident station ≡ true
IsCaller (Crew n) = (1 ≤ n) × (n ≤ GREATEST_NUMBER)
IsCaller (Import name) = is_ident name ≡ true

-- office, office:NAME, rider:N, dock:STATION, crew:TRUCK, import:NAME
abbrev pub caller_text : Caller → List ℕ
caller_text Office = codes "office"
caller_text (Staff name) = codes "office" ++ 58 ∷ name
caller_text (Rider n) = codes "rider" ++ 58 ∷ decimal n
caller_text (Dock station) = codes "dock" ++ 58 ∷ station
caller_text (Crew n) = codes "crew" ++ 58 ∷ decimal n
caller_text (Import name) = codes "import" ++ 58 ∷ name

infixl 10 ◌>>=◌
abbrev pub ◌>>=◌ : {A B : Type 0} → Option A → (A → Option B) → Option B
o >>= f = option_and_then f o

abbrev pub is_colon : ℕ → Bool
is_colon b = b == 58

-- the caller of that kind
unfoldable pub caller_named : List ℕ → List ℕ → Option Caller
caller_named kind name =
    if bytes_eq kind (codes "office") then (ident_of name >>= λ i. Some (Staff i)) else (
    if bytes_eq kind (codes "rider") then (number_of 1 GREATEST_NUMBER name >>= λ n. Some (Rider n)) else (
    if bytes_eq kind (codes "dock") then (ident_of name >>= λ i. Some (Dock i)) else (
    if bytes_eq kind (codes "crew") then (number_of 1 GREATEST_NUMBER name >>= λ n. Some (Crew n)) else (
    if bytes_eq kind (codes "import") then (ident_of name >>= λ i. Some (Import i)) else None))))

-- the caller whose text this is
unfoldable pub caller_of : List ℕ → Option Caller
caller_of text =
    if nat_lt (position_or_len is_colon text) (length text)
    then caller_named (before_first is_colon text) (after_first is_colon text)
    else (if bytes_eq text (codes "office") then Some Office else None)

-- the caller that is named
abbrev pub caller_meant : CallerName → Caller
caller_meant name.Office = Office
caller_meant (name.Staff person) = Staff person.now
caller_meant (name.Rider n) = Rider n
caller_meant (name.Dock station) = Dock station.now
caller_meant (name.Crew n) = Crew n
caller_meant (name.Import source) = Import source.now

-- an identifier in the name keeps its bounds
abbrev pub HasIdent : CallerName → Type 0
HasIdent name.Office = Unit {0}
HasIdent (name.Staff person) = is_ident person.now ≡ true
HasIdent (name.Rider n) = Unit {0}
HasIdent (name.Dock station) = is_ident station.now ≡ true
HasIdent (name.Crew n) = Unit {0}
HasIdent (name.Import source) = is_ident source.now ≡ true

-- the caller has an identifier, for which it needs memory
abbrev pub HoldsIdent : Caller → Type 0
HoldsIdent Office = ⊥
HoldsIdent (Staff name) = Unit {0}
HoldsIdent (Rider n) = ⊥
HoldsIdent (Dock station) = Unit {0}
HoldsIdent (Crew n) = ⊥
HoldsIdent (Import source) = Unit {0}
