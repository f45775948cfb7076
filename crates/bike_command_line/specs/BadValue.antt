-- What is wrong with the values behind a word.
use Rattle.std.specs.Prelude.{◌≡◌, Option, Some, None, Result, MatchResult}
use Rattle.bike_command_line.specs.Asked.{Found, value_in}
use Rattle.bike_command_line.specs.Names.{IsBad, IsTaken, IsWanted, id_of}
use Rattle.bike_command_line.specs.declared.task.BadValue.{BadValue}
use Rattle.bike_command_line.specs.declared.task.BadValue.TheVariants.{Missing, Bad}
use Rattle.bike_command_line.specs.declared.word.Word.{Word}

-- of a word's values: one that it wants is missing, or one that it takes is a text that is none of its kind
abbrev pub IsWrong : Word → Found → BadValue → Type 0
IsWrong word found (Missing value) = IsWanted word value × (value_in found (id_of value) ≡ None)
IsWrong word found (Bad value text) =
    IsTaken word value × (value_in found (id_of value) ≡ Some text.now) × IsBad value text.now

-- what stands behind the word is read, or it is none and something is wrong
abbrev pub IsRead : {T X : Type 0} → Word → Found → (T → X) → (Found → Option X) → Result T BadValue → Type 0
IsRead word found view wanted answer =
    MatchResult answer (λ it. wanted found ≡ Some (view it)) (λ wrong. (wanted found ≡ None) × IsWrong word found wrong)
