-- When the table `kept` of the earlier versions lies in a database.
use Rattle.std.proofs.Common.{◌≡◌, Bool, true, false, IsTrue, refl, sym, ◌∙◌}
use Rattle.std.specs.Prelude.{◌↔◌}
use Rattle.std.proofs.lemmas.Bool.{true≢false}
use Rattle.sqlite.specs.Effect.{Database}
use Rattle.bike_sql.specs.Found.{IsPlainTable}
use Rattle.bike_sql.specs.Layout.{table_of}
use Rattle.bike_recognition.specs.Wanted.{Lies}
use Rattle.bike_recognition.proofs.StandLemmas.{no_defaults_in}
use Rattle.bike_recognition.specs.EarlierVersions.Kept.{kept_layout, KeptLies}

pub kept_plain : (keyed : Bool) → IsPlainTable (table_of (kept_layout keyed) 0)
kept_plain true = no_defaults_in (kept_layout true) refl
kept_plain false = no_defaults_in (kept_layout false) refl

-- it lies with a PRIMARY KEY
pub keyed_lies : (db : Database) (keyed : Bool) → keyed ≡ true → (IsTrue keyed ↔ Lies db (kept_layout true)) → IsTrue true ↔ KeptLies db
keyed_lies db keyed is told = ((λ _. record { keyed = true; lies = told.0 is }), λ _. refl)

-- or, as it doesn't, it may with none
pub either_lies : (db : Database) (keyed lies : Bool) → keyed ≡ false → (IsTrue keyed ↔ Lies db (kept_layout true)) → (IsTrue lies ↔ Lies db (kept_layout false)) → IsTrue lies ↔ KeptLies db
either_lies db keyed lies isnt told plain = ((λ yes. record { keyed = false; lies = plain.0 yes }), λ it. by it.keyed it.lies)
  where
    by : (b : Bool) → Lies db (kept_layout b) → IsTrue lies
    by true it = absurd (true≢false (sym (told.1 it) ∙ isnt))
    by false it = plain.1 it
