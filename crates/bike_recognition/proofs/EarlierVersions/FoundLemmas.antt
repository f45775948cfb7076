-- What a database is found to be by its tables.
use Rattle.std.proofs.Common.{◌≡◌, inl, inr, refl, ◌∙◌, sym}
use Rattle.sqlite.specs.Effect.{Database}
use Rattle.bike_recognition.specs.Recognition.{IsByTables}
use Rattle.bike_recognition.specs.declared.recognition.Recognition.{Recognition}
use Rattle.bike_recognition.specs.declared.recognition.Recognition.TheVariants.{Ours}
use Rattle.bike_recognition.specs.EarlierVersions.Found.{IsNewest}
use Rattle.bike_recognition.specs.declared.earlier_versions.found.Found.TheVariants.{Newest, Foreign}

pub newest_if : (db : Database) (r : Recognition) → r ≡ Ours → IsByTables db r → IsNewest db Newest
newest_if db r is (inl it) = inl (it.0, refl)
newest_if db r is (inr it) = absurd (let never = sym is ∙ it.1 in cc)

pub foreign_else : (db : Database) (r : Recognition) → (r ≡ Ours → ⊥) → IsByTables db r → IsNewest db Foreign
foreign_else db r other (inl it) = absurd (other it.1)
foreign_else db r other (inr it) = inr (it.0, refl)
