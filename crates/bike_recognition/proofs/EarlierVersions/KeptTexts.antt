-- The texts that name the table `kept` of the earlier versions.
use Rattle.std.proofs.Common.{List, ℕ, Bool, true, false, codes, refl}
use Rattle.sqlite_tied.specs.Compute.{everything}
use Rattle.bike_recognition.specs.Wanted.{Defines, AsksRowidsOf}
use Rattle.bike_recognition.proofs.RowidTexts.{IsParsed, AsksAlone, by_rowid}
use Rattle.bike_recognition.specs.EarlierVersions.Kept.{kept_layout}

-- ---- what made it

abbrev keyed_text : List ℕ
keyed_text = codes "CREATE TABLE kept (caller TEXT NOT NULL, req_key TEXT NOT NULL, command TEXT NOT NULL, reply TEXT NOT NULL, PRIMARY KEY (caller, req_key)) STRICT"

abbrev plain_text : List ℕ
plain_text = codes "CREATE TABLE kept (caller TEXT NOT NULL, req_key TEXT NOT NULL, command TEXT NOT NULL, reply TEXT NOT NULL) STRICT"

pub keyed_defined : Defines keyed_text (kept_layout true)
unfolding everything
keyed_defined = refl

pub plain_defined : Defines plain_text (kept_layout false)
unfolding everything
plain_defined = refl

-- ---- its rowids

kept_parsed : IsParsed (codes "SELECT rowid FROM kept ORDER BY rowid")
unfolding everything
kept_parsed = (_, refl)

kept_asked : (keyed : Bool) → AsksAlone (kept_layout keyed) kept_parsed.0
unfolding everything kept_parsed
kept_asked true = (λ tree low. rw (low, low) refl, refl)
kept_asked false = (λ tree low. rw (low, low) refl, refl)

pub kept_rowids : (keyed : Bool) → AsksRowidsOf (kept_layout keyed) (codes "SELECT rowid FROM kept ORDER BY rowid")
kept_rowids keyed = by_rowid (kept_layout keyed) (codes "SELECT rowid FROM kept ORDER BY rowid") kept_parsed (kept_asked keyed)
