-- The texts that name the tables of stations of the earlier versions, `counts` and `riders`.
use Rattle.std.proofs.Common.{List, ℕ, codes, refl}
use Rattle.sqlite_tied.specs.Compute.{everything}
use Rattle.bike_recognition.specs.Wanted.{Defines, AsksRowidsOf}
use Rattle.bike_recognition.proofs.RowidTexts.{IsParsed, AsksAlone, by_key, by_rowid}
use Rattle.bike_recognition.specs.declared.earlier_versions.earlier.Earlier.TheVariants.{First, Second, Third}
use Rattle.bike_recognition.specs.EarlierVersions.Counts.{counts_layout}
use Rattle.bike_recognition.specs.EarlierVersions.Earlier.{stations_layout}
use Rattle.bike_recognition.specs.EarlierVersions.Riders.{riders_layout}

-- ---- what made them

abbrev first_text : List ℕ
first_text =
    codes "CREATE TABLE stations (station_id TEXT PRIMARY KEY NOT NULL, name TEXT NOT NULL, lat INTEGER NOT NULL, lon INTEGER NOT NULL, docks INTEGER NOT NULL, installed INTEGER NOT NULL, renting INTEGER NOT NULL, \"returning\" INTEGER NOT NULL, reported INTEGER NOT NULL, free INTEGER NOT NULL, broken INTEGER NOT NULL) STRICT"

pub first_defined : Defines first_text (stations_layout First)
unfolding everything
first_defined = refl

abbrev second_text : List ℕ
second_text =
    codes "CREATE TABLE stations_2 (station_id TEXT PRIMARY KEY NOT NULL, name TEXT NOT NULL, lat INTEGER NOT NULL, lon INTEGER NOT NULL, docks INTEGER NOT NULL, installed INTEGER NOT NULL, renting INTEGER NOT NULL, \"returning\" INTEGER NOT NULL, reported INTEGER NOT NULL, free INTEGER NOT NULL, broken INTEGER NOT NULL, region_id TEXT) STRICT"

pub second_defined : Defines second_text (stations_layout Second)
unfolding everything
second_defined = refl

abbrev third_text : List ℕ
third_text =
    codes "CREATE TABLE stations_3 (station_id TEXT PRIMARY KEY NOT NULL, name TEXT NOT NULL, lat INTEGER NOT NULL, lon INTEGER NOT NULL, docks INTEGER NOT NULL, installed INTEGER NOT NULL, renting INTEGER NOT NULL, \"returning\" INTEGER NOT NULL, reported INTEGER NOT NULL, free INTEGER NOT NULL, broken INTEGER NOT NULL, region_id TEXT) STRICT"

pub third_defined : Defines third_text (stations_layout Third)
unfolding everything
third_defined = refl

abbrev counts_text : List ℕ
counts_text =
    codes "CREATE TABLE counts (station_id TEXT NOT NULL, type_id TEXT NOT NULL, available INTEGER NOT NULL, disabled INTEGER NOT NULL, PRIMARY KEY (station_id, type_id)) STRICT"

pub counts_defined : Defines counts_text counts_layout
unfolding everything
counts_defined = refl

abbrev riders_text : List ℕ
riders_text = codes "CREATE TABLE riders (rider INTEGER PRIMARY KEY, blocked INTEGER NOT NULL, balance INTEGER NOT NULL) STRICT"

pub riders_defined : Defines riders_text riders_layout
unfolding everything
riders_defined = refl

-- ---- their rowids

first_parsed : IsParsed (codes "SELECT rowid FROM stations ORDER BY rowid")
unfolding everything
first_parsed = (_, refl)

first_asked : AsksAlone (stations_layout First) first_parsed.0
unfolding everything first_parsed
first_asked = (λ tree low. rw (low, low) refl, refl)

pub first_rowids : AsksRowidsOf (stations_layout First) (codes "SELECT rowid FROM stations ORDER BY rowid")
first_rowids = by_rowid (stations_layout First) (codes "SELECT rowid FROM stations ORDER BY rowid") first_parsed first_asked

second_parsed : IsParsed (codes "SELECT rowid FROM stations_2 ORDER BY rowid")
unfolding everything
second_parsed = (_, refl)

second_asked : AsksAlone (stations_layout Second) second_parsed.0
unfolding everything second_parsed
second_asked = (λ tree low. rw (low, low) refl, refl)

pub second_rowids : AsksRowidsOf (stations_layout Second) (codes "SELECT rowid FROM stations_2 ORDER BY rowid")
second_rowids = by_rowid (stations_layout Second) (codes "SELECT rowid FROM stations_2 ORDER BY rowid") second_parsed second_asked

third_parsed : IsParsed (codes "SELECT rowid FROM stations_3 ORDER BY rowid")
unfolding everything
third_parsed = (_, refl)

third_asked : AsksAlone (stations_layout Third) third_parsed.0
unfolding everything third_parsed
third_asked = (λ tree low. rw (low, low) refl, refl)

pub third_rowids : AsksRowidsOf (stations_layout Third) (codes "SELECT rowid FROM stations_3 ORDER BY rowid")
third_rowids = by_rowid (stations_layout Third) (codes "SELECT rowid FROM stations_3 ORDER BY rowid") third_parsed third_asked

counts_parsed : IsParsed (codes "SELECT rowid FROM counts ORDER BY rowid")
unfolding everything
counts_parsed = (_, refl)

counts_asked : AsksAlone counts_layout counts_parsed.0
unfolding everything counts_parsed
counts_asked = (λ tree low. rw (low, low) refl, refl)

pub counts_rowids : AsksRowidsOf counts_layout (codes "SELECT rowid FROM counts ORDER BY rowid")
counts_rowids = by_rowid counts_layout (codes "SELECT rowid FROM counts ORDER BY rowid") counts_parsed counts_asked

pub riders_rowids : AsksRowidsOf riders_layout (codes "SELECT rider FROM riders ORDER BY rider")
unfolding everything
riders_rowids = by_key riders_layout (codes "SELECT rider FROM riders ORDER BY rider") (λ tree. refl, refl)
