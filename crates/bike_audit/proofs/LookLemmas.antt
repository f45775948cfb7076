-- What a look finds, by what its audit read.
use Rattle.std.proofs.Common.{◌≡◌, false, IsTrue, Ok, Err, arith}
use Rattle.sqlite_trees.specs.declared.store.Store.{Ghosts}
use Rattle.sqlite.specs.State.{IsLive}
use Rattle.sqlite.specs.Held.{Held, state}
use Rattle.bike_schema.specs.Tables.{HasNone}
use Rattle.bike_recognition.specs.Recognition.{ReadsAny}
use Rattle.bike_audit.specs.Audit.{IsAudited}
use Rattle.bike_audit.specs.declared.finding.Finding.{Finding}
use Rattle.bike_audit.specs.declared.finding.Finding.TheVariants as finding
use Rattle.bike_schema.specs.declared.fault.StatementFault.{StatementFault}
use Rattle.bike_schema.specs.declared.fault.StatementFault.TheVariants.{StoreFailed}
use Rattle.bike_desk.proofs.KeepLemmas.{Settles}
use Rattle.bike_audit.specs.Adoption.{failed, looked_as, Looks}
use Rattle.bike_audit.proofs.AdoptLemmas.{in_left}
use Rattle.bike_audit.proofs.FoundLemmas.{stays_left, still_stands, found_only, found_at, found_told, found_refused}

module _ {S : Type 0} (g : Ghosts S) (settles : Settles g) (old mid : Held S) (outside : old.in_transaction ≡ false)
    (settled : IsTrue (state g old).is_open → (state g old).now ≡ (state g old).committed) (live : IsLive (state g old))
    (some : ¬ HasNone (state g old).now.schema) where
  -- by what the database was found to be
  pub looks : (f : Finding) → ReadsAny {E = StatementFault} g old mid (Ok f) IsAudited → Looks g old (looked_as mid f)
  looks finding.Sound read = record {
    clean = read.quiet.survives.clean;
    seen =
        λ clean. (read.same clean tt, found_only g settles old mid outside settled live finding.Sound read clean, λ s stands. found_at g settles old mid outside settled live finding.Sound read s stands clean);
    room = λ none. absurd (some none);
    refused = λ s stands. tt;
    told = tt;
    autocommit = read.quiet.mode outside;
    stays = stays_left g settles old mid outside settled live read.quiet;
    left = λ s stands opened. still_stands g settles old mid outside settled live read.quiet s stands opened;
  }
  looks finding.Foreign read = record {
    clean = read.quiet.survives.clean;
    seen = tt;
    room = λ none. tt;
    refused = λ s stands. found_refused g settles old mid outside settled live finding.Foreign read s stands some;
    told = found_told g settles old mid outside settled live finding.Foreign read;
    autocommit = read.quiet.mode outside;
    stays = stays_left g settles old mid outside settled live read.quiet;
    left = λ s stands opened. still_stands g settles old mid outside settled live read.quiet s stands opened;
  }
  looks (finding.Unsound bad) read = record {
    clean = read.quiet.survives.clean;
    seen = tt;
    room = λ none. tt;
    refused = λ s stands. found_refused g settles old mid outside settled live (finding.Unsound bad) read s stands some;
    told = found_told g settles old mid outside settled live (finding.Unsound bad) read;
    autocommit = read.quiet.mode outside;
    stays = stays_left g settles old mid outside settled live read.quiet;
    left = λ s stands opened. still_stands g settles old mid outside settled live read.quiet s stands opened;
  }
  looks (finding.Older version) read = record {
    clean = read.quiet.survives.clean;
    seen = tt;
    room = λ none. tt;
    refused = λ s stands. found_refused g settles old mid outside settled live (finding.Older version) read s stands some;
    told = found_told g settles old mid outside settled live (finding.Older version) read;
    autocommit = read.quiet.mode outside;
    stays = stays_left g settles old mid outside settled live read.quiet;
    left = λ s stands opened. still_stands g settles old mid outside settled live read.quiet s stands opened;
  }
  looks (finding.Newer version) read = record {
    clean = read.quiet.survives.clean;
    seen = tt;
    room = λ none. tt;
    refused = λ s stands. found_refused g settles old mid outside settled live (finding.Newer version) read s stands some;
    told = found_told g settles old mid outside settled live (finding.Newer version) read;
    autocommit = read.quiet.mode outside;
    stays = stays_left g settles old mid outside settled live read.quiet;
    left = λ s stands opened. still_stands g settles old mid outside settled live read.quiet s stands opened;
  }
  looks finding.Empty read = record {
    clean = read.quiet.survives.clean;
    seen = tt;
    room = λ none. tt;
    refused = λ s stands clean. tt;
    told = λ clean. tt;
    autocommit = read.quiet.mode outside;
    stays = stays_left g settles old mid outside settled live read.quiet;
    left = λ s stands opened. still_stands g settles old mid outside settled live read.quiet s stands opened;
  }

-- with none of the tables, and no room for them: the store failed, and nothing was asked of it
module _ {S : Type 0} (g : Ghosts S) (settles : Settles g) (old : Held S) (outside : old.in_transaction ≡ false)
    (settled : IsTrue (state g old).is_open → (state g old).now ≡ (state g old).committed) where
  pub looks_full : Looks g old (Err (failed StoreFailed old))
  looks_full = record {
    clean = omega arith;
    seen = tt;
    room = λ none. tt;
    refused = λ s stands clean. tt;
    told = λ clean. tt;
    autocommit = outside;
    stays = λ clean db h. h;
    left = λ s stands opened clean. in_left g settles old settled s stands opened;
  }
