use Rattle.std.proofs.Common.{ℕ, List, [], refl, subst, inl}
use Rattle.bike_batch.specs.Imports.{Imports}
use Rattle.bike_app.proofs.import.import_named.Goals as goal

pub returns-clause-imports : goal.returns-clause-imports
returns-clause-imports g c clean s at =
    let is_of = λ (name : List ℕ). Imports g.S.Store c.import_stations.new.desk s c.args.moment name (g.R.Read.remaining c.args.reader.now) c.import_stations.result in
    subst is_of c.in-Ok.ensures (c.import_stations.ensures.imports clean s at)

pub returns-in_default-clause-imports : goal.returns-in_default-clause-imports
returns-in_default-clause-imports g c clean s at =
    record { rows = []; calls = []; text = inl refl; accepts = record { read = tt; good = tt; accepted = tt }; at = at }
