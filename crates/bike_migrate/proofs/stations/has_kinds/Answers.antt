use Rattle.std.proofs.Common.{ℕ, length, rules}
use Rattle.std.proofs.lemmas.Iterator.{YieldsList-from_slice, YieldsList-from_range, YieldsList-from_zip}
use Rattle.std.proofs.lemmas.Iterator.Search.{all_from_yields_List}
use borrow.Author.Tests.{tests}
use Rattle.sqlite_value.specs.Order.{column}
use Rattle.sqlite_schema.specs.declared.schema.Kind.{Kind}
use Rattle.bike_migrate.specs.Stations.{may_hold}
use Rattle.bike_migrate.proofs.stations.has_kinds.Goals as goal

pub returns : goal.returns
returns c =
    all_from_yields_List (λ (x : ℕ × Kind). may_hold x.1 (column c.args.row.now x.0)) c.all.new.self _ c.all.result c.all.ensures.ran
    (YieldsList-from_zip (YieldsList-from_range 0 (length c.args.kinds.now) (length c.args.kinds.now) (search rules) (search rules)) (YieldsList-from_slice c.args.kinds.now (search rules)))
    (λ x b q k. search (rules, tests))
