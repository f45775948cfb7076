use Rattle.std.proofs.Common.{◌≡◌, [], ◌∷◌, ◌++◌, ◌+◌, take, length-take, sym, subst, rules, arith}
use Rattle.std.specs.List.{AllZip}
use Rattle.std.proofs.lemmas.Slice.Zip.{AllZip-long}
use Rattle.bike_office_reads.specs.ReadRows.{IsOwnedName}
use Rattle.bike_office_reads.proofs.NameLemmas.{next_named}
use Rattle.bike_office_reads.proofs.names.read_names.Goals as goal

pub loop-row-preserved : goal.loop-row-preserved
loop-row-preserved c =
    let rows = c.args.rows.now in
    let pushed : c.push.new.self.items ≡ c.loop-row.names.items ++ c.in_ok-name.name ∷ [] = search rules in
    subst (AllZip IsOwnedName (take (c.loop-row.row-index + 1) rows)) (sym pushed)
    (next_named rows c.loop-row.names.items c.loop-row.row-index c.row-item.result c.in_ok-name.name c.loop-row-test.true c.row-item.is c.in_ok-name.ensures c.loop-row.invariant)

pub returns-clause-few : goal.returns-clause-few
returns-clause-few c =
    let as_many = AllZip-long IsOwnedName (take c.loop-row.row-index c.args.rows.now) c.loop-row.names.items c.loop-row.invariant in
    omega (arith, as_many, length-take c.loop-row.row-index c.args.rows.now)
