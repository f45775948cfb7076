use Rattle.std.proofs.Common.{arith, subst}
use Rattle.std.proofs.lemmas.Result.{on_ok_weaker, IfErr-weaker}
use Rattle.sqlite.specs.Held.{state}
use Rattle.sqlite.specs.State.{HasCleanDisk}
use Rattle.bike_schema.specs.Creates.{RanAll, table_texts, index_texts}
use Rattle.bike_schema.proofs.RunLemmas.{all_inside}
use Rattle.bike_schema.proofs.FreshLemmas.{are_ours, creates}
use Rattle.bike_schema.proofs.create.create_tables.Goals as goal

pub returns-clause-creates : goal.returns-clause-creates
returns-clause-creates g c clean inside none =
    let a = c.args.staged.now.conn.now in
    let b = c.run_all.new.staged.conn.now in
    let d = c.run_all-2.new.staged.conn.now in
    let clean_d : HasCleanDisk (state g.S.Store d) = omega (arith, clean, c.add_meta.ensures.survives.clean) in
    let clean_b : HasCleanDisk (state g.S.Store b) = omega (arith, clean_d, c.run_all-2.ensures.survives.clean) in
    let tables = subst (λ texts. RanAll g.S.Store texts a b) c.table_texts.ensures (c.in_ok-run_all.ensures.ran clean_b inside) in
    let inside_b = all_inside g.S.Store table_texts a b tables inside in
    let indexes = subst (λ texts. RanAll g.S.Store texts b d) c.index_texts.ensures (c.in_ok-run_all-2.ensures.ran clean_d inside_b) in
    let inside_d = all_inside g.S.Store index_texts b d indexes inside_b in
    on_ok_weaker c.add_meta.result (λ done. creates g.S.Store a b d none tables indexes c.add_meta.new.staged.conn.now done.0)
    (c.add_meta.ensures.done clean inside_d (are_ours g.S.Store a b d none tables indexes))

pub returns-clause-told : goal.returns-clause-told
returns-clause-told g c clean inside =
    let a = c.args.staged.now.conn.now in
    let b = c.run_all.new.staged.conn.now in
    let d = c.run_all-2.new.staged.conn.now in
    let clean_d : HasCleanDisk (state g.S.Store d) = omega (arith, clean, c.add_meta.ensures.survives.clean) in
    let clean_b : HasCleanDisk (state g.S.Store b) = omega (arith, clean_d, c.run_all-2.ensures.survives.clean) in
    let inside_b = all_inside g.S.Store _ a b (c.in_ok-run_all.ensures.ran clean_b inside) inside in
    let inside_d = all_inside g.S.Store _ b d (c.in_ok-run_all-2.ensures.ran clean_d inside_b) inside_b in
    IfErr-weaker c.add_meta.result _ _ (λ fault it. (d, it)) (c.add_meta.ensures.told clean inside_d)
