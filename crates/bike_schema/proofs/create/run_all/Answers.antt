use Rattle.std.proofs.Common.{◌≡◌, ◌∙◌, [], Err, IfErr, rules, map, arith, sym, subst}
use Rattle.std.proofs.lemmas.List.{take_all}
use Rattle.std.proofs.lemmas.Result.{IfErr-weaker}
use Rattle.sqlite.specs.Held.{state}
use Rattle.sqlite.proofs.StateLemmas.{survives_then}
use Rattle.bike_sql.proofs.CrashLemmas.{stopped_inside}
use Rattle.bike_schema.specs.Faults.{fault_of}
use Rattle.bike_schema.specs.Creates.{Ran, RanAll}
use Rattle.bike_schema.proofs.RunLemmas.{texts_more, ran_more, all_inside, all_keep, keeps_then, left_keeps, on_err}
use Rattle.bike_schema.proofs.create.run_all.Goals as goal

pub loop-sql-preserved : goal.loop-sql-preserved
loop-sql-preserved g c =
    let begin = c.args.staged.now.conn.now in
    let mid = c.loop-sql.staged.conn.now in
    let last = c.execute.new.self.conn.now in
    record {
      same = c.in_ok-execute.ensures.same_reference ∙ c.loop-sql.invariant.same;
      ran = λ clean inside.
          let before = c.loop-sql.invariant.ran (omega (arith, clean, c.in_ok-execute.ensures.survives.clean)) inside in
          let ran : Ran _ (state g.S.Store mid) (state g.S.Store last) = (c.in_ok-execute.field-0, c.in_ok-execute.ensures.runs clean (all_inside g.S.Store _ begin mid before inside)) in
          subst (λ texts. RanAll g.S.Store texts begin last) (sym (texts_more (λ text. text.now) c.args.texts.now c.loop-sql.sql-index _ c.loop-sql-test.true))
          (ran_more g.S.Store _ _ begin mid last before ran);
      calm =
          survives_then (state g.S.Store begin) (state g.S.Store mid) (state g.S.Store last) _ _ (λ _. ⊥) (λ _ db none. none)
          (λ _ db none. none) c.loop-sql.invariant.calm c.in_ok-execute.ensures.survives;
    }

pub returns-in_err-execute-clause-refused : goal.returns-in_err-execute-clause-refused
returns-in_err-execute-clause-refused g c clean inside =
    let begin = c.args.staged.now.conn.now in
    let mid = c.loop-sql.staged.conn.now in
    let last = c.execute.new.self.conn.now in
    let before = c.loop-sql.invariant.ran (omega (arith, clean, c.in_err-execute.ensures.survives.clean)) inside in
    let left = stopped_inside 0 _ [] (state g.S.Store mid) (state g.S.Store last) (Err c.in_err-execute.field-0.0) (c.in_err-execute.ensures.runs clean (all_inside g.S.Store _ begin mid before inside)) in
    on_err c.from_residual.result (keeps_then (state g.S.Store begin) (state g.S.Store mid) (state g.S.Store last) (all_keep g.S.Store _ begin mid before)
    (left_keeps (state g.S.Store mid) (state g.S.Store last) left))

pub returns-clause-ran : goal.returns-clause-ran
returns-clause-ran g c clean inside =
    subst (λ texts. RanAll g.S.Store (map (λ text. text.now) texts) c.args.staged.now.conn.now c.loop-sql.staged.conn.now)
    (take_all c.loop-sql.sql-index c.args.texts.now (omega (arith, c.loop-sql-test.false)))
    (c.loop-sql.invariant.ran clean inside)

pub returns-in_err-execute-clause-told : goal.returns-in_err-execute-clause-told
returns-in_err-execute-clause-told g c clean inside =
    let begin = c.args.staged.now.conn.now in
    let mid = c.loop-sql.staged.conn.now in
    let before = c.loop-sql.invariant.ran (omega (arith, clean, c.in_err-execute.ensures.survives.clean)) inside in
    let same : IfErr c.from_residual.result (λ fault. fault ≡ fault_of c.in_err-execute.field-0.0) = search rules in
    IfErr-weaker c.from_residual.result _ _ (λ fault is. (
      mid,
      record { text = _; params = []; error = c.in_err-execute.field-0.0; refused = c.in_err-execute.ensures.runs clean (all_inside g.S.Store _ begin mid before inside); fault_is = is },
    )) same
