use Rattle.std.proofs.Common.{rules, ◌≡◌, ◌∷◌, ◌++◌, [], length, true, sym, ap, subst, ◌∙◌, append_assoc, append-nil, arith}
use Rattle.std.specs.Cmp.{unsigned_Decides}
use Rattle.std.specs.List.{All}
use Rattle.std.specs.Vec.Iter.{into_iter_items}
use Rattle.std.proofs.lemmas.List.{nil_from_length}
use Rattle.bike_queries.specs.Pages.{AreApart, ReadsNamed, id_of, is_own}
use Rattle.bike_queries.proofs.GroupLaw.{next_read, all_read, of_all, AreReadWith, HaveRead}
use Rattle.bike_queries.proofs.pages.read_page.Goals as goal

pub loop-station-preserved : goal.loop-station-preserved
loop-station-preserved c =
    let at = c.loop-station in
    let station = c.in-Some.station in
    let ahead = into_iter_items c.next.new.self in
    let steps : into_iter_items at.station-iterator ≡ station ∷ ahead = c.in-Some.ensures.steps.0 in
    let rows = c.args.rows.now in
    let rest = at.rest.now in
    let own = c.split_at.result.0.now in
    let later = c.split_at.result.1.now in
    let pushed : c.push_back.new.self.items ≡ at.page.items ++ c.in_ok-named.named ∷ [] = search rules in
    let its = subst (λ id. All (λ r. is_own id r ≡ true) own) c.id.ensures (subst (All (λ r. is_own c.id.result.now r ≡ true)) (sym c.split_at.ensures.front) c.count_own-number.ensures.own) in
    record {
      all = append_assoc at.yielded (station ∷ []) ahead ∙ rw (← steps) at.invariant.all;
      len =
          let was = at.invariant.len in
          let gone = c.in-Some.ensures.steps.1 in
          let short = ap length steps in
          omega arith;
      read = λ apart.
          let parts = ap (λ xs. at.yielded ++ xs) (sym steps) ∙ at.invariant.all in
          subst (HaveRead id_of ReadsNamed rows later (at.yielded ++ station ∷ []) ahead) (sym pushed)
          (next_read id_of ReadsNamed rows rest own later at.yielded ahead station at.page.items c.in_ok-named.named (subst (AreApart id_of) (sym parts) apart)
          c.split_at.ensures.by_index.0 (of_all (λ r. is_own (id_of station) r ≡ true) own its) c.in_ok-named.ensures
          (subst (λ xs. HaveRead id_of ReadsNamed rows rest at.yielded xs at.page.items) steps (at.invariant.read apart)));
    }

pub returns : goal.returns
returns c = λ apart.
    let at = c.loop-station in
    let rows = c.args.rows.now in
    let gives = c.into_iter-station-iterator.ensures.into_iter_gives.0 in
    let empty : into_iter_items at.station-iterator ≡ [] = nil_from_length _ (sym at.invariant.len ∙ c.in-None.ensures.steps.0) in
    let all : at.yielded ≡ c.args.stations.items = sym (append-nil at.yielded) ∙ rw empty at at.invariant.all ∙ gives in
    let none : length at.rest.now ≡ 0 = (unsigned_Decides (length at.rest.now) 0).0 (sym c.if-not-is_empty.ensures) in
    subst (λ owners. AreReadWith id_of ReadsNamed rows owners at.page.items) all
    (all_read id_of ReadsNamed rows at.rest.now at.yielded at.page.items (nil_from_length at.rest.now none)
    (subst (λ xs. HaveRead id_of ReadsNamed rows at.rest.now at.yielded xs at.page.items) empty (at.invariant.read (subst (AreApart id_of) (sym gives) apart))))
