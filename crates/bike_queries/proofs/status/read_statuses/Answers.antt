use Rattle.std.proofs.Common.{rules, ◌≡◌, ◌∷◌, ◌++◌, [], length, sym, ap, subst, ◌∙◌, append_assoc, append-nil, arith}
use Rattle.std.specs.List.{AllZip}
use Rattle.std.specs.Vec.Iter.{into_iter_items}
use Rattle.std.proofs.lemmas.List.{nil_from_length}
use Rattle.std.proofs.lemmas.Slice.Zip.{all_zipped_more}
use Rattle.bike_queries.specs.Pages.{IsStatusBy}
use Rattle.bike_queries.proofs.status.read_statuses.Goals as goal

pub loop-station-preserved : goal.loop-station-preserved
loop-station-preserved c =
    let at = c.loop-station in
    let station = c.in-Some.station in
    let ahead = into_iter_items c.next.new.self in
    let steps : into_iter_items at.station-iterator ≡ station ∷ ahead = c.in-Some.ensures.steps.0 in
    let pushed : c.push_back.new.self.items ≡ at.page.items ++ c.in_ok-status.status ∷ [] = search rules in
    record {
      all = append_assoc at.yielded (station ∷ []) ahead ∙ rw (← steps) at.invariant.all;
      len =
          let was = at.invariant.len in
          let gone = c.in-Some.ensures.steps.1 in
          let short = ap length steps in
          omega arith;
      read = subst (AllZip (IsStatusBy c.args.type_ids.now) (at.yielded ++ station ∷ [])) (sym pushed)
          (all_zipped_more (IsStatusBy c.args.type_ids.now) at.yielded at.page.items station c.in_ok-status.status at.invariant.read c.in_ok-status.ensures);
    }

pub returns : goal.returns
returns c =
    let at = c.loop-station in
    let gives = c.into_iter-station-iterator.ensures.into_iter_gives.0 in
    let empty : into_iter_items at.station-iterator ≡ [] = nil_from_length _ (sym at.invariant.len ∙ c.in-None.ensures.steps.0) in
    let all : at.yielded ≡ c.args.stations.items = sym (append-nil at.yielded) ∙ rw empty at at.invariant.all ∙ gives in
    subst (λ xs. AllZip (IsStatusBy c.args.type_ids.now) xs at.page.items) all at.invariant.read
