use Rattle.std.proofs.Common.{◌≡◌, Bool, cond, ap, sym, ◌∙◌}
use Rattle.std.specs.Prelude.{option_map}
use Rattle.sqlite_value.specs.Order.{Row}
use Rattle.bike_fleet_rules.specs.Docks.{docked_in, lesser_number, dock_pass, number_row}
use Rattle.bike_fleet_rules.specs.declared.docks.DockJudge.{DockJudge}
use Rattle.bike_fleet_rules.proofs.DockSteps.{step_none, step_some}
use Rattle.bike_fleet_rules.proofs.docks.DockJudgeJudge.take.Goals as goal
use Rattle.bike_fleet_rules.proofs.docks.DockJudgeJudge.take.Goals.{then-is_shared, else-is_shared}

pub returns-in_default : goal.returns-in_default
returns-in_default c = λ left verdict comes. step_none c.args.self.now.last c.args.self.now.found c.args.line.now left verdict c.in_default.ensures comes

pub returns : goal.returns
returns c =
    let next : c.if-is_shared.self.found ≡ cond c.is_shared.result (lesser_number c.args.self.now.found c.in-Some.bike) c.args.self.now.found =
    elim c.if-is_shared.branch [
      | then-is_shared w ↦ ap (λ (j : DockJudge). j.found) w.self-is ∙ w.lesser_number.ensures
          ∙ sym (ap (λ (b : Bool). cond b (lesser_number c.args.self.now.found c.in-Some.bike) c.args.self.now.found) w.if-is_shared.true)
      | else-is_shared w ↦ ap (λ (j : DockJudge). j.found) w.self-is ∙ sym (ap (λ (b : Bool). cond b (lesser_number c.args.self.now.found c.in-Some.bike) c.args.self.now.found) w.if-is_shared.false)
    ] in
    λ left verdict comes.
    ap (λ (r : Row). option_map number_row (dock_pass (docked_in r) c.if-is_shared.self.found left)) c.in_ok-copy.ensures
    ∙ step_some c.args.self.now.last c.args.self.now.found c.if-is_shared.self.found c.args.line.now left verdict c.in-Some.bike c.is_shared.result c.in-Some.ensures c.is_shared.ensures next comes
