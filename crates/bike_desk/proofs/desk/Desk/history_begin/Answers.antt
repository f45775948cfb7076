use Rattle.std.proofs.Common.{◌≡◌, ℕ, IfOk, ap, ◌∙◌, subst}
use Rattle.bike_schema.proofs.AnswerLemmas.{reads_weaker}
use Rattle.sqlite.specs.State.{HasCleanDisk}
use Rattle.bike_operator.specs.Operator.{Operator}
use Rattle.bike_desk.specs.Desk.{DeskValue, IsAt, desk_state}
use Rattle.bike_desk.specs.Queries.{BeginsAt, Queries}
use Rattle.bike_desk.proofs.QueryLemmas.{begins, queries}
use Rattle.bike_desk.proofs.desk.Desk.history_begin.Goals as goal

pub returns-clause-query : goal.returns-clause-query
returns-clause-query g c =
    let going = ap (λ (d : DeskValue g.row.S.Denot). d.is_stopped) c.self.view_is ∙ c.in_ok-check_serving.ensures in
    let told = queries g.S.Store c.self.inside.conn c.find_history_begin-read.new.conn c.self.inside.stopped c.self.inside.newest c.self.inside.figures (λ s number. Unit {0}) going
    c.find_history_begin-read.result c.answer.new.self c.answer.result (reads_weaker c.find_history_begin-read.ensures (λ db number is s h. tt)) c.answer.ensures in
    subst (λ (d : DeskValue g.row.S.Denot). Queries g.S.Store d c.answer.new.self c.answer.result (λ s number. Unit {0})) c.self.view_is told

pub returns-clause-begin : goal.returns-clause-begin
returns-clause-begin g c =
    let going = ap (λ (d : DeskValue g.row.S.Denot). d.is_stopped) c.self.view_is ∙ c.in_ok-check_serving.ensures in
    let told = begins g.S.Store c.self.inside.conn c.find_history_begin-read.new.conn c.self.inside.stopped c.self.inside.newest c.self.inside.figures {A = ℕ} (λ s number. Unit {0}) going
    c.find_history_begin-read.result c.answer.new.self c.answer.result c.find_history_begin-read.ensures c.answer.ensures in
    subst (λ (d : DeskValue g.row.S.Denot). HasCleanDisk (desk_state g.S.Store c.answer.new.self) → (s : Operator) → IsAt g.S.Store d s
    → IfOk c.answer.result (BeginsAt (desk_state g.S.Store d).now s)) c.self.view_is told
