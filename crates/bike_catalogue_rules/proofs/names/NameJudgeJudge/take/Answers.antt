use Rattle.std.proofs.Common.{Some, ap, sym, ◌∙◌}
use Rattle.std.specs.Prelude.{option_and_then}
use Rattle.bike_readings.specs.Readings.{name_read}
use Rattle.bike_catalogue_rules.specs.Names.{first_misnamed}
use Rattle.bike_catalogue_rules.proofs.NamesJudged.{next_name, no_name}
use Rattle.bike_catalogue_rules.proofs.names.NameJudgeJudge.take.Goals as goal

pub returns-in_default : goal.returns-in_default
returns-in_default c = λ left verdict is.
    no_name c.args.self.now.own (option_and_then name_read c.args.self.now.last) c.args.self.now.run c.args.line.now left verdict is (sym c.next_run.ensures ∙ c.in_default.is)
    ∙ ap Some (sym c.in_ok-columns_key.ensures)

pub returns : goal.returns
returns c = λ left verdict is.
    ap (λ z. first_misnamed c.args.self.now.own (name_read z) c.in-Some.run' left) c.in_ok-copy.ensures
    ∙ next_name c.args.self.now.own (option_and_then name_read c.args.self.now.last) c.args.self.now.run c.args.line.now left verdict is c.in-Some.run' (sym c.next_run.ensures ∙ c.in-Some.is)
