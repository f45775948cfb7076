use Rattle.bike_texts.proofs.Splitting.{part_found, part_last}
use Rattle.bike_texts.proofs.fields.Fields.part.Goals as goal

pub returns-in-Some : goal.returns-in-Some
returns-in-Some c =
    part_found c.self.inside.separator c.in_ok-text.text c.in-Some.front c.in-Some.back c.self.inside.rest c.args.self.now c.self.invariant c.self.view_is c.in_ok-text.was c.in-Some.ensures.cases

pub returns-in-None : goal.returns-in-None
returns-in-None c = part_last c.self.inside.separator c.in_ok-text.text c.self.inside.rest c.args.self.now c.self.invariant c.self.view_is c.in_ok-text.was c.in-None.ensures.cases
