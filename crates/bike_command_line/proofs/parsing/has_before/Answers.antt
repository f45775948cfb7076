use Rattle.bike_command_line.proofs.Refused.{is_nothing, is_other, is_there, texts_before}
use Rattle.bike_command_line.proofs.parsing.has_before.Goals as goal

pub returns-in-Some-clause-there : goal.returns-in-Some-clause-there
returns-in-Some-clause-there c = λ has.
    let is = texts_before c.args.end c.min-end.result c.args.words.now c.min-end.ensures in
    let against = rw c.in-Some.is at c.in_ok-found.ensures in
    is_there _ _ c.in-Some.found c.args.kind is against (c.is_same.ensures.same has)

pub returns-in-Some-clause-not : goal.returns-in-Some-clause-not
returns-in-Some-clause-not c = λ has.
    let is = texts_before c.args.end c.min-end.result c.args.words.now c.min-end.ensures in
    let against = rw c.in-Some.is at c.in_ok-found.ensures in
    is_other _ _ c.in-Some.found c.args.kind is against (c.is_same.ensures.other has)

pub returns-in-None-clause-not : goal.returns-in-None-clause-not
returns-in-None-clause-not c = λ has.
    let is = texts_before c.args.end c.min-end.result c.args.words.now c.min-end.ensures in
    let none = rw c.in-None.is at c.in_ok-found.ensures in
    is_nothing _ _ c.args.kind is none
