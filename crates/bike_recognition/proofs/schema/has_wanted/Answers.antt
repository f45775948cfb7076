use Rattle.std.proofs.Common.{rules, ◌≡◌, None, Some, slice_get, sym}
use Rattle.bike_recognition.proofs.SchemaLemmas.{nowhere, not_empty, is_wanted}
use Rattle.bike_recognition.proofs.schema.has_wanted.Goals as goal

pub returns-in-Some-get : goal.returns-in-Some-get
returns-in-Some-get c =
    let got : slice_get c.args.schema.now.tables c.in-Some.at ≡ Some c.in-Some-get.table.now = sym c.in-Some-get.ensures.value in
    is_wanted c.args.schema.now c.args.wanted.now c.place_of_table.result c.place_of_table.ensures c.in-Some.at c.in-Some.is c.in-Some-get.table.now got c.is_referred_to.result c.is_referred_to.ensures

pub returns-in-None-get : goal.returns-in-None-get
returns-in-None-get c =
    let got : slice_get c.args.schema.now.tables c.in-Some.at ≡ None = sym c.in-None-get.ensures.value in
    (λ never. absurd (search rules), λ it. absurd (not_empty c.args.schema.now c.args.wanted.now c.place_of_table.result c.place_of_table.ensures c.in-Some.at c.in-Some.is got it))

pub returns-in-None : goal.returns-in-None
returns-in-None c = (λ never. absurd (search rules), λ it. absurd (nowhere c.args.schema.now c.args.wanted.now c.place_of_table.result c.place_of_table.ensures c.in-None.is it))
