use Rattle.std.proofs.Common.{◌++◌, ap, sym, rules, w64, FitsSigned}
use Rattle.std.proofs.lemmas.Int.{to_z-of_z}
use Rattle.bike_json.specs.Tree.{comma, text_of}
use Rattle.bike_json.specs.State.{has_more}
use Rattle.bike_json.proofs.Series.{Wrote_as}
use Rattle.bike_commands.specs.declared.reply.Reply.{Reply}
use Rattle.bike_http_response.specs.Bodies.{replied_tree}
use Rattle.bike_http_response.proofs.body.write_replied.Goals as goal

pub returns-in-Balance-clause-wrote : goal.returns-in-Balance-clause-wrote
returns-in-Balance-clause-wrote g c =
    let fits : FitsSigned w64 c.in-Balance.balance = search rules in
    Wrote_as (rw (c.signed.ensures, to_z-of_z w64 c.in-Balance.balance fits)
    (ap (λ (r : Reply). comma (has_more c.args.json.now.top) ++ text_of (replied_tree r)) (sym c.in-Balance.is)))
    c.write_object-in-Balance.ensures.wrote

pub returns-in-Ended-clause-wrote : goal.returns-in-Ended-clause-wrote
returns-in-Ended-clause-wrote g c =
    let fits : FitsSigned w64 c.in-Ended.balance = search rules in
    let fare_fits : FitsSigned w64 c.hundredths.result = search rules in
    Wrote_as (rw (c.signed-in-Ended.ensures, c.signed-in-Ended-2.ensures, to_z-of_z w64 c.in-Ended.balance fits, to_z-of_z w64 c.hundredths.result fare_fits, c.hundredths.ensures.value)
    (ap (λ (r : Reply). comma (has_more c.args.json.now.top) ++ text_of (replied_tree r)) (sym c.in-Ended.is)))
    c.write_object-in-Ended.ensures.wrote
