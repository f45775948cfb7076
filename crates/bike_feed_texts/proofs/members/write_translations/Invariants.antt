use Rattle.std.proofs.Common.{◌∷◌, drop}
use Rattle.bike_catalogue.specs.Rows.{more_name_of_fields}
use Rattle.bike_feed_texts.specs.Elements.{translation}
use Rattle.bike_json.proofs.Rows.{SoFar}
use Rattle.bike_feed_texts.proofs.members.write_translations.Given as goal

-- the text that is given stands before the others
abbrev pub invariant-loop-more : goal.invariant-loop-more
invariant-loop-more g l =
    SoFar translation l.fn.json l.json (g.W.Output.contents l.fn.out) (g.W.Output.contents l.out)
    (more_name_of_fields l.fn.language l.fn.value ∷ l.names) (drop l.more-index l.names)
