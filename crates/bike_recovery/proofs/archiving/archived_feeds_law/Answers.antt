use Rattle.std.proofs.Common.{ap, ◌∙◌}
use Rattle.bike_json.specs.Tree.{text_of}
use Rattle.bike_operator.specs.Operator.{Operator}
use Rattle.bike_operator.specs.Runs.{after}
use Rattle.bike_feeds.specs.Publishing.{feed_text}
use Rattle.bike_laws.proofs.ArchivingLaw.{nothing_shown}
use Rattle.bike_recovery.proofs.FeedLemmas.{feed_still}
use Rattle.bike_recovery.proofs.archiving.archived_feeds_law.Goals as goal

pub returns-clause-system : goal.returns-clause-system
returns-clause-system c f s cs sound may good others = ap (λ (o : Operator). o.system) (nothing_shown f s cs sound may good others).operator

pub returns-clause-feeds : goal.returns-clause-feeds
returns-clause-feeds c f s cs x feed moment sound may good others =
    ap (λ (o : Operator). feed_text o x feed moment) (nothing_shown f s cs sound may good others).operator ∙ ap text_of (feed_still f (after s cs) x feed moment)
