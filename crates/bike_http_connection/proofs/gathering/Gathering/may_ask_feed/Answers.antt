use Rattle.std.proofs.Common.{IsTrue, subst}
use Rattle.bike_http_connection.specs.declared.stage.Stage.{Stage}
use Rattle.bike_http_connection.specs.Awaiting.{KnowsHead, shows_feed}
use Rattle.bike_http_connection.proofs.Awaiting.{feed_shown}
use Rattle.bike_http_connection.proofs.gathering.Gathering.may_ask_feed.Goals as goal

pub returns-in-Head-clause-feeds : goal.returns-in-Head-clause-feeds
returns-in-Head-clause-feeds c known asks = absurd (subst (λ (s : Stage). KnowsHead s) c.in-Head.is known)

pub returns-in-Body-clause-feeds : goal.returns-in-Body-clause-feeds
returns-in-Body-clause-feeds c known asks =
    let it = c.args.self.now in
    subst (λ (s : Stage). IsTrue (shows_feed s)) c.in-Body.is (feed_shown it.stage it.bytes.items it.feeds known asks)

pub returns-in-Unreadable-clause-feeds : goal.returns-in-Unreadable-clause-feeds
returns-in-Unreadable-clause-feeds c known asks =
    let it = c.args.self.now in
    subst (λ (s : Stage). IsTrue (shows_feed s)) c.in-Unreadable.is (feed_shown it.stage it.bytes.items it.feeds known asks)
