use Rattle.std.proofs.Common.{◌≡◌, true, false, sym, ◌∙◌}
use Rattle.std.proofs.Math.Facts.{Fits-lt-pow}
use Rattle.bike_http_head.proofs.Feeds.{feed_target, history_target}
use Rattle.bike_http_head.proofs.path.may_ask_feed.Goals as goal

pub returns-else-starts_with-clause-feeds : goal.returns-else-starts_with-clause-feeds
returns-else-starts_with-clause-feeds c feed is =
    let (rest, whole) = feed_target c.args.target.now feed (λ i. Fits-lt-pow (c.type_inv.target i)) is in
    let feeds : c.starts_with.result ≡ true = rw whole at c.starts_with.ensures.value in
    let no : false ≡ true = sym c.if-starts_with.false ∙ feeds in
    absurd (cc no)

pub returns-else-starts_with-clause-history : goal.returns-else-starts_with-clause-history
returns-else-starts_with-clause-history c is =
    let (rest, whole) = history_target c.args.target.now (λ i. Fits-lt-pow (c.type_inv.target i)) is in
    rw whole at c.starts_with-else-starts_with.ensures.value
