use Rattle.std.proofs.Common.{◌≡◌, ℕ, ◌+◌, false, List, ◌++◌, append_assoc, ap, ◌∙◌, arith}
use Rattle.httparse.specs.Grammar.{RequestHead, print_request}
use Rattle.httparse.proofs.GrammarLemmas.{request_unique}
use Rattle.bike_http_head.specs.Table.{path_of, route_at}
use Rattle.bike_http_connection.specs.Settled.{wanted_of}
use Rattle.bike_http_connection.proofs.Settling.{ends_within, body_there, enough}
use Rattle.bike_http_connection.proofs.Awaiting.{no_line_yet, at_head, at_body, at_none, no_feed_ever}
use Rattle.bike_http_connection.proofs.stage.stage_of.Goals as goal

pub overflow_add-result : goal.overflow_add-result
overflow_add-result c = let within = ends_within c.args.bytes.now c.in-Whole.head c.in-Whole.ensures in record { fits = omega (arith, within, c.wanted_of.ensures) }

pub returns-in-Incomplete-clause-awaits : goal.returns-in-Incomplete-clause-awaits
returns-in-Incomplete-clause-awaits c = at_head _ false c.args.bytes.now (λ more whole. no_line_yet c.args.bytes.now more c.in-Incomplete.ensures.1 whole)

pub returns-in-Unreadable-clause-awaits : goal.returns-in-Unreadable-clause-awaits
returns-in-Unreadable-clause-awaits c = at_none false c.args.bytes.now c.in-Unreadable.ensures

pub returns-in-Whole-clause-awaits : goal.returns-in-Whole-clause-awaits
returns-in-Whole-clause-awaits c =
    let bytes = c.args.bytes.now in
    let is = c.in-Whole.ensures in
    let ends : c.in-Whole.head.length + c.wanted_of.result ≡ c.in-Whole.head.length + wanted_of c.in-Whole.head.body =
    ap (λ (n : ℕ). c.in-Whole.head.length + n) c.wanted_of.ensures in
    at_body _ _ false bytes (λ more. (body_there bytes c.in-Whole.head is more _ ends, enough bytes c.in-Whole.head is more _ ends))

pub returns-in-Incomplete-clause-feeds : goal.returns-in-Incomplete-clause-feeds
returns-in-Incomplete-clause-feeds c known = absurd known

pub returns-in-Unreadable-clause-feeds : goal.returns-in-Unreadable-clause-feeds
returns-in-Unreadable-clause-feeds c = no_feed_ever c.args.bytes.now c.in-Unreadable.ensures

pub returns-in-Whole-clause-feeds : goal.returns-in-Whole-clause-feeds
returns-in-Whole-clause-feeds c known more (head, rest, has, feed, takes) =
    let is = c.in-Whole.ensures in
    let bytes = c.args.bytes.now in
    let longer : bytes ++ more ≡ print_request is.0 ++ (is.1 ++ more) =
    ap (λ (l : List ℕ). l ++ more) is.2.reads.1 ∙ append_assoc (print_request is.0) is.1 more in
    let same = request_unique (bytes ++ more) is.0 head (is.1 ++ more) rest (is.2.reads.0, longer) has.reads in
    let target : c.of.result.now ≡ head.target = c.of.ensures ∙ is.3.target ∙ ap (λ (h : RequestHead). h.target) same.0 in
    c.may_ask_feed.ensures.feeds feed (ap (λ (l : List ℕ). route_at (path_of l)) target ∙ takes)
