use Rattle.bike_requests.proofs.RequestLaws.{line_found, line_only, line_spared}
use Rattle.bike_requests.proofs.line.read_line.Goals as goal

pub returns-clause-found : goal.returns-clause-found
returns-clause-found c =
    line_found c.args.line.now c.none_if_bad.result c.if-line-gt-LINE_LENGTH.false c.in-Ok.ensures.cases.1
    (c.none_if_bad.ensures _ (rw (c.of.ensures, c.in-Ok.ensures.cases.0) at c.read_request.ensures))

pub returns-clause-only : goal.returns-clause-only
returns-clause-only c =
    line_only c.args.line.now c.none_if_bad.result c.if-line-gt-LINE_LENGTH.false c.in-Ok.ensures.cases.1
    (c.none_if_bad.ensures _ (rw (c.of.ensures, c.in-Ok.ensures.cases.0) at c.read_request.ensures))

pub returns-clause-spared : goal.returns-clause-spared
returns-clause-spared c =
    line_spared c.args.line.now c.none_if_bad.result c.if-line-gt-LINE_LENGTH.false c.in-Ok.ensures.cases.1
    (c.none_if_bad.ensures _ (rw (c.of.ensures, c.in-Ok.ensures.cases.0) at c.read_request.ensures))
