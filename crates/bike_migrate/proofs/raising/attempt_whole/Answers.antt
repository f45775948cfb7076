use Rattle.std.proofs.Common.{rules}
use Rattle.bike_migrate.proofs.InPlaceLemmas.{place_failed, ends_in_place}
use Rattle.bike_migrate.proofs.raising.attempt_whole.Goals as goal

pub returns-in_err-bad : goal.returns-in_err-bad
returns-in_err-bad g c = place_failed g.S.Store c.args.earlier c.args.conn.now c.attempt.new.conn c.in_err-bad.ensures (search rules)

pub returns : goal.returns
returns g c =
    ends_in_place g.S.Store c.args.earlier c.args.conn.now c.attempt.new.conn c.end.new.conn c.in_ok-bad.bad (c.is_at_rest.ensures.settled) c.is_at_rest.ensures.live c.in_ok-bad.ensures c.end.ensures
