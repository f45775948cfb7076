use Rattle.bike_desk.proofs.QueryLemmas.{queries_then}
use Rattle.bike_desk.proofs.desk.Desk.rider.Goals as goal

pub returns-in_ok-learn_newest-in-Unknown-clause-query : goal.returns-in_ok-learn_newest-in-Unknown-clause-query
returns-in_ok-learn_newest-in-Unknown-clause-query g c =
    queries_then g.S.Store c.args.self.now c.learn_newest.new.self c.find_rider.new.self c.in_ok-learn_newest-in-Unknown.ensures.query c.find_rider.ensures.query c.find_rider.ensures.takes_none
