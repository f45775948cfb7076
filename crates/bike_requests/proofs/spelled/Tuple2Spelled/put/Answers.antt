use Rattle.std.proofs.Common.{string_bytes}
use Rattle.bike_requests.proofs.KindLaws.{both_written}
use Rattle.bike_requests.proofs.spelled.Tuple2Spelled.put.Goals as goal

pub returns : goal.returns
returns g c =
    both_written c.put-2.result (g.A.Spelled.stands c.args.self.now.0) (g.B.Spelled.stands c.args.self.now.1) (string_bytes c.args.out.now) (string_bytes c.put.new.out)
    (string_bytes c.put-2.new.out) c.in_ok-put.ensures c.put-2.ensures
