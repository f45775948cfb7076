use Rattle.std.proofs.Common.{string_bytes}
use Rattle.bike_requests.proofs.KindLaws.{both_written}
use Rattle.bike_requests.proofs.spelled.Tuple2FieldReferences.put_all.Goals as goal

pub returns : goal.returns
returns g c =
    both_written c.put_all-2.result (g.A.FieldReferences.written c.args.self.now.0) (g.B.FieldReferences.written c.args.self.now.1) (string_bytes c.args.out.now) (string_bytes c.put_all.new.out)
    (string_bytes c.put_all-2.new.out) c.in_ok-put_all.ensures c.put_all-2.ensures
