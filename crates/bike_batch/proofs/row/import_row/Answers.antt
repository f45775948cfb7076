use Rattle.csv.specs.Records.{fields_of}
use Rattle.bike_batch.proofs.ImportServingLemmas.{served_row, request_none}
use Rattle.bike_batch.proofs.row.import_row.Goals as goal

pub returns-clause-served : goal.returns-clause-served
returns-clause-served g c clean s at =
    served_row g.S.Store c.args.desk.now c.serve_request-served.new.desk s c.args.moment c.args.name.now c.args.number (fields_of c.args.row.now) c.in_ok-request.request c.serve_request-served.result
    c.bounds.ensures c.in_ok-request.ensures (c.serve_request-served.ensures.served clean s at)

pub returns-clause-rests : goal.returns-clause-rests
returns-clause-rests g c clean s at none other =
    c.serve_request-served.ensures.rests clean s at
    (request_none g.S.Store c.args.desk.now c.serve_request-served.new.desk s c.args.moment c.args.name.now c.args.number
    (fields_of c.args.row.now) c.in_ok-request.request c.in_ok-request.ensures none)
    other
