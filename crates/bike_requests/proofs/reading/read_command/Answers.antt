use Rattle.bike_requests.proofs.CommandLaws.{read_found, read_only, read_spared}
use Rattle.bike_requests.proofs.reading.read_command.Goals as goal

pub returns-clause-found : goal.returns-clause-found
returns-clause-found c = read_found c.args.text.now c.none_if_bad.result (c.none_if_bad.ensures _ (rw c.of.ensures at c.read_rest.ensures))

pub returns-clause-only : goal.returns-clause-only
returns-clause-only c = read_only c.args.text.now c.none_if_bad.result (c.none_if_bad.ensures _ (rw c.of.ensures at c.read_rest.ensures))

pub returns-clause-spared : goal.returns-clause-spared
returns-clause-spared c = read_spared c.args.text.now c.none_if_bad.result (c.none_if_bad.ensures _ (rw c.of.ensures at c.read_rest.ensures))
