use Rattle.bike_laws.proofs.LedgerLaw.{ledger_law}
use Rattle.bike_laws.proofs.laws.keeps_ledger.Goals as goal

pub returns : goal.returns
returns c = ledger_law
