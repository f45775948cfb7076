use Rattle.bike_laws.proofs.SingleSteps.PutLaw as put
use Rattle.bike_laws.proofs.single_steps.counts.put_law.Goals as goal

pub returns-clause-numbers : goal.returns-clause-numbers
returns-clause-numbers c = λ s next number b h. put.put_law s next number b h

pub returns-clause-docks : goal.returns-clause-docks
returns-clause-docks c = λ s next number b h sound sound_next. put.put_docks_law s next number b h sound sound_next
