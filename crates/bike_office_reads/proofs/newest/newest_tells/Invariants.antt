use Rattle.std.proofs.Common.{Ok}
use Rattle.bike_schema.specs.Answers.{Answers}
use Rattle.bike_schema.specs.declared.fault.StatementFault.{StatementFault}
use Rattle.bike_office_reads.proofs.NewestLemmas.{GoesOn}
use Rattle.bike_office_reads.proofs.newest.newest_tells.Given as goal

-- what was read so far leaves the next one to be tested
abbrev pub invariant-rentals : goal.invariant-rentals
invariant-rentals g l = Answers g.S.Store l.fn.conn l.conn {E = StatementFault} (Ok l.next) (λ s m next. GoesOn s next)
