use Rattle.std.proofs.Common.{inl, inr}
use Rattle.bike_command_line.proofs.reading.fault_in.Goals as goal

pub mistake_in-requires-clause-against : goal.mistake_in-requires-clause-against
mistake_in-requires-clause-against c = elim c.requires.refused [ inl memory ↦ absurd (c.in_default.not-OutOfMemory memory) | inr against ↦ against ]
