use Rattle.bike_read_only.proofs.source.SourceDisk.read_at.Goals as goal

pub returns-in-File-clause-read : goal.returns-in-File-clause-read
returns-in-File-clause-read g c = rw c.in-File.is c.read_at.ensures.read

pub returns-in-Copy-clause-read : goal.returns-in-Copy-clause-read
returns-in-Copy-clause-read g c = rw c.in-Copy.is c.read_at-in-Copy.ensures.read
