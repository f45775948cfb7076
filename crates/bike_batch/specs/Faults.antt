-- How the faults below are told.
use Rattle.bike_stream.specs.declared.buffer.ReadFault.{ReadFault}
use Rattle.bike_stream.specs.declared.buffer.ReadFault.TheVariants.{Failed, TooMany}
use Rattle.bike_batch.specs.declared.line_fault.LinesFault.{LinesFault}
use Rattle.bike_batch.specs.declared.line_fault.LinesFault.TheVariants.{Read, TooManyReads}

abbrev pub read_fault : ReadFault → LinesFault
read_fault Failed = Read
read_fault TooMany = TooManyReads
