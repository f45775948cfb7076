-- What a line's fault is to a table.
use Rattle.bike_day_texts.specs.declared.fault.LineFault.{LineFault}
use Rattle.bike_day_texts.specs.declared.fault.LineFault.TheVariants as line
use Rattle.bike_desk.specs.declared.fault.DeskFault.TheVariants.{NoMemory}
use Rattle.bike_batch.specs.declared.day_fault.DayTableFault.{DayTableFault}
use Rattle.bike_batch.specs.declared.day_fault.DayTableFault.TheVariants.{Write, Desk}

-- memory that was refused for a line is told as the desk's
abbrev pub line_fault : LineFault → DayTableFault
line_fault line.Write = Write
line_fault line.NoMemory = Desk NoMemory
