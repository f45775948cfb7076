-- What the fault of a page's lines is to the history.
use Rattle.bike_day_texts.specs.declared.fault.LineFault.{LineFault}
use Rattle.bike_day_texts.specs.declared.fault.LineFault.TheVariants as line
use Rattle.bike_desk.specs.declared.fault.DeskFault.TheVariants.{NoMemory}
use Rattle.bike_batch.specs.declared.history_fault.HistoryFault.{HistoryFault}
use Rattle.bike_batch.specs.declared.history_fault.HistoryFault.TheVariants.{Write, Desk}

-- memory that was refused for them is told as the desk's
abbrev pub page_fault : LineFault → HistoryFault
page_fault line.Write = Write
page_fault line.NoMemory = Desk NoMemory
