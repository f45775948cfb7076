use Rattle.bike_requests.proofs.OneText.{text_spells, text_written, only_text, one_text}
use Rattle.bike_requests.proofs.writing.command_text_law.Goals as goal

pub returns-clause-spells : goal.returns-clause-spells
returns-clause-spells c = text_spells

pub returns-clause-written : goal.returns-clause-written
returns-clause-written c = text_written

pub returns-clause-only : goal.returns-clause-only
returns-clause-only c = only_text

pub returns-clause-apart : goal.returns-clause-apart
returns-clause-apart c = one_text
