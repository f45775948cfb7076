use Rattle.std.proofs.Common.{sym}
use Rattle.bike_texts.proofs.Splitting.{split_is_more}
use Rattle.bike_texts.proofs.fields.Fields.end.Goals as goal

pub returns-in-Some : goal.returns-in-Some
returns-in-Some c = rw (← c.self.view_is, c.in-Some.is) (sym (split_is_more c.self.inside.separator c.in-Some.field-0.now))
