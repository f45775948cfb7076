use Rattle.std.proofs.Common.{inl, inr, refl}
use Rattle.bike_operator.specs.Operator.{no_operator}
use Rattle.bike_app.proofs.LookLemmas.{matched}
use Rattle.bike_app.proofs.ProgramLemmas.{by_look, refuses, refused_left}
use Rattle.bike_app.proofs.words.look_over.Goals as goal

pub returns-in-Ok-Sound-clause-told : goal.returns-in-Ok-Sound-clause-told
returns-in-Ok-Sound-clause-told g c clean =
    let it = (matched c.in-Ok-Sound.field-0-is c.in-Ok-Sound.ensures).seen clean in
    inr (record { operator = it.1.0; was = it.1.1; same = inr it.0 }, c.write_line.ensures)

pub returns-in-Ok-Empty-clause-told : goal.returns-in-Ok-Empty-clause-told
returns-in-Ok-Empty-clause-told g c clean =
    let it = (matched c.in-Ok-Empty.field-0-is c.in-Ok-Empty.ensures).seen clean in
    inr (record { operator = no_operator; was = inl (it.1, refl); same = inl it.0 }, c.write_line-in-Ok-Empty.ensures)

pub returns-in-Ok-Sound-clause-kept : goal.returns-in-Ok-Sound-clause-kept
returns-in-Ok-Sound-clause-kept g c clean s stands live = (matched c.in-Ok-Sound.field-0-is c.in-Ok-Sound.ensures).left s stands live clean

pub returns-in-Ok-Empty-clause-kept : goal.returns-in-Ok-Empty-clause-kept
returns-in-Ok-Empty-clause-kept g c clean s stands live = (matched c.in-Ok-Empty.field-0-is c.in-Ok-Empty.ensures).left s stands live clean

pub returns-in-Err-clause-told : goal.returns-in-Err-clause-told
returns-in-Err-clause-told g c clean = inl (refuses g.S.Store c.in-Err.fault (by_look c.in-Err.ensures) c.refused.ensures.conn clean _ c.refused.ensures.told)

pub returns-in-Err-clause-kept : goal.returns-in-Err-clause-kept
returns-in-Err-clause-kept g c clean s stands live = refused_left g.S.Store c.in-Err.fault (by_look c.in-Err.ensures) c.refused.ensures.conn clean s stands live

pub returns-in-Err-clause-stays : goal.returns-in-Err-clause-stays
returns-in-Err-clause-stays g c clean = rw c.refused.ensures.conn (c.in-Err.ensures.stays (rw c.refused.ensures.conn at clean))

pub returns-in-Ok-Sound-clause-stays : goal.returns-in-Ok-Sound-clause-stays
returns-in-Ok-Sound-clause-stays g c clean = (matched c.in-Ok-Sound.field-0-is c.in-Ok-Sound.ensures).stays clean

pub returns-in-Ok-Empty-clause-stays : goal.returns-in-Ok-Empty-clause-stays
returns-in-Ok-Empty-clause-stays g c clean = (matched c.in-Ok-Empty.field-0-is c.in-Ok-Empty.ensures).stays clean
