use Rattle.std.proofs.Common.{None, inl, inr}
use Rattle.std.proofs.KnownBytes.{Keeps-refl}
use Rattle.bike_schema.specs.Stands.{TreesStandFor}
use Rattle.bike_app.proofs.words.run_words.Goals as goal

pub returns-in-Init-clause-done : goal.returns-in-Init-clause-done
returns-in-Init-clause-done g c clean = rw c.in-Init.is (Keeps-refl _, c.take_up.ensures.told clean)

pub returns-in-Check-clause-done : goal.returns-in-Check-clause-done
returns-in-Check-clause-done g c clean = rw c.in-Check.is (Keeps-refl _, c.look_over.ensures.told clean)

pub returns-in-Raise-clause-done : goal.returns-in-Raise-clause-done
returns-in-Raise-clause-done g c clean = rw c.in-Raise.is (Keeps-refl _, c.raise_up.ensures.told clean)

pub returns-in-Lines-clause-done : goal.returns-in-Lines-clause-done
returns-in-Lines-clause-done g c clean = rw c.in-Lines.is (c.serve.ensures.served clean)

pub returns-in-Feed-clause-done : goal.returns-in-Feed-clause-done
returns-in-Feed-clause-done g c clean = rw (c.in-Feed.is, ← c.moment_of-moment.ensures) (Keeps-refl _, c.publish.ensures.told clean)

-- (at the newest version already, these trees stand for him as they are and raised)
pub returns-in-Raise-clause-kept : goal.returns-in-Raise-clause-kept
returns-in-Raise-clause-kept g c clean s stands live db h =
    let kept : TreesStandFor s db = elim (c.raise_up.ensures.left clean None s stands live db h) [
      | inl old ↦ old
      | inr new ↦ new
    ] in
    rw c.in-Raise.is kept

pub returns-in-Day-clause-done : goal.returns-in-Day-clause-done
returns-in-Day-clause-done g c clean = rw c.in-Day.is (Keeps-refl _, c.report_day.ensures.told clean)

pub returns-in-History-clause-done : goal.returns-in-History-clause-done
returns-in-History-clause-done g c clean = rw c.in-History.is (Keeps-refl _, c.report_history.ensures.told clean)
