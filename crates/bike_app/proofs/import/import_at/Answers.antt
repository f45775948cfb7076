use Rattle.bike_app.proofs.import.import_at.Goals as goal

pub returns-in-Some-clause-told : goal.returns-in-Some-clause-told
returns-in-Some-clause-told g c clean s at =
    let imported = c.import_named-imported in
    rw c.in-Some.is (record { result = imported.result; ran = imported.ensures.imports clean s at; told = c.tell_rows.ensures })
