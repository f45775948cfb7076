use Rattle.std.proofs.Common.{ℕ, List, subst, ap, ap₂, map, filter, ◌∙◌}
use Rattle.std.proofs.lemmas.Result.{IfOk-weaker}
use Rattle.std.specs.FinMap as fin
use Rattle.std.specs.List.{AllZip}
use Rattle.bike_operator.specs.Names.{is_name_of}
use Rattle.bike_operator.specs.Operator.{Operator}
use Rattle.bike_schema.proofs.AnswerLemmas.{answers_then}
use Rattle.bike_book.specs.Stored.{stored_name}
use Rattle.bike_office_reads.specs.ReadRows.{IsOwnedName, is_name_within, owned_name}
use Rattle.bike_office_reads.proofs.NameLemmas.{its_rows, names_read}
use Rattle.bike_office_reads.proofs.names.find_names.Goals as goal

pub returns : goal.returns
returns g c =
    let kind = c.args.kind in
    let id = c.args.id.now in
    let among = λ (s : Operator) (a b : List ℕ). map owned_name (filter (is_name_within kind a b) (map stored_name (fin.entries s.more_names))) in
    answers_then _ _ c.in_ok-rows.ensures (λ s m sound listing is. IfOk-weaker c.read_names.result _ _ (λ x read.
    names_read (filter (λ e. is_name_of kind id e.0) (fin.entries s.more_names)) x.items
    (subst (λ rows. AllZip IsOwnedName rows x.items) (c.as_slice.ensures.value ∙ is ∙ ap₂ (among s) c.as_str.ensures.text c.as_str-2.ensures.text
    ∙ ap (map owned_name) (its_rows kind id (fin.entries s.more_names))) read)) c.read_names.ensures.read)
