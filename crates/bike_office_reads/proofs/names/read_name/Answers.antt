use Rattle.std.proofs.Common.{sym, subst, ap, ◌∙◌, Some, ◌≡◌, rules}
use Rattle.bike_fields.specs.Bytes.{language_of, name_of}
use Rattle.bike_office_reads.specs.ReadRows.{IsOwnedName}
use Rattle.bike_office_reads.proofs.NameLemmas.{name_of_row}
use Rattle.bike_office_reads.proofs.names.read_name.Goals as goal

pub returns : goal.returns
returns c =
    let row = c.row.inside in
    let language : language_of row.language.bytes ≡ Some c.in_ok-language-2.language = ap language_of (sym c.as_str.ensures.value) ∙ sym c.in_ok-language.ensures ∙ search rules in
    let name : name_of row.name.bytes ≡ Some c.in_ok-name-2.name = ap name_of (sym c.as_str-2.ensures.value) ∙ sym c.in_ok-name.ensures ∙ search rules in
    subst (IsOwnedName c.args.row.now) (sym c.from_fields.ensures) (name_of_row row.id.bytes row.language.bytes row.name.bytes c.args.row.now _ (sym c.row.view_is) language name)
