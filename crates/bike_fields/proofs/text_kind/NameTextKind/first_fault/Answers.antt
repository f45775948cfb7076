use Rattle.std.proofs.Common.{rules, ◌≡◌, true, refl}
use Rattle.std.specs.List.{list_all}
use Rattle.bike_fields.specs.declared.text_lengths.TheConstants.{LONGEST_NAME}
use Rattle.bike_fields.specs.Bytes.{is_name, has_length, is_name_byte, name_of}
use Rattle.bike_fields.proofs.Names.{name_holds}
use Rattle.bike_fields.proofs.text_kind.NameTextKind.first_fault.Goals as goal

pub returns-clause-judged : goal.returns-clause-judged
unfolding name_of
returns-clause-judged c =
    let length : has_length 1 LONGEST_NAME c.args.text.now ≡ true = search rules in
    let bytes : list_all is_name_byte c.args.text.now ≡ true = search rules in
    let good : is_name c.args.text.now ≡ true = name_holds c.args.text.now length bytes c.utf8.text in
    (good, rw good refl)
