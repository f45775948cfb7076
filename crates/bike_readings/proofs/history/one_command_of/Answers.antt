use Rattle.std.proofs.Common.{rules, ◌≡◌, IfSome, MatchOption, None}
use Rattle.std.specs.Bool.{then_some}
use Rattle.std.specs.Str.{bytes_eq}
use Rattle.bike_commands.specs.Commands.{text_of}
use Rattle.bike_readings.proofs.RequestTexts.{own_command, made_of}
use Rattle.bike_readings.specs.ColumnReaders.{one_command_of}
use Rattle.bike_readings.proofs.history.one_command_of.Goals as goal

pub returns : goal.returns
returns c =
    made_of c.is_own_text-is_own.result c.map.result _ (λ o. o ≡ one_command_of c.args.text.now) c.map.ensures.cases (λ b o is post.
    let same : IfSome c.in_ok-command.command (λ x. b ≡ bytes_eq c.args.text.now (text_of x)) = rw is at c.is_own_text-is_own.ensures in
    let kept : MatchOption c.in_ok-command.command (o ≡ None) (λ x. o ≡ then_some b x) = search rules in
    own_command c.args.text.now c.in_ok-command.command b o c.in_ok-command.ensures.found c.in_ok-command.ensures.only same kept)
