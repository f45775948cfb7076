use Rattle.std.proofs.Common.{rules, ◌≡◌, true, false}
use Rattle.bike_commands.specs.Replies.{IsReply, reply_text}
use Rattle.bike_operator.specs.Sound.{is_refused}
use Rattle.bike_readings.proofs.RequestTexts.{this_reply}
use Rattle.bike_readings.proofs.history.accepted_of.Goals as goal

pub returns-then-is_refused : goal.returns-then-is_refused
returns-then-is_refused c =
    let found : (c.args.text.now ≡ reply_text c.in-Some.reply) × IsReply c.in-Some.reply = search rules in
    let refused : is_refused c.in-Some.reply ≡ true = search rules in
    this_reply c.args.text.now c.in-Some.reply true found refused

pub returns-else-is_refused : goal.returns-else-is_refused
returns-else-is_refused c =
    let found : (c.args.text.now ≡ reply_text c.in-Some.reply) × IsReply c.in-Some.reply = search rules in
    let taken : is_refused c.in-Some.reply ≡ false = search rules in
    this_reply c.args.text.now c.in-Some.reply false found taken
