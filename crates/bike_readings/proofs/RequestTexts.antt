-- What the readers of commands and of replies tell of the one texts.
use Rattle.std.proofs.Common.{◌≡◌, ◌∙◌, ℕ, List, Bool, true, false, cond, Option, Some, None, Result, Ok, Err, IfOk, IfSome, MatchOption, refl, sym, subst}
use Rattle.std.specs.Prelude.{IsOkAnd, MatchResult}
use Rattle.std.specs.Bool.{then_some}
use Rattle.std.specs.List.{slice_split}
use Rattle.std.specs.Str.{bytes_eq}
use Rattle.bike_commands.specs.declared.command.Command.{Command}
use Rattle.bike_commands.specs.Commands.{IsCommand, IsSpelling, text_of}
use Rattle.bike_commands.specs.declared.reply.Reply.{Reply}
use Rattle.bike_commands.specs.Replies.{IsReply, reply_text}
use Rattle.bike_commands.specs.ReplyReaders.{reply_at}
use Rattle.bike_commands.proofs.ReplyLaws.{reply_sound, reply_full}
use Rattle.bike_requests.specs.Readers.{command_at}
use Rattle.bike_requests.proofs.CommandLaws.{command_sound, command_full}
use Rattle.bike_operator.specs.Sound.{is_refused}
use Rattle.bike_readings.specs.ColumnReaders.{is_tab, one_command_of, accepted_of}

-- where no command is spelled, no one text is
pub no_command : (text : List ℕ) → ((c : Command) → IsCommand c → IsSpelling text c → ◌≡◌ {A = Option Command} None (Some c)) → None ≡ one_command_of text
no_command text only = by (command_at (slice_split is_tab text)) refl
  where
    by : (o : Option Command) → command_at (slice_split is_tab text) ≡ o → None ≡ one_command_of text
    by None is = rw is refl
    by (Some c) is = let read = command_sound text c is in let none : ◌≡◌ {A = Option Command} None (Some c) = only c read.good read.spelled in absurd cc

-- a command that is spelled stands where the text is its one text
pub this_command : (text : List ℕ) (c : Command) (b : Bool) → IsSpelling text c × IsCommand c → bytes_eq text (text_of c) ≡ b → cond b (Some c) None ≡ one_command_of text
this_command text c b it same = let read = command_full text c (record { spelled = it.0; good = it.1 }) in rw read (rw same refl)

kept_where : {A : Type 0} (b : Bool) (x : A) → then_some b x ≡ cond b (Some x) None
kept_where true x = refl
kept_where false x = refl

-- what the reader told of a command, where that is kept as the text is its own
pub own_command : (text : List ℕ) (found : Option Command) (b : Bool) (o : Option Command) → IfSome found (λ c. IsSpelling text c × IsCommand c)
    → ((c : Command) → IsCommand c → IsSpelling text c → found ≡ Some c) → IfSome found (λ c. b ≡ bytes_eq text (text_of c))
    → MatchOption found (o ≡ None) (λ c. o ≡ then_some b c) → o ≡ one_command_of text
own_command text None b o good only same kept = kept ∙ no_command text only
own_command text (Some c) b o good only same kept = kept ∙ kept_where b c ∙ this_command text c b good (sym same)

-- what a closure makes of what came, if it did
pub made_of : {A B E : Type 0} (came : Result A E) (result : Result B E) (Post : A → B → Type 0) (Says : B → Type 0)
    → MatchResult came (λ x. IsOkAnd result (Post x)) (λ e. result ≡ Err e) → ((x : A) (y : B) → came ≡ Ok x → Post x y → Says y) → IfOk result Says
made_of (Ok x) (Ok y) Post Says made says = says x y refl made
made_of (Ok x) (Err e) Post Says made says = tt
made_of (Err e) result Post Says made says = subst (λ r. IfOk r Says) (sym made) tt

pub no_reply : (text : List ℕ) → ((r : Reply) → IsReply r → text ≡ reply_text r → ◌≡◌ {A = Option Reply} None (Some r)) → None ≡ accepted_of text
no_reply text only = by (reply_at (slice_split is_tab text)) refl
  where
    by : (o : Option Reply) → reply_at (slice_split is_tab text) ≡ o → None ≡ accepted_of text
    by None is = rw is refl
    by (Some r) is = let read = reply_sound text r is in let none : ◌≡◌ {A = Option Reply} None (Some r) = only r read.good read.spelled in absurd cc

pub this_reply : (text : List ℕ) (r : Reply) (b : Bool) → (text ≡ reply_text r) × IsReply r → is_refused r ≡ b → cond b None (Some r) ≡ accepted_of text
this_reply text r b it refused = let read = reply_full text r (record { spelled = it.0; good = it.1 }) in rw read (rw refused refl)
