-- The rows of accepted requests are read exactly: number and moment, caller and key, and the one texts of a command and of a reply that is no refusal.
use Rattle.std.proofs.Common.{◌≡◌, ℕ, List, Bool, true, false, cond, Some, None, refl, subst}
use Rattle.std.specs.List.{slice_split}
use Rattle.std.specs.Str.{bytes_eq}
use Rattle.std.proofs.lemmas.Option.{option_and_then_some, cond_some, same_Some}
use Rattle.std.proofs.lemmas.Slice.Eq.{bytes_eq-Decides}
use Rattle.sqlite_value.specs.declared.value.Value.TheVariants.{Text}
use Rattle.bike_fields.specs.Caller.{IsCaller, caller_text, caller_of}
use Rattle.bike_fields.proofs.Callers.{caller_sound, caller_full}
use Rattle.bike_commands.specs.declared.command.Command.{Command}
use Rattle.bike_commands.specs.Commands.{IsCommand, text_of}
use Rattle.bike_commands.specs.declared.reply.Reply.{Reply}
use Rattle.bike_commands.specs.Replies.{IsReply, reply_text}
use Rattle.bike_commands.specs.ReplyReaders.{reply_at}
use Rattle.bike_commands.proofs.ReplyLaws.{reply_sound, reply_full}
use Rattle.bike_requests.specs.Readers.{command_at}
use Rattle.bike_requests.proofs.CommandLaws.{command_sound, command_full}
use Rattle.bike_requests.proofs.OneText.{text_spells}
use Rattle.bike_operator.specs.Sound.{is_refused}
use Rattle.bike_book.specs.Stored.{stored_request}
use Rattle.bike_readings.specs.ColumnReaders.{is_tab, caller_in, command_in, reply_in, one_command_of, accepted_of}
use Rattle.bike_readings.specs.Bounds.{IsStoredRequest}
use Rattle.bike_readings.specs.BothWays.{RequestReading}
use Rattle.bike_readings.proofs.ColumnLaws.{IsColumn, of_text, key_column, moment_column, request_count_column}
use Rattle.bike_readings.proofs.ChainLaws.{wide, takes, ends, gives}
use Rattle.bike_readings.proofs.TextUtf8.{command_utf8, reply_utf8, caller_utf8}

pub caller_column : IsColumn caller_in (λ c. Text (caller_text c)) IsCaller
caller_column = of_text caller_of caller_text IsCaller (λ text c e. let s = caller_sound text c e in (s.1, s.0)) caller_full caller_utf8

-- ---- commands

one_text_sound : (text : List ℕ) (c : Command) → one_command_of text ≡ Some c → (text ≡ text_of c) × IsCommand c
one_text_sound text c e =
    option_and_then_some (λ d. cond (bytes_eq text (text_of d)) (Some d) None) (command_at (slice_split is_tab text)) c e (λ d read kept.
    let s = cond_some (bytes_eq text (text_of d)) d c kept in
    let good = (command_sound text d read).good in
    subst (λ (x : Command). (text ≡ text_of x) × IsCommand x) s.1 ((bytes_eq-Decides text (text_of d)).0 s.0, good))

one_text_full : (c : Command) → IsCommand c → one_command_of (text_of c) ≡ Some c
one_text_full c g =
    let read = command_full (text_of c) c (record { spelled = text_spells c g; good = g }) in
    let same : bytes_eq (text_of c) (text_of c) ≡ true = (bytes_eq-Decides (text_of c) (text_of c)).1 refl in
    rw read (rw same refl)

pub command_column : IsColumn command_in (λ c. Text (text_of c)) IsCommand
command_column = of_text one_command_of text_of IsCommand one_text_sound one_text_full command_utf8

-- ---- replies

abbrev pub IsAccepted : Reply → Type 0
IsAccepted r = IsReply r × (is_refused r ≡ false)

accepted_by : (text : List ℕ) (y r : Reply) → text ≡ reply_text y → IsReply y → (c : Bool) → is_refused y ≡ c → cond c None (Some y) ≡ Some r → (text ≡ reply_text r) × IsAccepted r
accepted_by text y r spelled good true i kept = absurd cc
accepted_by text y r spelled good false i kept = subst (λ (z : Reply). (text ≡ reply_text z) × IsAccepted z) (same_Some y r kept) (spelled, (good, i))

accepted_sound : (text : List ℕ) (r : Reply) → accepted_of text ≡ Some r → (text ≡ reply_text r) × IsAccepted r
accepted_sound text r e =
    option_and_then_some (λ x. cond (is_refused x) None (Some x)) (reply_at (slice_split is_tab text)) r e (λ x read kept.
    let s = reply_sound text x read in
    accepted_by text x r s.spelled s.good (is_refused x) refl kept)

accepted_full : (r : Reply) → IsAccepted r → accepted_of (reply_text r) ≡ Some r
accepted_full r g =
    let read = reply_full (reply_text r) r (record { spelled = refl; good = g.0 }) in
    let taken = g.1 in
    rw read (rw taken refl)

pub reply_column : IsColumn reply_in (λ r. Text (reply_text r)) IsAccepted
reply_column = of_text accepted_of reply_text IsAccepted accepted_sound accepted_full (λ r g. reply_utf8 r g.0 g.1)

-- ---- the row

pub request_reading : RequestReading
request_reading = record {
  sound = λ row x e.
      wide 6 row e (λ width e.
      takes _ request_count_column e (λ number number_is _ e.
      takes _ moment_column e (λ moment moment_is moment_good e.
      takes _ caller_column e (λ caller caller_is caller_good e.
      takes _ key_column e (λ key key_is key_good e.
      takes _ command_column e (λ command command_is command_good e.
      takes _ reply_column e (λ reply reply_is reply_good e.
      ends stored_request IsStoredRequest x e width
      (number_is, (moment_is, (caller_is, (key_is, (command_is, (reply_is, tt))))))
      (record { moment = moment_good; request = record { caller = caller_good; key = key_good; command = command_good }; reply = reply_good.0; accepted = reply_good.1 }))))))));
  full = λ x g.
      gives _ x.1.moment moment_column g.moment (
      gives _ x.1.request.caller caller_column g.request.caller (
      gives _ x.1.request.key key_column g.request.key (
      gives _ x.1.request.command command_column g.request.command (
      gives _ x.1.reply reply_column (g.reply, g.accepted) refl))));
}
