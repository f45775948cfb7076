-- Each request is spelled by the line that is written for it.
use Rattle.std.proofs.Common.{◌≡◌, ℕ, ◌≤◌, true, refl, arith, codes}
use Rattle.std.proofs.lemmas.Bool.Decides.{nat_tests}
use Rattle.bike_fixed.specs.Whole.{last_moment}
use Rattle.bike_fields.specs.Bytes.{is_key_byte, is_printable}
use Rattle.bike_fields.specs.Caller.{IsCaller, caller_text}
use Rattle.bike_fields.specs.declared.caller.Caller.{Caller}
use Rattle.bike_fields.specs.declared.caller.Caller.TheVariants.{Office, Staff, Rider, Dock, Crew, Import}
use Rattle.bike_commands.specs.declared.request.Request.{Request}
use Rattle.bike_commands.specs.Commands.{text_of}
use Rattle.bike_commands.specs.Requests.{IsRequest, IsLine, line_length}
use Rattle.bike_requests.specs.Lines.{line_text}
use Rattle.bike_requests.proofs.OneText.{text_spells}
use Rattle.bike_requests.proofs.LineTexts.{FitsLine, appended, behind_tab, decimal_fits, within, word_fits}
use Rattle.bike_requests.proofs.CommandTexts.{command_fits, ident_fits, of_bytes}

caller_fits : (c : Caller) → IsCaller c → FitsLine 43 (caller_text c)
caller_fits Office good = word_fits (codes "office") refl
caller_fits (Staff name) good = appended (word_fits {most = 7} (codes "office:") refl) (ident_fits name good)
caller_fits (Rider n) good = within (omega arith) (appended (word_fits {most = 6} (codes "rider:") refl) (decimal_fits n (omega (arith, good.1))))
caller_fits (Dock station) good = within (omega arith) (appended (word_fits {most = 5} (codes "dock:") refl) (ident_fits station good))
caller_fits (Crew n) good = within (omega arith) (appended (word_fits {most = 5} (codes "crew:") refl) (decimal_fits n (omega (arith, good.1))))
caller_fits (Import name) good = appended (word_fits {most = 7} (codes "import:") refl) (ident_fits name good)

key_byte : (b : ℕ) → is_key_byte b ≡ true → is_printable b ≡ true
key_byte b h = grind (arith, nat_tests, h)

pub line_fits : (moment : ℕ) (q : Request) → moment ≤ last_moment → IsRequest q → FitsLine line_length (line_text moment q)
line_fits moment q past good =
    let behind_key = appended (of_bytes 1 64 is_key_byte key_byte q.key good.key) (behind_tab (command_fits q.command good.command)) in
    let behind_caller = appended (caller_fits q.caller good.caller) (behind_tab behind_key) in
    within (omega arith) (appended (decimal_fits moment (omega (arith, past))) (behind_tab behind_caller))

pub line_again : (moment : ℕ) (q : Request) → moment ≤ last_moment → IsRequest q → IsLine (line_text moment q) moment q
line_again moment q past good =
    let whole = line_fits moment q past good in
    record { short = whole.short; utf8 = whole.utf8; command = text_of q.command; spelled = text_spells q.command good.command; joined = refl }
