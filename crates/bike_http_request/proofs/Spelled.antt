-- The command that a text spells is the one that its parts give.
use Rattle.std.proofs.Common.{◌≡◌, ℕ, List, ◌==◌, Option, Some, None, IfSome, Result, Ok, Err, IfOk, refl, sym}
use Rattle.std.specs.declared.alloc.AllocError.{AllocError}
use Rattle.std.specs.List.{slice_split}
use Rattle.bike_commands.specs.declared.command.Command.{Command}
use Rattle.bike_commands.specs.Commands.{IsCommand, IsSpelling}
use Rattle.bike_requests.specs.Readers.{command_at}
use Rattle.bike_requests.proofs.CommandLaws.{read_found, read_only}

abbrev Found : List ℕ → Option Command → Type 0
Found text o = IfSome o (λ c. IsSpelling text c × IsCommand c)

abbrev Only : List ℕ → Option Command → Type 0
Only text o = (c : Command) → IsCommand c → IsSpelling text c → o ≡ Some c

agree : (text : List ℕ) (o p : Option Command) → Found text o → Only text o → Found text p → Only text p → o ≡ p
agree text None None a b c d = refl
agree text (Some x) p a b c d = sym (d x a.1 a.0)
agree text None (Some y) a b c d = b y c.1 c.0

both : (text : List ℕ) (o : Option Command) → Found text o → Only text o → o ≡ command_at (slice_split (λ b. b == 9) text)
both text o found only =
    let read = command_at (slice_split (λ b. b == 9) text) in
    agree text o read found only (read_found text (Ok read) refl) (read_only text (Ok read) refl)

pub spelled : (text : List ℕ) (r : Result (Option Command) AllocError) → IfOk r (Found text) → IfOk r (Only text)
    → IfOk r (λ o. o ≡ command_at (slice_split (λ b. b == 9) text))
spelled text (Ok o) found only = both text o found only
spelled text (Err e) found only = tt
