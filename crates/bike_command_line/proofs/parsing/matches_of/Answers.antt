use Rattle.std.proofs.Common.{map, Bor, List, ℕ, Ok, Err}
use Rattle.bike_command_line.proofs.Parse.{has_among, program_fails, program_matches}
use Rattle.bike_command_line.proofs.parsing.matches_of.Goals as goal

pub returns-in-Ok-try_get_matches_from-clause-taken : goal.returns-in-Ok-try_get_matches_from-clause-taken
returns-in-Ok-try_get_matches_from-clause-taken c =
    let texts = map (λ (w : Bor (List ℕ)). w.now) c.args.words.now in
    program_fails _ texts (Ok c.in-Ok-try_get_matches_from.matches) c.in-Ok.ensures c.in-Ok-try_get_matches_from.ensures.kinds

pub returns-in-Ok-try_get_matches_from-clause-found : goal.returns-in-Ok-try_get_matches_from-clause-found
returns-in-Ok-try_get_matches_from-clause-found c =
    let texts = map (λ (w : Bor (List ℕ)). w.now) c.args.words.now in
    program_matches _ texts c.in-Ok-try_get_matches_from.matches c.in-Ok.ensures c.in-Ok-try_get_matches_from.ensures.matches

pub returns-in-Err-clause-refused : goal.returns-in-Err-clause-refused
returns-in-Err-clause-refused c =
    let texts = map (λ (w : Bor (List ℕ)). w.now) c.args.words.now in
    let fails = program_fails _ texts (Err c.in-Err.error) c.in-Ok.ensures c.in-Err.ensures.kinds in
    has_among c.kind.result c.in-Err.error _ c.kind.ensures fails
