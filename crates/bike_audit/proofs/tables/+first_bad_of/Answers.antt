use Rattle.std.proofs.Common.{[], ◌∷◌, refl}
use Rattle.bike_sql.proofs.ChainLaws.{reads_as, reads_both}
use Rattle.bike_schema.proofs.AnswerLemmas.{reads_weaker}
use Rattle.bike_audit.proofs.AuditLemmas.{found_after, found_here, split_first}
use Rattle.bike_audit.proofs.ToldLemmas.{told_more, are_more}
use Rattle.bike_audit.proofs.tables.+first_bad_of.Goals as goal

pub returns-in-None-clause-found : goal.returns-in-None-clause-found
returns-in-None-clause-found g t c =
    reads_weaker (reads_both c.in_ok-key-in-len1-up.ensures c.first_bad_of.ensures.found) (found_after c.args.tables.now _ _ _ (split_first c.args.tables.now _ c.in-len1-up.len_at_least) c.in-None.is)

pub returns-in-Some-clause-found : goal.returns-in-Some-clause-found
returns-in-Some-clause-found g t c = reads_as c.in_ok-key-in-len1-up.ensures (found_here c.args.tables.now _ _ _ _ (split_first c.args.tables.now _ c.in-len1-up.len_at_least) c.in-Some.is)

pub returns-in-Some-clause-watched : goal.returns-in-Some-clause-watched
returns-in-Some-clause-watched g t c =
    let split = split_first c.args.tables.now _ c.in-len1-up.len_at_least in
    (_ ∷ [], c.reached.ensures, ([], refl, (_, split)))

pub returns-in-None-clause-watched : goal.returns-in-None-clause-watched
returns-in-None-clause-watched g t c =
    let split = split_first c.args.tables.now _ c.in-len1-up.len_at_least in
    told_more _ _ _ _ c.reached.ensures (are_more c.args.tables.now _ _ c.first_bad_of.result split) c.first_bad_of.ensures.watched
