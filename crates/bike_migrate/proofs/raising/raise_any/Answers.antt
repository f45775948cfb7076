use Rattle.std.proofs.Common.{rules, refl}
use Rattle.bike_migrate.proofs.FoundLemmas.{comes_foreign, comes_newest, comes_failed, comes_raised}
use Rattle.bike_migrate.proofs.raising.raise_any.Goals as goal

pub returns-in_ok-audit_newest-in-Newest : goal.returns-in_ok-audit_newest-in-Newest
returns-in_ok-audit_newest-in-Newest g c =
    let read = rw c.in-Newest.is at c.in_ok-find_version_of.ensures in
    rw c.cause_of.ensures (comes_newest g.S.Store c.args.conn.now c.find_version_of.new.conn read c.audit_newest.new.conn _ c.in_ok-audit_newest-in-Newest.ensures c.requires)

pub returns-in_err-raise_earlier-in-Of : goal.returns-in_err-raise_earlier-in-Of
returns-in_err-raise_earlier-in-Of g c =
    let read = rw c.in-Of.is at c.in_ok-find_version_of.ensures in
    comes_failed g.S.Store c.args.conn.now c.find_version_of.new.conn c.in-Of.earlier read c.raise_earlier.new.conn c.in_err-raise_earlier-in-Of.ensures.in_place c.in_err-raise_earlier-in-Of.ensures.ended (search rules)

pub returns-in_ok-raise_earlier-in-Of : goal.returns-in_ok-raise_earlier-in-Of
returns-in_ok-raise_earlier-in-Of g c =
    let read = rw c.in-Of.is at c.in_ok-find_version_of.ensures in
    rw c.cause_of-in-Of.ensures
    (comes_raised g.S.Store c.args.conn.now c.find_version_of.new.conn c.in-Of.earlier read c.raise_earlier.new.conn c.in_ok-raise_earlier-in-Of.ensures.in_place c.in_ok-raise_earlier-in-Of.ensures.ended _ refl)

pub returns-in-Foreign : goal.returns-in-Foreign
returns-in-Foreign g c =
    let read = rw c.in-Foreign.is at c.in_ok-find_version_of.ensures in
    comes_foreign g.S.Store c.args.conn.now c.find_version_of.new.conn read c.requires
