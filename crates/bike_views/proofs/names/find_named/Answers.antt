use Rattle.std.proofs.Common.{rules, length, nat_le, Bool, ◌||◌, ap, ◌∙◌}
use Rattle.std.specs.Prelude.{is_some}
use Rattle.bike_sql.proofs.ChainLaws.{reads_as, reads_both, reads_failed}
use Rattle.bike_operator.specs.declared.limits.TheConstants.{MOST_FURTHER_NAMES}
use Rattle.bike_operator.specs.Names.{is_own_language}
use Rattle.bike_views.specs.Parts.{is_among}
use Rattle.bike_views.proofs.OpenLaws.{open_both}
use Rattle.bike_views.proofs.NameLemmas.{is_set, language_among}
use Rattle.bike_views.proofs.names.find_named.Goals as goal

pub returns-in_err-has_named : goal.returns-in_err-has_named
returns-in_err-has_named g c = reads_failed (open_both c.in_ok-system.ensures c.in_err-has_named.ensures) (search rules)

pub returns-in_err-names : goal.returns-in_err-names
returns-in_err-names g c = reads_failed (reads_both (open_both c.in_ok-system.ensures c.in_ok-has_named.ensures) c.in_err-names.ensures) (search rules)

pub returns : goal.returns
returns g c = reads_as (reads_both (open_both c.in_ok-system.ensures c.in_ok-has_named.ensures) c.in_ok-names.ensures) (λ db it s h.
    let system = it.0.0 s h in
    let names = it.1 s h in
    let set = c.is_some.ensures ∙ ap is_some system ∙ is_set s.system in
    let there = it.0.1 s h system in
    let among = ap (is_among c.args.language.now) (c.as_slice.ensures.value ∙ names) ∙ language_among c.args.kind c.args.id.now c.args.language.now s h.sound.names in
    let has = c.has_language.ensures s.system system ∙ ap (λ (b : Bool). is_own_language s.system c.args.language.now || b) among in
    let own = c.is_own_language.ensures s.system system in
    let full = ap (nat_le MOST_FURTHER_NAMES) (c.len.ensures ∙ c.in_ok-names.names.ok.0 ∙ ap length names) in
    λ i. record (c.empty_view.ensures i) { has_system = set i; has_named = there i; has_language = has i; is_own_language = own i; is_full = full i })
