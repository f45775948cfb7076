use Rattle.bike_feeds.proofs.TextLemmas.{information_parts, list_done, list_failed, head_cut, end_cut, information_ends}
use Rattle.bike_feeds.proofs.WalkLemmas.{items_asked, items_unasked}
use Rattle.bike_feeds.proofs.list.write_system_information.Goals as goal

pub returns-in_err-open_information : goal.returns-in_err-open_information
returns-in_err-open_information g c =
    head_cut g.S.Store
    (information_parts c.args.system.now c.args.moment) _ c.from_residual.ensures.1 c.requires.start c.open_information.ensures.wrote c.requires.going c.in_err-open_information.ensures.outcome

pub returns-in_err-write_languages : goal.returns-in_err-write_languages
returns-in_err-write_languages g c =
    list_failed g.S.Store (information_parts c.args.system.now c.args.moment) _ _ c.from_residual-in_err-write_languages.ensures.1
    c.requires.start c.open_information.ensures.wrote c.in_err-write_languages.ensures c.in_ok-open_information.ensures.outcome

pub returns-in_err-names : goal.returns-in_err-names
returns-in_err-names g c =
    list_failed g.S.Store (information_parts c.args.system.now c.args.moment) _ _ c.from_residual-in_err-names.ensures.1
    c.requires.start c.open_information.ensures.wrote
    (items_unasked tt c.in_ok-write_languages.ensures c.requires.going c.in_err-names.field-0.0 c.in_err-names.ensures.query c.in_err-names.ensures.takes_none)
    c.in_ok-open_information.ensures.outcome

pub returns-in_err-close_information : goal.returns-in_err-close_information
returns-in_err-close_information g c =
    end_cut g.S.Store (information_parts c.args.system.now c.args.moment) _ _ c.from_residual-in_err-close_information.ensures.1
    c.requires.start c.open_information.ensures.wrote (items_asked tt c.in_ok-write_languages.ensures c.requires.going c.in_ok-names.names c.in_ok-names.ensures.query)
    (information_ends g.S.Store c.args.system.now (λ names. names.items) c.in_ok-names.names c.in_ok-write_languages.ensures
    c.in_ok-names.ensures.query c.system_id.ensures c.as_slice.ensures.value c.close_information.ensures.wrote) c.requires.going c.in_err-close_information.ensures.outcome

pub returns : goal.returns
returns g c =
    list_done g.S.Store (information_parts c.args.system.now c.args.moment) tt _
    c.requires.start c.open_information.ensures.wrote (items_asked tt c.in_ok-write_languages.ensures c.requires.going c.in_ok-names.names c.in_ok-names.ensures.query)
    (information_ends g.S.Store c.args.system.now (λ names. names.items) c.in_ok-names.names c.in_ok-write_languages.ensures
    c.in_ok-names.ensures.query c.system_id.ensures c.as_slice.ensures.value c.close_information.ensures.wrote) c.requires.going c.in_ok-close_information.ensures.outcome
