use Rattle.bike_feeds.proofs.TextLemmas.{list_parts, list_done, list_failed, head_cut, end_cut}
use Rattle.bike_feeds.proofs.list.write_listing.Goals as goal

pub returns-in_err-open_list : goal.returns-in_err-open_list
returns-in_err-open_list g c =
    head_cut g.S.Store (list_parts c.args.system.now c.args.moment c.args.listing)
    _ c.from_residual.ensures.1 c.requires.start (rw c.name.ensures at c.open_list.ensures.wrote) c.requires.going c.in_err-open_list.ensures.outcome

pub returns-in_err-write_elements : goal.returns-in_err-write_elements
returns-in_err-write_elements g c =
    list_failed g.S.Store (list_parts c.args.system.now c.args.moment c.args.listing)
    _ _ c.from_residual-in_err-write_elements.ensures.1 c.requires.start (rw c.name.ensures at c.open_list.ensures.wrote) c.in_err-write_elements.ensures c.in_ok-open_list.ensures.outcome

pub returns-in_err-close_list : goal.returns-in_err-close_list
returns-in_err-close_list g c =
    end_cut g.S.Store (list_parts c.args.system.now c.args.moment c.args.listing)
    _ _ c.from_residual-in_err-close_list.ensures.1 c.requires.start (rw c.name.ensures at c.open_list.ensures.wrote)
    c.in_ok-write_elements.ensures (λ clean s at. c.close_list.ensures.wrote) c.requires.going c.in_err-close_list.ensures.outcome

pub returns : goal.returns
returns g c =
    list_done g.S.Store (list_parts c.args.system.now c.args.moment c.args.listing) tt _
    c.requires.start (rw c.name.ensures at c.open_list.ensures.wrote) c.in_ok-write_elements.ensures (λ clean s at. c.close_list.ensures.wrote) c.requires.going c.in_ok-close_list.ensures.outcome
