use Rattle.bike_feeds.specs.declared.listing.Listing.TheVariants.{Types, Stations, Statuses, Plans, Regions}
use Rattle.bike_feeds.proofs.FeedLemmas.{elements_as}
use Rattle.bike_feeds.proofs.items.write_elements.Goals as goal

pub returns-in-Types : goal.returns-in-Types
returns-in-Types g c = elements_as g.S.Store c.args.system.now Types c.in-Types.is c.write_listed.ensures

pub returns-in-Stations : goal.returns-in-Stations
returns-in-Stations g c = elements_as g.S.Store c.args.system.now Stations c.in-Stations.is c.write_stations.ensures

pub returns-in-Statuses : goal.returns-in-Statuses
returns-in-Statuses g c = elements_as g.S.Store c.args.system.now Statuses c.in-Statuses.is c.write_statuses.ensures

pub returns-in-Plans : goal.returns-in-Plans
returns-in-Plans g c = elements_as g.S.Store c.args.system.now Plans c.in-Plans.is c.write_listed-in-Plans.ensures

pub returns-in-Regions : goal.returns-in-Regions
returns-in-Regions g c = elements_as g.S.Store c.args.system.now Regions c.in-Regions.is c.write_listed-in-Regions.ensures
