use Rattle.bike_feed_texts.specs.declared.feed.Feed.TheVariants.{Gbfs, SystemInformation, VehicleTypes, StationInformation, StationStatus, SystemPricingPlans, SystemRegions}
use Rattle.bike_feeds.specs.declared.listing.Listing.TheVariants.{Types, Stations, Statuses, Plans, Regions}
use Rattle.bike_feeds.proofs.FeedLemmas.{feed_as, listed, value_done, value_cut}
use Rattle.bike_feeds.proofs.feed.write_of_system.Goals.{in-VehicleTypes, in-StationInformation, in-StationStatus, in-SystemPricingPlans, in-SystemRegions}
use Rattle.bike_feeds.proofs.feed.write_of_system.Goals as goal

pub returns-in_err-write_gbfs-in-Gbfs : goal.returns-in_err-write_gbfs-in-Gbfs
returns-in_err-write_gbfs-in-Gbfs g c =
    value_cut g.S.Store c.args.system.now c.args.moment Gbfs c.in-Gbfs.is c.requires.start c.requires.going c.write_gbfs.ensures.wrote tt _ c.from_residual.ensures.1
    c.in_err-write_gbfs-in-Gbfs.ensures.outcome

pub returns-in-Gbfs : goal.returns-in-Gbfs
returns-in-Gbfs g c =
    value_done g.S.Store c.args.system.now c.args.moment Gbfs c.in-Gbfs.is c.requires.start
    c.requires.going c.write_gbfs.ensures.wrote tt c.in_ok-write_gbfs-in-Gbfs.ensures.outcome

pub returns-in-SystemInformation : goal.returns-in-SystemInformation
returns-in-SystemInformation g c = feed_as g.S.Store c.args.system.now c.args.moment SystemInformation c.in-SystemInformation.is c.write_system_information.ensures

pub returns : goal.returns
returns g c = elim c.match-feed.branch [
  | in-VehicleTypes w ↦ feed_as g.S.Store c.args.system.now c.args.moment VehicleTypes w.in-VehicleTypes.is
      (listed g.S.Store c.args.system.now c.args.moment Types w.listing-is c.write_listing.ensures)
  | in-StationInformation w ↦ feed_as g.S.Store c.args.system.now c.args.moment StationInformation w.in-StationInformation.is
      (listed g.S.Store c.args.system.now c.args.moment Stations w.listing-is c.write_listing.ensures)
  | in-StationStatus w ↦ feed_as g.S.Store c.args.system.now c.args.moment StationStatus w.in-StationStatus.is
      (listed g.S.Store c.args.system.now c.args.moment Statuses w.listing-is c.write_listing.ensures)
  | in-SystemPricingPlans w ↦ feed_as g.S.Store c.args.system.now c.args.moment SystemPricingPlans w.in-SystemPricingPlans.is
      (listed g.S.Store c.args.system.now c.args.moment Plans w.listing-is c.write_listing.ensures)
  | in-SystemRegions w ↦ feed_as g.S.Store c.args.system.now c.args.moment SystemRegions w.in-SystemRegions.is
      (listed g.S.Store c.args.system.now c.args.moment Regions w.listing-is c.write_listing.ensures)
]
