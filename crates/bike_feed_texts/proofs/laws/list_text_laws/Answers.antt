use Rattle.std.specs.Prelude.{codes}
use Rattle.std.specs.FinMap.{values}
use Rattle.bike_json.specs.Rows.{items}
use Rattle.bike_feed_texts.specs.Elements.{status_tree}
use Rattle.bike_feed_texts.specs.Trees.{report_of, counts_of, type_element, station_element, plan_element, region_element}
use Rattle.bike_feed_texts.proofs.Frames.{list_text, information_text}
use Rattle.bike_feed_texts.proofs.laws.list_text_laws.Goals as goal

pub returns : goal.returns
returns c = record {
  system_information = λ s x seconds. information_text s x seconds;
  vehicle_types = λ s x seconds. list_text x seconds (codes "vehicle_types") (items (type_element s x) (values s.types));
  station_information = λ s x seconds. list_text x seconds (codes "stations") (items (station_element s x) (values s.stations));
  station_status = λ s x seconds.
      list_text x seconds (codes "stations") (items (λ station. status_tree (report_of station) (counts_of s station)) (values s.stations));
  system_pricing_plans = λ s x seconds. list_text x seconds (codes "plans") (items (plan_element s x) (values s.plans));
  system_regions = λ s x seconds. list_text x seconds (codes "regions") (items (region_element s x) (values s.regions));
}
