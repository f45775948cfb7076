-- A feed is read exactly from its name.
use Rattle.std.proofs.Common.{◌≡◌, ℕ, List, Some, refl, ap, ◌∙◌}
use Rattle.std.specs.Prelude.{codes}
use Rattle.std.specs.Str.{bytes_eq}
use Rattle.std.proofs.lemmas.Option.{same_Some}
use Rattle.std.proofs.lemmas.Slice.Eq.{bytes_eq-Decides}
use Rattle.bike_fields.proofs.Callers.{pick}
use Rattle.bike_feed_texts.specs.Feeds.{feed_name, feed_of}
use Rattle.bike_feed_texts.specs.declared.feed.Feed.{Feed}
use Rattle.bike_feed_texts.specs.declared.feed.Feed.TheVariants.{Gbfs, SystemInformation, VehicleTypes, StationInformation, StationStatus, SystemPricingPlans, SystemRegions}

pub feed_sound : (text : List ℕ) (f : Feed) → feed_of text ≡ Some f → text ≡ feed_name f
unfolding feed_of
feed_sound text f e =
    pick (bytes_eq text (codes "gbfs")) _ _ f _ e (λ is e. (bytes_eq-Decides text (codes "gbfs")).0 is ∙ ap feed_name (same_Some Gbfs f e)) (λ e.
    pick (bytes_eq text (codes "system_information")) _ _ f _ e (λ is e. (bytes_eq-Decides text (codes "system_information")).0 is ∙ ap feed_name (same_Some SystemInformation f e)) (λ e.
    pick (bytes_eq text (codes "vehicle_types")) _ _ f _ e (λ is e. (bytes_eq-Decides text (codes "vehicle_types")).0 is ∙ ap feed_name (same_Some VehicleTypes f e)) (λ e.
    pick (bytes_eq text (codes "station_information")) _ _ f _ e (λ is e. (bytes_eq-Decides text (codes "station_information")).0 is ∙ ap feed_name (same_Some StationInformation f e)) (λ e.
    pick (bytes_eq text (codes "station_status")) _ _ f _ e (λ is e. (bytes_eq-Decides text (codes "station_status")).0 is ∙ ap feed_name (same_Some StationStatus f e)) (λ e.
    pick (bytes_eq text (codes "system_pricing_plans")) _ _ f _ e (λ is e. (bytes_eq-Decides text (codes "system_pricing_plans")).0 is ∙ ap feed_name (same_Some SystemPricingPlans f e)) (λ e.
    pick (bytes_eq text (codes "system_regions")) _ _ f _ e (λ is e. (bytes_eq-Decides text (codes "system_regions")).0 is ∙ ap feed_name (same_Some SystemRegions f e)) (λ e. absurd cc)))))))

pub feed_full : (f : Feed) → feed_of (feed_name f) ≡ Some f
unfolding feed_of
feed_full Gbfs = refl
feed_full SystemInformation = refl
feed_full VehicleTypes = refl
feed_full StationInformation = refl
feed_full StationStatus = refl
feed_full SystemPricingPlans = refl
feed_full SystemRegions = refl
