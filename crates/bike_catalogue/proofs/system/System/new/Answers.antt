use Rattle.std.proofs.Common.{◌∙◌}
use Rattle.bike_catalogue.specs.RowFaults.{system_fault}
use Rattle.bike_catalogue.proofs.Checks.{checked_ok, nine_clear, same_system}
use Rattle.bike_catalogue.proofs.system.System.new.Goals as goal

pub returns : goal.returns
unfolding system_fault
returns c =
    let id = c.in_ok-system_id.ensures.value in
    let language = c.in_ok-language.ensures.value in
    let name = c.in_ok-name.ensures.value in
    let hours = c.in_ok-opening_hours.ensures.value in
    let contact = c.in_ok-feed_contact_email.ensures.value in
    let zone = c.in_ok-timezone.ensures.value in
    let currency = c.in_ok-currency.ensures.value in
    let url = c.in_ok-base_url.ensures.value in
    let ttl = checked_ok _ _ _ c.in_ok-ttl.ensures in (
      c.in_ok-keep.ensures ∙ same_system _ _ _ _ _ _ _ _ _ _ id.0 language.0 name.0 hours.0 contact.0 zone.0 currency.0 url.0 ttl.0,
      nine_clear _ _ _ _ _ _ _ _ _ id.1 language.1 name.1 hours.1 contact.1 zone.1 currency.1 url.1 ttl.1,
    )
