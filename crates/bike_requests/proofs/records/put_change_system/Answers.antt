use Rattle.bike_requests.proofs.records.put_change_system.Goals as goal

pub returns : goal.returns
returns c = rw (c.name.ensures, c.opening_hours.ensures, c.feed_contact_email.ensures, c.timezone.ensures, c.base_url.ensures, c.ttl.ensures) at c.put.ensures
