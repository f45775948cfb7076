use Rattle.std.proofs.Common.{refl}
use Rattle.std.proofs.KnownBytes.{Keeps-refl}
use Rattle.bike_feeds.specs.declared.fault.FeedFault.TheVariants.{SystemMissing}
use Rattle.bike_app.proofs.feed.publish_nobodys.Goals as goal

pub returns-in-Some : goal.returns-in-Some
returns-in-Some c feed written = rw c.in-Some.is (record { fault = SystemMissing; is = refl; missing = λ told. refl; begun = Keeps-refl written })

pub returns-in-None : goal.returns-in-None
returns-in-None c feed written = rw c.in-None.is (refl, Keeps-refl written)
