use Rattle.bike_desk.proofs.QueryLemmas.{told_now}
use Rattle.bike_desk.proofs.desk.Desk.now.Goals as goal
