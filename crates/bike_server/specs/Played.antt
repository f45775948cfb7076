-- Connections that are played, as all that is known of them.
use Rattle.std.specs.Prelude.{[]}
use Rattle.bike_http_connection.specs.Asking.{Coming}
use Rattle.bike_http_connection.specs.Connected.{Connected, answered}
use Rattle.bike_server.specs.declared.memory.PlayedRequest.{PlayedRequest}
use Rattle.bike_server.specs.declared.memory.PlayedResponse.{PlayedResponse}
use Rattle.bike_server.specs.Visits.{Leaving}

abbrev pub coming_of : PlayedRequest → Coming
coming_of visit = record { moment = visit.moment; input = visit.input.now }

-- a client without its request, who took nothing
abbrev pub client_of : PlayedRequest → Connected
client_of visit = record { client = coming_of visit; ahead = []; response = [] }

abbrev pub leaving_of : PlayedResponse → Leaving
leaving_of parting = record { served = parting.served; sent = parting.sent.items }

-- a client who was let go
abbrev pub parted : PlayedResponse → Connected
parted parting = answered (client_of parting.visit) parting.sent.items
