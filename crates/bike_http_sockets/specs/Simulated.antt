-- Clients of a network in memory, as all that is known of them.
use Rattle.bike_http_sockets.specs.declared.simulated.Client.{Client}
use Rattle.bike_http_connection.specs.Asking.{Coming}

abbrev pub coming_of : Client → Coming
coming_of client = record { moment = client.moment; input = client.input.now }
