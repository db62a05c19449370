use Rattle.cap_laws.proofs.again.RoundTrip.{round_trip-law, same_bytes-law}
use Rattle.cap_laws.proofs.again.round_trip.Goals as goal

pub returns-clause-packets : goal.returns-clause-packets
returns-clause-packets c = round_trip-law

pub returns-clause-bytes : goal.returns-clause-bytes
returns-clause-bytes c = same_bytes-law
