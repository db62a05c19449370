-- What the calls of `write_joined` return.
use Rattle.std.specs.Prelude.{◌≡◌, Bool, true, false, List, ℕ, Option, Some, None}
use Rattle.cap_join.specs.History.{Event}
use Rattle.cap_join.specs.Joiners.{JoinerState, JoinerStandsFor}
use Rattle.cap_write.specs.Joined.{Complete, datagram_bytes}

-- A buffer has the bytes of the datagram, if there is one.
abbrev pub IsFilled : Option Complete → Bool → List ℕ → Type 0
IsFilled None some bytes = some ≡ false
IsFilled (Some d) some bytes = (some ≡ true) × (bytes ≡ datagram_bytes d)

-- A joiner stands for some events.
abbrev pub JoinerStands : JoinerState → Type 0
JoinerStands joiner = (events : List Event) × JoinerStandsFor joiner events
