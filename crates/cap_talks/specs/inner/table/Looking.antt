-- What a packet is by itself, as it is looked at.
use Rattle.std.specs.Prelude.{ℕ, Bool, true, false, Option, Some, None}
use Rattle.cap_class.specs.Ipv6.{read_in}
use Rattle.cap_class.specs.Taken.{Classification, Taken, plain, datagram, fragment, classify}
use Rattle.cap_ipv6.specs.Read.{Reading}

-- a packet of one class, of which nothing is kept
abbrev pub is_plain : Classification → Bool
is_plain (plain c) = true
is_plain (datagram header captured) = false
is_plain (fragment p) = false

-- and one of which nothing is kept by its IPv6 packet either, if one is read
abbrev pub is_plain_by : Option Reading → Classification → Bool
is_plain_by None l = is_plain l
is_plain_by (Some r) l = false

abbrev pub is_plain_for : Bool → ℕ → Taken → Bool
is_plain_for reads place x = is_plain_by (read_in reads x) (classify place x)
