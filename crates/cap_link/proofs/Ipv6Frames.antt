-- A frame that carries an IPv6 packet carries no IPv4 packet, and is whole up to it.
use Rattle.std.proofs.Common.{ℕ, Bool, List, Option, Some, None, arith}
use Rattle.std.specs.Bool.{OnTrue}
use Rattle.std.specs.Prelude.{is_some, option_and_then}
use Rattle.cap_link.specs.Ipv6.{IsUnread, ipv6_behind, ipv6_of, ipv6_raw, ipv6_typed}
use Rattle.cap_link.specs.Links.{network_of, raw, typed}
use Rattle.cap_link.specs.Seen.{Announced}
use Rattle.cap_link.specs.Tags.{carried, payload}
use Rattle.cap_link.specs.declared.links.LinkHeader.{LinkHeader}

kind-unread : (whole : Bool) (it : Option Announced)
    → OnTrue (is_some (option_and_then ipv6_behind it)) (IsUnread (carried whole it))
unfolding carried payload ipv6_behind
kind-unread whole None = grind arith
kind-unread whole (Some it) = grind arith

typed-unread : (whole : Bool) (header : LinkHeader) (frame : List ℕ)
    → OnTrue (is_some (ipv6_typed header frame)) (IsUnread (typed whole header frame))
unfolding ipv6_typed typed
typed-unread whole header frame = kind-unread whole _

raw-unread : (whole : Bool) (frame : List ℕ) → OnTrue (is_some (ipv6_raw frame)) (IsUnread (raw whole frame))
unfolding ipv6_raw raw
raw-unread whole frame = grind arith

pub ipv6-unread : (link : ℕ) (frame : List ℕ) (original : ℕ)
    → OnTrue (is_some (ipv6_of link frame)) (IsUnread (network_of link frame original))
unfolding ipv6_of network_of
ipv6-unread link frame original = grind (arith, typed-unread, raw-unread)
