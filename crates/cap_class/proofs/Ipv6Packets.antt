-- A packet of IPv6 is neither a datagram nor a fragment of IPv4.
use Rattle.std.proofs.Common.{◌≡◌, ℕ, Bool, List, Option, arith}
use Rattle.std.specs.Bool.{OnTrue}
use Rattle.std.specs.Prelude.{is_some, option_map}
use Rattle.cap_class.specs.Ipv6.{IsPlain, ipv6_read}
use Rattle.cap_class.specs.Taken.{classify, classify_at, taken}
use Rattle.cap_join.specs.declared.datagrams.Stamped.{Stamped}
use Rattle.cap_link.proofs.Ipv6Frames.{ipv6-unread}
use Rattle.cap_link.specs.Ipv6.{IsUnread}
use Rattle.cap_link.specs.Seen.{Carried}
use Rattle.cap_source.specs.declared.packets.Meta.{Meta}
use Rattle.cap_time.specs.declared.stamps.Stamp.{Stamp}

unread-plain : (it : Carried) (whole : Bool) (stamped : Stamped) → IsUnread it → IsPlain (classify_at it whole stamped)
unread-plain (Carried.ipv4 bytes) whole stamped un = absurd un
unread-plain Carried.other_link whole stamped un = tt
unread-plain Carried.not_ipv4 whole stamped un = tt
unread-plain Carried.short whole stamped un = absurd un
unread-plain Carried.cut whole stamped un = absurd un

some-of : {A B : Type 0} (f : A → B) (it : Option A) → is_some (option_map f it) ≡ is_some it
some-of f it = grind arith

pub ipv6-plain : (clock : Option Stamp) (place : ℕ) (meta : Meta) (frame : List ℕ)
    → OnTrue (is_some (ipv6_read meta frame)) (IsPlain (classify place (taken clock meta frame)))
unfolding ipv6_read classify
ipv6-plain clock place meta frame = grind (arith, some-of, unread-plain, ipv6-unread)
