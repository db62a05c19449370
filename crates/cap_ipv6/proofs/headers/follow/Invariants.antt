use Rattle.std.proofs.Common.{◌≡◌, ◌≤◌}
use Rattle.cap_ipv6.specs.Chain.{led}
use Rattle.cap_ipv6.specs.Seen.{place}
use Rattle.cap_ipv6.proofs.headers.follow.Given as goal

abbrev pub invariant-headers : goal.invariant-headers
invariant-headers l =
    (l.rest ≤ 65535) × (led (place l.next l.rest l.bytes) ≡ led (place l.number l.left l.captured))

abbrev pub decreases-headers : goal.decreases-headers
decreases-headers l = l.rest
