-- A packet of a list is passed.
use Rattle.std.proofs.Common.{◌≡◌, ◌≤◌, ◌+◌, ◌^◌, ℕ, List, length, drop, Option, None, arith}
use Rattle.std.specs.Option.{ForSome}
use Rattle.cap_bytes.specs.declared.faults.Rule.{Rule}
use Rattle.cap_source.specs.Feed.{IsPacket, FeedPasses}
use Rattle.cap_source.specs.inner.Listed.{head_at, list_feed}
use Rattle.cap_source.specs.declared.feeds.Head.{Head}
use Rattle.cap_time.specs.declared.resolutions.Interface.{Interface}

pub list_passes : (file : ℕ) (interface : Interface) (end : Option Rule) (place : ℕ) (times : List ℕ)
    (known : Option Head) → place + length times ≤ 2 ^ 40
    → ForSome known (λ head. head ≡ head_at file interface end place times) → IsPacket known
    → FeedPasses (list_feed file interface end place times known)
    (list_feed file interface end (place + 1) (drop 1 times) None)
list_passes file interface end place times known most same is = grind arith
