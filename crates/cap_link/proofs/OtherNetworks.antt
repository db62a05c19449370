-- A frame is of a network other than IPv4 exactly if it carries no IPv4 packet, and is whole.
use Rattle.std.proofs.Common.{◌≡◌, ℕ, Bool, true, false, List, Option, Some, None, refl, arith}
use Rattle.std.specs.Prelude.{is_some, option_and_then}
use Rattle.cap_link.specs.Links.{is_not_ipv4, network_of, other_network_of, other_raw, other_typed}
use Rattle.cap_link.specs.Links.{raw, typed}
use Rattle.cap_link.specs.Seen.{Announced}
use Rattle.cap_link.specs.Tags.{carried, ended_in_link, other_of_kind, payload}
use Rattle.cap_link.specs.declared.links.LinkHeader.{LinkHeader}

ended-not : (whole : Bool) → is_not_ipv4 (ended_in_link whole) ≡ false
unfolding ended_in_link
ended-not true = refl
ended-not false = refl

kind-not : (kind : ℕ) (bytes : List ℕ) → is_some (other_of_kind kind) ≡ is_not_ipv4 (payload kind bytes)
unfolding other_of_kind payload
kind-not kind bytes = grind arith

announced-not : (whole : Bool) (it : Option Announced)
    → is_some (option_and_then (λ a. other_of_kind a.kind) it) ≡ is_not_ipv4 (carried whole it)
unfolding carried
announced-not whole None = grind (arith, ended-not)
announced-not whole (Some it) = kind-not it.kind it.bytes

typed-not : (whole : Bool) (header : LinkHeader) (frame : List ℕ)
    → is_some (other_typed header frame) ≡ is_not_ipv4 (typed whole header frame)
unfolding other_typed typed
typed-not whole header frame = announced-not whole _

raw-not : (whole : Bool) (frame : List ℕ) → is_some (other_raw frame) ≡ is_not_ipv4 (raw whole frame)
unfolding other_raw raw
raw-not whole frame = grind (arith, ended-not)

pub other-some : (link : ℕ) (frame : List ℕ) (original : ℕ)
    → is_some (other_network_of link frame) ≡ is_not_ipv4 (network_of link frame original)
unfolding other_network_of network_of
other-some link frame original = grind (arith, typed-not, raw-not)
