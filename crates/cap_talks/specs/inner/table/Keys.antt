-- Keys that name the same conversation are one.
use Rattle.std.proofs.Common.{◌≡◌, ℕ, Bool, true, false, ◌&&◌, refl, sym, ap, true≢false, Option, Some, None}
use Rattle.std.specs.Prelude.{◌==◌, nat_eq}
use Rattle.std.specs.Option.{option_eq}
use Rattle.std.proofs.lemmas.Bool.{eqb-true}
use Rattle.cap_talks.specs.table.Conversations.{same_address, same_end, same_talk}
use Rattle.cap_talks.specs.declared.table.rows.TalkKey.{TalkKey}
use Rattle.cap_talks.specs.declared.table.units.Address.{Address}
use Rattle.cap_talks.specs.declared.table.units.Address.TheVariants.{Ipv4, Ipv6}
use Rattle.cap_talks.specs.declared.table.units.Endpoint.{Endpoint}

pub and_left : (x y : Bool) → (x && y) ≡ true → x ≡ true
and_left true y h = refl
and_left false y h = h

pub and_right : (x y : Bool) → (x && y) ≡ true → y ≡ true
and_right true y h = h
and_right false y h = absurd (true≢false (sym h))

same_port-is : (a b : Option ℕ) → option_eq nat_eq a b ≡ true → a ≡ b
same_port-is None None h = refl
same_port-is None (Some b) h = absurd (true≢false (sym h))
same_port-is (Some a) None h = absurd (true≢false (sym h))
same_port-is (Some a) (Some b) h = ap Some (eqb-true a b h)

pub same_address-is : (a b : Address) → same_address a b ≡ true → a ≡ b
same_address-is (Ipv4 a) (Ipv4 b) h = ap Ipv4 (eqb-true a b h)
same_address-is (Ipv4 a) (Ipv6 b) h = absurd (true≢false (sym h))
same_address-is (Ipv6 a) (Ipv4 b) h = absurd (true≢false (sym h))
same_address-is (Ipv6 a) (Ipv6 b) h = ap Ipv6 (eqb-true a b h)

pub same_end-is : (a b : Endpoint) → same_end a b ≡ true → a ≡ b
same_end-is a b h =
    let address = same_address-is a.address b.address
    (and_left (same_address a.address b.address) (option_eq nat_eq a.port b.port) h) in
    let port = same_port-is a.port b.port
    (and_right (same_address a.address b.address) (option_eq nat_eq a.port b.port) h) in
    λ i. record { address = address i; port = port i }

pub same_talk-is : (a b : TalkKey) → same_talk a b ≡ true → a ≡ b
same_talk-is a b h =
    let protocol = eqb-true a.protocol b.protocol (and_left (a.protocol == b.protocol)
    (same_end a.lesser b.lesser && same_end a.greater b.greater) h) in
    let ends = and_right (a.protocol == b.protocol) (same_end a.lesser b.lesser && same_end a.greater b.greater) h in
    let lesser = same_end-is a.lesser b.lesser (and_left (same_end a.lesser b.lesser)
    (same_end a.greater b.greater) ends) in
    let greater = same_end-is a.greater b.greater (and_right (same_end a.lesser b.lesser)
    (same_end a.greater b.greater) ends) in
    λ i. record { protocol = protocol i; lesser = lesser i; greater = greater i }
