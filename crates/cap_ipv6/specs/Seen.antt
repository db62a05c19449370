-- Answers as values of their own: the same for equal bytes, wherever they lie.
use Rattle.std.specs.Prelude.{ℕ, List}
use Rattle.cap_ipv6.specs.Chain.{Led, Place, Says}
use Rattle.cap_ipv6.specs.Read.{Reading}
use Rattle.cap_ipv6.specs.declared.headers.Led as led
use Rattle.cap_ipv6.specs.declared.headers.Led.TheVariants as led_variant
use Rattle.cap_ipv6.specs.declared.headers.Says as says
use Rattle.cap_ipv6.specs.declared.headers.Says.TheVariants as says_variant
use Rattle.cap_ipv6.specs.declared.packets.Ipv6Packet.{Ipv6Packet}
use Rattle.cap_ipv6.specs.declared.packets.Ipv6Packet.TheVariants as variant

-- a place among the headers
abbrev pub place : ℕ → ℕ → List ℕ → Place
place number left captured = record { number = number; left = left; captured = captured }

abbrev pub says_seen : says.Says → Says
says_seen says_variant.Ends = Says.ends
says_seen (says_variant.Leads size) = Says.leads size
says_seen (says_variant.Breaks f) = Says.breaks f
says_seen (says_variant.Bad why) = Says.bad why
says_seen (says_variant.Cut why) = Says.cut why

abbrev pub led_seen : led.Led → Led
led_seen (led_variant.Data protocol length captured) = Led.data_of protocol length captured.now
led_seen (led_variant.Fragment f) = Led.fragment f
led_seen (led_variant.Bad why) = Led.bad why
led_seen (led_variant.Cut why) = Led.cut why

abbrev pub packet_seen : Ipv6Packet → Reading
packet_seen (variant.Datagram header captured) = Reading.datagram header captured.now
packet_seen (variant.Fragment f) = Reading.fragment f
packet_seen (variant.Bad why) = Reading.bad why
packet_seen (variant.Cut why) = Reading.cut why
