-- What a frame carries, as a value of its own: the same for equal bytes, wherever they lie.
use Rattle.std.specs.Prelude.{ℕ, List, Option}
use Rattle.std.specs.Option.{option_map}
use Rattle.cap_link.specs.declared.networks.Network.{Network}
use Rattle.cap_link.specs.declared.networks.Network.TheVariants as variant
use Rattle.cap_link.specs.declared.tags.AnnouncedBytes.{AnnouncedBytes}

-- what a frame carries: the bytes of an IPv4 packet, or why there are none
pub data Carried : Type 0 where
  ipv4 : List ℕ → Carried
  other_link : Carried
  not_ipv4 : Carried
  short : Carried
  cut : Carried

-- the value of an answer
abbrev pub carried_seen : Network → Carried
carried_seen (variant.Ipv4 bytes) = Carried.ipv4 bytes.now
carried_seen variant.OtherLink = Carried.other_link
carried_seen variant.NotIpv4 = Carried.not_ipv4
carried_seen variant.Short = Carried.short
carried_seen variant.Cut = Carried.cut

-- what a link header and the tags behind it announce: a type that is no tag's, and the bytes behind it
pub record Announced : Type 0 where
  pub kind : ℕ
  pub bytes : List ℕ

-- its value
abbrev pub announced_of : AnnouncedBytes → Announced
announced_of a = record { kind = a.kind; bytes = a.bytes.now }

-- its value, if anything is announced
abbrev pub announced_seen : Option AnnouncedBytes → Option Announced
announced_seen it = option_map announced_of it
