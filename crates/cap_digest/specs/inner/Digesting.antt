-- What a digest has taken.
use Rattle.std.specs.Prelude.{ℕ, List}
use Rattle.cap_digest.specs.declared.digests.PacketDigest.{PacketDigest}
use Rattle.sha2.specs.Hashers.{Holds256}

-- a digest holds that text: the canonical text of the packets that it has taken
abbrev pub HoldsText : PacketDigest → List ℕ → Type 0
HoldsText digest text = Holds256 digest.hasher text
