use Rattle.std.proofs.Common.{◌≡◌, ◌+◌, ◌*◌, ◌≤◌, drop}
use Rattle.cap_ip.specs.Checksum.{words}
use Rattle.cap_ip.proofs.OnesSum.{total}
use Rattle.cap_ip.proofs.checksums.header_checksum.Given as goal

abbrev pub invariant-words : goal.invariant-words
invariant-words l =
    (l.sum + total (words (drop (2 * l.i) l.header)) ≡ total (words l.header)) × (l.sum ≤ 65535 * l.i)
