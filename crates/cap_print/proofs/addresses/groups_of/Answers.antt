use Rattle.std.proofs.Common.{rules}
use Rattle.std.specs.Net.Addr.{IsIpv6OfBits}
use Rattle.cap_print.specs.Addresses.{groups_of}
use Rattle.cap_print.proofs.addresses.groups_of.Goals as goal

pub returns-clause-value : goal.returns-clause-value
unfolding groups_of IsIpv6OfBits
returns-clause-value c = search (rules, c.from_bits.ensures, c.segments.ensures)
