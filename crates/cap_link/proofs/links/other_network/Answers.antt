use Rattle.std.proofs.Common.{arith}
use Rattle.cap_link.proofs.OtherNetworks.{other-some}
use Rattle.cap_link.specs.Links.{other_network_of}
use Rattle.cap_link.proofs.links.other_network.Goals as goal

pub returns-in-1-clause-some : goal.returns-in-1-clause-some
unfolding other_network_of
returns-in-1-clause-some c = λ original. rw (c.other_typed.ensures, c.in-1.is) (other-some 1 c.args.frame.now original)

pub returns-in-101-clause-some : goal.returns-in-101-clause-some
unfolding other_network_of
returns-in-101-clause-some c =
    λ original. rw (c.other_raw.ensures, c.in-101.is) (other-some 101 c.args.frame.now original)

pub returns-in-113-clause-some : goal.returns-in-113-clause-some
unfolding other_network_of
returns-in-113-clause-some c =
    λ original. rw (c.other_typed-in-113.ensures, c.in-113.is) (other-some 113 c.args.frame.now original)

pub returns-in-276-clause-some : goal.returns-in-276-clause-some
unfolding other_network_of
returns-in-276-clause-some c =
    λ original. rw (c.other_typed-in-276.ensures, c.in-276.is) (other-some 276 c.args.frame.now original)

pub returns-in_default-clause-some : goal.returns-in_default-clause-some
unfolding other_network_of
returns-in_default-clause-some c = λ original. grind (arith, other-some)
