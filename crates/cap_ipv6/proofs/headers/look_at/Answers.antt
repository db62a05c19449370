use Rattle.std.proofs.Common.{arith}
use Rattle.cap_ipv6.specs.Chain.{says, size_at}
use Rattle.cap_ipv6.proofs.headers.look_at.Goals as goal

pub returns-then-left-size : goal.returns-then-left-size
unfolding says size_at
returns-then-left-size c = grind arith

pub returns-then-captured-size : goal.returns-then-captured-size
unfolding says size_at
returns-then-captured-size c = grind arith

pub returns-then-number-eq-FRAGMENT : goal.returns-then-number-eq-FRAGMENT
unfolding says size_at
returns-then-number-eq-FRAGMENT c = grind arith

pub returns : goal.returns
unfolding says size_at
returns c = grind arith
