use Rattle.std.proofs.Common.{arith}
use Rattle.cap_ipv6.proofs.ChainSteps.{fits, led-bad, led-behind, led-breaks, led-cut, led-ends}
use Rattle.cap_ipv6.proofs.headers.follow.Goals as goal

pub bounds-bytes-0 : goal.bounds-bytes-0
bounds-bytes-0 c = grind (arith, fits)

pub overflow_sub-rest : goal.overflow_sub-rest
overflow_sub-rest c = grind (arith, fits)

pub split_at-requires : goal.split_at-requires
split_at-requires c = grind (arith, fits)

pub headers-smaller : goal.headers-smaller
headers-smaller c = grind (arith, fits)

pub headers-preserved : goal.headers-preserved
headers-preserved c = grind (arith, fits, led-behind)

pub returns-in-Ends-clause-value : goal.returns-in-Ends-clause-value
returns-in-Ends-clause-value c = grind (arith, led-ends)

pub returns-in-Breaks-clause-value : goal.returns-in-Breaks-clause-value
returns-in-Breaks-clause-value c = grind (arith, led-breaks)

pub returns-in-Bad-clause-value : goal.returns-in-Bad-clause-value
returns-in-Bad-clause-value c = grind (arith, led-bad)

pub returns-in-Cut-clause-value : goal.returns-in-Cut-clause-value
returns-in-Cut-clause-value c = grind (arith, led-cut)
