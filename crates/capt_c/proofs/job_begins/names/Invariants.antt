use Rattle.std.proofs.Common.{◌≡◌}
use Rattle.capt_c.proofs.job_begins.names.Given as goal

-- there are as many names as turns
abbrev pub invariant-loop : goal.invariant-loop
invariant-loop l = l.names.len ≡ l.counter
