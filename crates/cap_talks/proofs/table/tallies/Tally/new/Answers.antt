use Rattle.std.proofs.Common.{[], arith, refl}
use Rattle.std.specs.Prelude.{None}
use Rattle.cap_talks.proofs.Tallying.{Stands-none}
use Rattle.cap_talks.proofs.table.tallies.Tally.new.Goals as goal

pub invariant_of-result : goal.invariant_of-result
invariant_of-result c = record {
  taken = [];
  next = None;
  stands = Stands-none c.args.reads_ipv6 _ _ c.new.ensures.stands c.new-2.ensures.stands None;
  few = omega arith;
  places = omega (arith, c.new-2.ensures.next);
  bytes = rw c.new.ensures.empty (omega arith);
  fits = tt;
}

pub returns : goal.returns
returns c = record {
  stands = λ next. Stands-none c.args.reads_ipv6 _ _ c.new.ensures.stands c.new-2.ensures.stands next;
  reads = refl;
}
