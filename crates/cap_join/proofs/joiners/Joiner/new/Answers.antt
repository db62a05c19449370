use Rattle.std.proofs.Common.{refl, arith}
use Rattle.std.specs.List.{IsDistinct}
use Rattle.cap_join.specs.History.{open_groups_after}
use Rattle.cap_join.proofs.joiners.Joiner.new.Goals as goal

pub invariant_of-result : goal.invariant_of-result
unfolding IsDistinct
invariant_of-result c = record {
  table = record { unique = tt; few = omega arith; rises = tt };
  given_up =
      omega arith;
  next = omega arith;
}

pub returns-clause-stands : goal.returns-clause-stands
unfolding open_groups_after
returns-clause-stands c = record { groups = tt; given_up = refl }
