use Rattle.std.proofs.Common.{drop}
use Rattle.cap_join.proofs.Queueing.{first_entry}
use Rattle.cap_join.proofs.queues.first_timeless.Goals as goal

pub returns-else-has_clock : goal.returns-else-has_clock
returns-else-has_clock c = record {
  group = c.in-Some.group.now;
  others = drop 1 c.args.groups.now.entries;
  first = first_entry c.args.groups.now.entries (c.in-Some.key.now, c.in-Some.group.now) c.in-Some.ensures;
  timeless = c.has_clock.ensures.none c.if-has_clock.false;
}
