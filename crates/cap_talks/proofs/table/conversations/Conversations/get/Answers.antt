use Rattle.std.proofs.Common.{rules, arith}
use Rattle.cap_talks.proofs.Packing.{get-packed, key-packed}
use Rattle.cap_talks.proofs.table.conversations.Conversations.get.Goals as goal

pub unpacked-requires : goal.unpacked-requires
unpacked-requires c = record {
  key = key-packed c.self.inside.known.keys c.self.inside.rows.entries c.args.place c.in-Some.key.now
      c.in-Some.row.now c.self.invariant.keys (search rules);
  known = c.self.invariant.known;
}

pub returns-in-None : goal.returns-in-None
returns-in-None c = grind (arith, get-packed)

pub returns-in-Some : goal.returns-in-Some
returns-in-Some c = grind (arith, get-packed)
