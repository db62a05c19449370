use Rattle.std.proofs.Common.{arith}
use Rattle.cap_join.specs.inner.Incoming.{piece_in}
use Rattle.cap_join.proofs.Aging.{IsDeadline-set_value, AreInTurn-set_value, AreUpTo-set_value}
use Rattle.cap_join.proofs.Tabling.{keys_of-set_value, put_cases}
use Rattle.cap_join.proofs.tables.GroupTable.put_at.Goals as goal

pub invariant_of-self : goal.invariant_of-self
invariant_of-self c =
    let t = c.self.inside in
    let key = c.args.key.now in
    let es = t.groups in
    let new = c.put_at.new.self in
    let p = piece_in c.args.incoming.now in
    let ok = c.put_at.ensures.ok in
    let err = c.put_at.ensures.err in
    record {
      unique = grind (arith, put_cases, keys_of-set_value);
      deadline = grind (arith, put_cases, IsDeadline-set_value);
      in_turn = λ o. grind (arith, put_cases, AreInTurn-set_value);
      latest = λ o. grind (arith, put_cases, AreUpTo-set_value);
    }
