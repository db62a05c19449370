use Rattle.std.proofs.Common.{◌∙◌}
use Rattle.cap_talks.proofs.Ipv4Units.{key-of-ends}
use Rattle.cap_talks.proofs.table.conversations.key_of.Goals as goal

pub returns-in-Some-clause-key : goal.returns-in-Some-clause-key
returns-in-Some-clause-key c =
    let of = c.of-in-Some in
    let key = key-of-ends c.args.known.now.keys c.in-Some.ends of.result of.ensures.value of.ensures.narrow
    of.ensures.forward in
    record {
      packed = key.packed;
      key = key.key ∙ c.in-Some.ensures.key;
      forward = key.forward ∙ c.in-Some.ensures.forward;
    }
