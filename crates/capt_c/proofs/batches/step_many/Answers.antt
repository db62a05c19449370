use Rattle.std.proofs.Common.{slice_set, arith}
use Rattle.std.proofs.lemmas.List.{length-append, length-set}
use Rattle.cap_source.proofs.Onward.{Keeps-trans}
use Rattle.capt_c.proofs.Telling.{Told-first, others-behind}
use Rattle.capt_c.proofs.batches.step_many.Goals as goal

pub returns-clause-answer : goal.returns-clause-answer
returns-clause-answer g c =
    let old = g.F.PacketFeed.feed c.args.feed.now in let mid = g.F.PacketFeed.feed c.step.new.feed in
    let parts = c.split_at_mut-first in let firsts = parts.result.0.now in let others = parts.result.1.now in
    let p = c.step.new.packet in
    let stepped = rw c.if-not-branch.false at c.in_ok-step.ensures.answer in
    let sum = length-append (slice_set firsts 0 p) c.more.new.packets in
    let one = length-set firsts 0 p in (
      stepped.0,
      (
        omega arith,
        omega (arith, sum, one, parts.ensures.front_len, c.more.ensures.most),
        λ told. let first = stepped.1.2 told in
            Told-first old.items mid.items _ firsts p c.more.new.packets c.more.result
            parts.ensures.front_len stepped.1.0 stepped.1.1 first.0 first.1
            (c.more.ensures.told (c.in_ok-step.ensures.keeps.told told)),
      ),
      others-behind firsts others c.args.packets.now c.more.new.packets p c.more.result
          parts.ensures.front_len parts.ensures.value c.more.ensures.others,
    )

pub returns-clause-keeps : goal.returns-clause-keeps
returns-clause-keeps g c = Keeps-trans _ _ _ c.in_ok-step.ensures.keeps c.more.ensures.keeps
