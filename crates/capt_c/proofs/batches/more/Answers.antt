use Rattle.std.proofs.Common.{◌≡◌, ◌∷◌, List, drop, sym, ap, ◌∙◌, arith}
use Rattle.std.proofs.lemmas.List.{take_more_set, length-set}
use Rattle.cap_source.specs.Feed.{Item, packet}
use Rattle.cap_source.proofs.Onward.{Keeps-trans}
use Rattle.capt_c.proofs.Telling.{Told-more, others-kept}
use Rattle.capt_c.proofs.batches.more.Goals as goal

-- the next packet is told, and the others come after it
pub loop-count-preserved : goal.loop-count-preserved
loop-count-preserved g c =
    let i = c.loop-count.invariant in let mid = g.F.PacketFeed.feed c.try_peek_buffered.new.self in let meta =
    c.packet.result.now in
    let set_length = length-set c.loop-count.packets c.loop-count.count c.packet_of.result in (
      omega (arith, set_length),
      set_length ∙ i.1,
      Keeps-trans _ _ _ (Keeps-trans _ _ _ i.2 c.if-try_peek_buffered.ensures.keeps) c.pass.ensures.keeps,
      λ told.
          let told_mid = c.if-try_peek_buffered.ensures.keeps.told (i.2.told told) in
          let leads : mid.items ≡ packet meta mid.frame ∷ drop 1 mid.items =
          rw c.packet.ensures.packet at ((g.met.F.PacketFeed.lawful c.try_peek_buffered.new.self).leads told_mid) in
          let next = sym (c.if-try_peek_buffered.ensures.items (i.2.told told)).items ∙ leads
          ∙ ap (λ (xs : List Item). packet meta mid.frame ∷ xs) (sym (c.pass.ensures.passes.items told_mid)) in
          rw (take_more_set c.loop-count.packets c.loop-count.count c.packet_of.result c.loop-count-test.true)
          (Told-more _ _ _ (i.3 told) meta mid.frame _ c.packet_of.result next c.packet_of.ensures),
      others-kept c.loop-count.packets c.args.packets.now c.loop-count.count c.packet_of.result i.4,
    )

pub returns-else-try_peek_buffered-clause-keeps : goal.returns-else-try_peek_buffered-clause-keeps
returns-else-try_peek_buffered-clause-keeps g c = Keeps-trans _ _ _ c.loop-count.invariant.2
    c.if-try_peek_buffered.ensures.keeps

pub returns-after-loop-count-clause-keeps : goal.returns-after-loop-count-clause-keeps
returns-after-loop-count-clause-keeps g c = c.loop-count.invariant.2
