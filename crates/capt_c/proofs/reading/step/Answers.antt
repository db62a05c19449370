use Rattle.std.proofs.Common.{◌≡◌, ◌∷◌, Some, Ok, List, drop, sym, ap, ◌∙◌}
use Rattle.cap_source.specs.Feed.{Item, packet}
use Rattle.cap_source.specs.inner.Walk.{GivesPacket, ShowsItem}
use Rattle.cap_source.specs.declared.feeds.Head.TheVariants as heads
use Rattle.capt_c.proofs.Agreeing.{agrees-known}
use Rattle.capt_c.proofs.reading.step.Goals as goal

-- the packet is the first of the items to come, and the others come after it
pub returns-in-Some-clause-answer : goal.returns-in-Some-clause-answer
returns-in-Some-clause-answer g c =
    let old = g.F.PacketFeed.feed c.args.feed.now in let mid = g.F.PacketFeed.feed c.next_packet.new.feed in
    let gives : GivesPacket old (Ok (Some c.in-Some.meta)) mid = rw c.in-Some.is at c.in_ok-meta.ensures.answer in (
      agrees-known (λ _. mid ≡ old) old.known (heads.Packet c.in-Some.meta) gives.again,
      (
        c.in-Some.meta,
        c.packet_of.ensures,
        λ told.
            let shown : ShowsItem old (Ok (Some c.in-Some.meta)) mid =
            rw c.in-Some.is at (c.in_ok-meta.ensures.items told) in
            let passed = c.pass.ensures.passes.items (c.in_ok-meta.ensures.keeps.told told) in
            let rest = sym (passed ∙ ap (λ (xs : List Item). drop 1 xs) shown.0.items) in
            (mid.frame, shown.1 ∙ ap (λ (xs : List Item). packet c.in-Some.meta mid.frame ∷ xs) rest),
      ),
      tt,
    )
