use Rattle.std.proofs.Common.{IsTrue, arith, Some, Ok, drop, rules, refl}
use Rattle.std.proofs.lemmas.Result.{err_from_is_err_and}
use Rattle.cap_source.proofs.Growing.{memory-found, memory-more}
use Rattle.cap_source.proofs.Onward.{Went-more, Went-none, Ends-none, Ends-more, Ends-end, Walks-end, Walks-fault}
use Rattle.cap_source.proofs.Walking.{Walking-more, Prints-fault, Prints-end}
use Rattle.cap_source.specs.inner.Walk.{GivesPacket, ShowsItem}
use Rattle.cap_write.proofs.Peeking.{found-packet, found-item, found-end, found-fault, found-no-packet}
use Rattle.cap_write.proofs.Records.{plan_of, plan_of-is, plan_of-next, plan_of-refused}
use Rattle.cap_write.proofs.Written.{Prints-one}
use Rattle.cap_write.specs.Pcap.{written_record_fault, packet_record}
use Rattle.cap_write.specs.Texts.{text_or}
use Rattle.cap_write.proofs.Starting.{Walking-none, Walking-writer, unwritten, captured-few}
use Rattle.cap_write.proofs.Writing.{WriterKeeps-behind}
use Rattle.cap_write.proofs.pcap.put_records.Goals as goal

pub returns-in_err-peek-clause-text : goal.returns-in_err-peek-clause-text
returns-in_err-peek-clause-text g c = λ t w.
    let p = err_from_is_err_and c.from_residual.result c.from_residual.ensures.1 in
    let i = c.loop-feed.invariant.walk in
    let first = c.args.first.now in
    let mid = g.F.PacketFeed.feed c.loop-feed.feed in
    let shown = g.F.PacketFeed.feed c.peek.new.self in
    let e = c.in_err-peek.ensures in
    rw (p.1, p.2) (Prints-fault (plan_of c.args.order first) c.in_err-peek.field-0.0 _ _ _ _ mid shown
    (plan_of-is c.args.order first) (i.text t) w (i.refusal_same t)
    (found-fault c.in_err-peek.field-0.0 mid shown (g.met.F.PacketFeed.lawful c.peek.new.self)
    (e.keeps.told (i.told t)) (e.items (i.told t)) e.answer))

pub returns-in_err-put_after_header-clause-text : goal.returns-in_err-put_after_header-clause-text
returns-in_err-put_after_header-clause-text g c = λ t w.
    let p = err_from_is_err_and c.from_residual-in_err-put_after_header.result
    c.from_residual-in_err-put_after_header.ensures.1 in
    let i = c.loop-feed.invariant.walk in
    let mid = g.F.PacketFeed.feed c.loop-feed.feed in
    let shown = g.F.PacketFeed.feed c.peek.new.self in
    let meta = c.packet-meta.result.now in
    let first = c.args.first.now in
    let e = c.in_ok-peek.ensures in
    let shows : ShowsItem mid (Ok (Some meta)) shown =
    found-item mid shown meta (g.met.F.PacketFeed.lawful c.peek.new.self) (e.keeps.told (i.told t))
    (e.items (i.told t)) c.packet-meta.ensures.packet in
    rw (p.1, p.2)
    (Prints-one (plan_of c.args.order first) (plan_of c.args.order first) c.in_err-put_after_header.field-0.0 _ _ _ _ _
    meta shown.frame c.frame.result.now (packet_record c.args.order first meta) (written_record_fault first meta)
    mid.items
    (drop 1 mid.items)
    (plan_of-refused c.args.order first meta shown.frame)
    (plan_of-next c.args.order first meta shown.frame) shows.1 c.frame.ensures.frame
    (i.text t) w (i.refusal_same t) (c.in_err-put_after_header.ensures.text (i.writer_told w)))

pub loop-feed-preserved : goal.loop-feed-preserved
loop-feed-preserved g c =
    let j = c.loop-feed.invariant in
    let mid = g.F.PacketFeed.feed c.loop-feed.feed in
    let shown = g.F.PacketFeed.feed c.peek.new.self in
    let new = g.F.PacketFeed.feed c.pass.new.self in
    let first = c.args.first.now in
    let meta = c.packet-meta.result.now in
    let f = c.in_ok-peek.ensures in
    let e = c.in_ok-put_after_header.ensures in
    let line = text_or (written_record_fault first meta) (packet_record c.args.order first meta shown.frame) in
    let gives : GivesPacket mid (Ok (Some meta)) shown =
    found-packet mid shown meta (rw c.if-branch.true at f.answer) c.packet-meta.ensures.packet in
    let shows : (IsTrue mid.told → ShowsItem mid (Ok (Some meta)) shown) = λ t.
    found-item mid shown meta (g.met.F.PacketFeed.lawful c.peek.new.self) (f.keeps.told t) (f.items t)
    c.packet-meta.ensures.packet in
    record {
      went = Went-more (g.F.PacketFeed.feed c.args.feed.now) mid shown new meta j.went gives f.keeps
          c.pass.ensures.passes c.pass.ensures.keeps;
      ends = Ends-more (g.F.PacketFeed.feed c.args.feed.now) mid shown new meta j.ends j.went.keeps f.keeps shows
          c.pass.ensures.passes;
      walk =
          Walking-more _ _ _ _ mid shown new _ _ _ _ _ _ meta line
          j.walk f.keeps shows
          c.pass.ensures.keeps c.pass.ensures.passes.items (plan_of-next c.args.order first meta shown.frame e.whole)
          (λ w. (rw c.frame.ensures.frame at (e.text w)).1)
          e.writer.told e.writer.cannot (search rules);
    }

pub returns-clause-text : goal.returns-clause-text
returns-clause-text g c = λ t w.
    let i = c.loop-feed.invariant.walk in
    let mid = g.F.PacketFeed.feed c.loop-feed.feed in
    let shown = g.F.PacketFeed.feed c.peek.new.self in
    let first = c.args.first.now in
    let e = c.in_ok-peek.ensures in
    Prints-end (plan_of c.args.order first) _ _ _ _ mid shown (plan_of-is c.args.order first) (i.text t) w
    (i.refusal_same t) (found-end mid shown (g.met.F.PacketFeed.lawful c.peek.new.self) (e.keeps.told (i.told t))
    (e.items (i.told t)) (rw c.if-branch.false at e.answer))

pub returns-clause-endings : goal.returns-clause-endings
returns-clause-endings g c =
    let i = c.loop-feed.invariant in
    let mid = g.F.PacketFeed.feed c.loop-feed.feed in
    let shown = g.F.PacketFeed.feed c.peek.new.self in
    let e = c.in_ok-peek.ensures in
    Ends-end _ _ _ i.ends i.went.keeps (λ t. found-end mid shown (g.met.F.PacketFeed.lawful c.peek.new.self)
    (e.keeps.told t) (e.items t) (rw c.if-branch.false at e.answer))

pub returns-in_err-peek-clause-walks : goal.returns-in_err-peek-clause-walks
returns-in_err-peek-clause-walks g c =
    let p = err_from_is_err_and c.from_residual.result c.from_residual.ensures.1 in
    rw (p.1, p.2) (Walks-fault _ _ _ c.in_err-peek.field-0.0 c.loop-feed.invariant.went
    (found-no-packet c.in_err-peek.field-0.0 _ _ c.in_err-peek.ensures.answer))

pub returns-in_err-peek-clause-keeps : goal.returns-in_err-peek-clause-keeps
returns-in_err-peek-clause-keeps g c = grind arith

pub returns-in_err-put_after_header-clause-walks : goal.returns-in_err-put_after_header-clause-walks
returns-in_err-put_after_header-clause-walks g c = grind arith

pub returns-in_err-put_after_header-clause-keeps : goal.returns-in_err-put_after_header-clause-keeps
returns-in_err-put_after_header-clause-keeps g c = grind arith

pub returns-clause-walks : goal.returns-clause-walks
returns-clause-walks g c =
    Walks-end _ _ _ c.loop-feed.invariant.went (rw c.if-branch.false at c.in_ok-peek.ensures.answer)

pub returns-clause-keeps : goal.returns-clause-keeps
returns-clause-keeps g c = grind arith

pub loop-feed-init : goal.loop-feed-init
loop-feed-init g c = record {
  went = Went-none _;
  ends = Ends-none (g.F.PacketFeed.feed c.args.feed.now);
  walk =
      Walking-none _ _ _ _;
}

pub returns-in_err-peek-clause-writer : goal.returns-in_err-peek-clause-writer
returns-in_err-peek-clause-writer g c =
    let p = err_from_is_err_and c.from_residual.result c.from_residual.ensures.1 in
    rw (p.1, p.2) (Walking-writer _ _ _ _ _ _ _ (unwritten _ _ c.in_err-peek.field-0.0
    (found-no-packet c.in_err-peek.field-0.0 _ _ c.in_err-peek.ensures.answer)) c.loop-feed.invariant.walk)

pub returns-in_err-put_after_header-clause-writer : goal.returns-in_err-put_after_header-clause-writer
returns-in_err-put_after_header-clause-writer g c =
    let p = err_from_is_err_and c.from_residual-in_err-put_after_header.result
    c.from_residual-in_err-put_after_header.ensures.1 in
    rw (p.1, p.2) (WriterKeeps-behind _ _ _ _ (Walking-writer _ _ _ _ _ _ _ refl c.loop-feed.invariant.walk)
    c.in_err-put_after_header.ensures.writer)

pub returns-clause-writer : goal.returns-clause-writer
returns-clause-writer g c = Walking-writer _ _ _ _ _ _ _ refl c.loop-feed.invariant.walk

pub put_after_header-requires : goal.put_after_header-requires
put_after_header-requires g c =
    record {
      captured = captured-few (g.F.PacketFeed.feed c.peek.new.self) c.packet-meta.result.now _
          (g.met.F.PacketFeed.lawful _) c.packet-meta.ensures.packet c.frame.ensures.frame;
    }

pub returns-in_err-peek-clause-memory : goal.returns-in_err-peek-clause-memory
returns-in_err-peek-clause-memory g c =
    let p = err_from_is_err_and c.from_residual.result c.from_residual.ensures.1 in
    rw (p.1, p.2) (memory-found c.in_err-peek.field-0.0 _ _ c.in_err-peek.ensures.answer)

pub returns-in_err-put_after_header-clause-memory : goal.returns-in_err-put_after_header-clause-memory
returns-in_err-put_after_header-clause-memory g c =
    let p = err_from_is_err_and c.from_residual-in_err-put_after_header.result
    c.from_residual-in_err-put_after_header.ensures.1 in
    rw (p.1, p.2) (memory-more c.in_err-put_after_header.field-0.0 _ _
    (λ no. absurd no) c.in_err-put_after_header.ensures.memory)
