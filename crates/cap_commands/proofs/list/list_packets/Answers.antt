use Rattle.std.proofs.Common.{◌≡◌, ◌+◌, ◌++◌, ◌∙◌, IsTrue, Some, Ok, drop, sym, ap, arith, rules}
use Rattle.std.proofs.lemmas.Result.{err_from_is_err_and}
use Rattle.cap_bytes.proofs.Putting.{Putting-front}
use Rattle.cap_source.proofs.Growing.{memory-found}
use Rattle.cap_source.proofs.Onward.{Ends-end, Ends-more, Went-more, Walks-end, Walks-fault, Walks-stop}
use Rattle.cap_source.proofs.Walking.{Walking-more, Prints-fault, Prints-end}
use Rattle.cap_source.specs.inner.Walk.{GivesPacket, ShowsItem}
use Rattle.cap_write.proofs.Peeking.{found-packet, found-item, found-end, found-fault, found-no-packet}
use Rattle.cap_commands.proofs.Listing.{plan_of, plan_of-is, plan_of-next}
use Rattle.cap_commands.specs.ClassText.{packet_line_by}
use Rattle.cap_commands.specs.ListText.{list_lines}
use Rattle.cap_commands.proofs.list.list_packets.Goals as goal

pub returns-in_err-peek-clause-text : goal.returns-in_err-peek-clause-text
returns-in_err-peek-clause-text g c = λ t w.
    let p = err_from_is_err_and c.from_residual.result c.from_residual.ensures.1 in
    let i = c.loop-feed.invariant.walk in
    let line = packet_line_by c.args.options.class c.args.options.ipv6 c.args.options.form
    c.args.options.most in
    let n = c.loop-feed.number in
    let mid = g.F.PacketFeed.feed c.loop-feed.feed in
    let shown = g.F.PacketFeed.feed c.peek.new.self in
    let e = c.in_err-peek.ensures in
    rw (p.1, p.2) (Prints-fault (plan_of line n) c.in_err-peek.field-0.0 _ _ _ _ mid shown (plan_of-is line n)
    (i.text t) w (i.refusal_same t)
    (found-fault c.in_err-peek.field-0.0 mid shown (g.met.F.PacketFeed.lawful c.peek.new.self)
    (e.keeps.told (i.told t)) (e.items (i.told t)) e.answer))

pub returns-in_err-put_packet_line-clause-text : goal.returns-in_err-put_packet_line-clause-text
returns-in_err-put_packet_line-clause-text g c = λ t w.
    let r = c.from_residual-in_err-put_packet_line in
    let p = err_from_is_err_and r.result r.ensures.1 in
    let i = c.loop-feed.invariant.walk in
    let n = c.loop-feed.number in
    let mid = g.F.PacketFeed.feed c.loop-feed.feed in
    let shown = g.F.PacketFeed.feed c.peek.new.self in
    let meta = c.packet-packet.result.now in
    let e = c.in_ok-peek.ensures in
    let shows : ShowsItem mid (Ok (Some meta)) shown =
    found-item mid shown meta (g.met.F.PacketFeed.lawful c.peek.new.self) (e.keeps.told (i.told t))
    (e.items (i.told t)) c.packet-packet.ensures.packet in
    let line = packet_line_by c.args.options.class c.args.options.ipv6 c.args.options.form
    c.args.options.most in
    let written = line n meta c.frame.result.now in
    let written_is : written ≡ line n meta shown.frame = ap (line n meta) c.frame.ensures.frame in
    let behind = list_lines line (n + 1) (drop 1 mid.items) in
    let split : list_lines line n mid.items ≡ written ++ behind =
    ap (list_lines line n) shows.1 ∙ ((plan_of-next line n meta shown.frame).text (drop 1 mid.items)
    ∙ ap (λ l. l ++ behind) (sym written_is)) in
    let wrote = c.in_err-put_packet_line.ensures.bytes (i.writer_told w) in
    rw (p.1, p.2, c.in_err-put_packet_line.ensures.fault)
    (Putting-front _ _ _ _ written behind wrote.0 (rw split at (i.text t)) w wrote.1)

pub loop-feed-preserved : goal.loop-feed-preserved
loop-feed-preserved g c =
    let i = c.loop-feed.invariant in
    let n = c.loop-feed.number in
    let mid = g.F.PacketFeed.feed c.loop-feed.feed in
    let shown = g.F.PacketFeed.feed c.peek.new.self in
    let new = g.F.PacketFeed.feed c.pass.new.self in
    let meta = c.packet-packet.result.now in
    let f = c.in_ok-peek.ensures in
    let e = c.in_ok-put_packet_line.ensures in
    let line = packet_line_by c.args.options.class c.args.options.ipv6 c.args.options.form
    c.args.options.most in
    let written = line n meta c.frame.result.now in
    let written_is : written ≡ line n meta shown.frame = ap (line n meta) c.frame.ensures.frame in
    let gives : GivesPacket mid (Ok (Some meta)) shown =
    found-packet mid shown meta (rw c.if-branch.true at f.answer) c.packet-packet.ensures.packet in
    let shows : (IsTrue mid.told → ShowsItem mid (Ok (Some meta)) shown) = λ t.
    found-item mid shown meta (g.met.F.PacketFeed.lawful c.peek.new.self) (f.keeps.told t) (f.items t)
    c.packet-packet.ensures.packet in
    record {
      number = omega (arith, i.number, f.keeps.left, c.pass.ensures.passes.left);
      went = Went-more (g.F.PacketFeed.feed c.args.feed.now) mid shown new meta i.went gives f.keeps
          c.pass.ensures.passes c.pass.ensures.keeps;
      ends = Ends-more (g.F.PacketFeed.feed c.args.feed.now) mid shown new meta i.ends i.went.keeps f.keeps shows
          c.pass.ensures.passes;
      walk =
          Walking-more _ _ _ _ mid shown new _ _ _ _ _ _ meta (line n meta shown.frame)
          i.walk f.keeps shows
          c.pass.ensures.keeps c.pass.ensures.passes.items (plan_of-next line n meta shown.frame)
          (λ w. rw written_is at (e.bytes w))
          e.writer.told e.writer.cannot (search rules);
    }

pub returns-clause-text : goal.returns-clause-text
returns-clause-text g c = λ t w.
    let i = c.loop-feed.invariant.walk in
    let n = c.loop-feed.number in
    let mid = g.F.PacketFeed.feed c.loop-feed.feed in
    let shown = g.F.PacketFeed.feed c.peek.new.self in
    let e = c.in_ok-peek.ensures in
    let line = packet_line_by c.args.options.class c.args.options.ipv6 c.args.options.form
    c.args.options.most in
    Prints-end (plan_of line n) _ _ _ _ mid shown (plan_of-is line n) (i.text t) w (i.refusal_same t)
    (found-end mid shown (g.met.F.PacketFeed.lawful c.peek.new.self) (e.keeps.told (i.told t))
    (e.items (i.told t)) (rw c.if-branch.false at e.answer))

pub returns-clause-endings : goal.returns-clause-endings
returns-clause-endings g c =
    let i = c.loop-feed.invariant in
    let mid = g.F.PacketFeed.feed c.loop-feed.feed in
    let shown = g.F.PacketFeed.feed c.peek.new.self in
    let e = c.in_ok-peek.ensures in
    Ends-end _ _ _ i.ends i.went.keeps (λ t. found-end mid shown (g.met.F.PacketFeed.lawful c.peek.new.self)
    (e.keeps.told t) (e.items t) (rw c.if-branch.false at e.answer))

pub returns-clause-files : goal.returns-clause-files
returns-clause-files g c = c.in_ok-peek.ensures.keeps.files ∙ c.loop-feed.invariant.went.keeps.files

pub returns-in_err-peek-clause-walks : goal.returns-in_err-peek-clause-walks
returns-in_err-peek-clause-walks g c =
    let p = err_from_is_err_and c.from_residual.result c.from_residual.ensures.1 in
    rw (p.1, p.2) (Walks-fault _ _ _ c.in_err-peek.field-0.0 c.loop-feed.invariant.went
    (found-no-packet c.in_err-peek.field-0.0 (g.F.PacketFeed.feed c.loop-feed.feed)
    (g.F.PacketFeed.feed c.peek.new.self) c.in_err-peek.ensures.answer))

pub returns-in_err-put_packet_line-clause-walks : goal.returns-in_err-put_packet_line-clause-walks
returns-in_err-put_packet_line-clause-walks g c =
    let mid = g.F.PacketFeed.feed c.loop-feed.feed in
    let shown = g.F.PacketFeed.feed c.peek.new.self in
    let gives : GivesPacket mid (Ok (Some c.packet-packet.result.now)) shown =
    found-packet mid shown c.packet-packet.result.now (rw c.if-branch.true at c.in_ok-peek.ensures.answer)
    c.packet-packet.ensures.packet in
    grind (arith, err_from_is_err_and, Walks-stop, gives)

pub returns-clause-walks : goal.returns-clause-walks
returns-clause-walks g c =
    Walks-end _ _ _ c.loop-feed.invariant.went (rw c.if-branch.false at c.in_ok-peek.ensures.answer)

pub returns-in_err-peek-clause-memory : goal.returns-in_err-peek-clause-memory
returns-in_err-peek-clause-memory g c = grind (arith, err_from_is_err_and, memory-found)

pub returns-in_err-put_packet_line-clause-memory : goal.returns-in_err-put_packet_line-clause-memory
returns-in_err-put_packet_line-clause-memory g c =
    let r = c.from_residual-in_err-put_packet_line in
    let p = err_from_is_err_and r.result r.ensures.1 in
    rw (p.1, p.2, c.in_err-put_packet_line.ensures.fault) tt
