use Rattle.std.proofs.Common.{Ok, Some, drop}
use Rattle.std.proofs.lemmas.Result.{err_from_is_err_and}
use Rattle.cap_source.specs.inner.Walk.{ShowsItem}
use Rattle.cap_write.proofs.Forming.{Prints-run-untimed}
use Rattle.cap_write.proofs.merged.write_merged_pcap.Goals as goal

pub returns-in_err-units_of-in-Some-clause-text : goal.returns-in_err-units_of-in-Some-clause-text
returns-in_err-units_of-in-Some-clause-text g c = λ t w.
    let p = err_from_is_err_and c.from_residual-in_err-units_of-in-Some.result
    c.from_residual-in_err-units_of-in-Some.ensures.1 in
    let old = g.F.PacketFeed.feed c.args.feed.now in
    let shown = g.F.PacketFeed.feed c.next_packet.new.feed in
    let shows : ShowsItem old (Ok (Some c.in-Some.meta)) shown = rw c.in-Some.is at (c.in_ok-meta.ensures.items t) in
    rw (p.1, p.2)
    (Prints-run-untimed c.args.unit c.args.order c.in-Some.meta shown.frame old.items (drop 1 old.items)
    (g.W.Sink.held c.args.writer.now) c.in_err-units_of-in-Some.field-0.0 shows.1
    c.in_err-units_of-in-Some.ensures.answer)
