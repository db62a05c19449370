use Rattle.std.proofs.Common.{inl, inr, refl}
use Rattle.std.proofs.lemmas.Result.{err_from_is_err_and}
use Rattle.cap_class.specs.Taken.{taken}
use Rattle.cap_merge.specs.Parts.{merged_feed}
use Rattle.cap_merge.specs.inner.MergedLaws.{merged-is-feed}
use Rattle.cap_merge.specs.inner.View.{parts_of}
use Rattle.cap_talks.proofs.Stepping.{faulted, found-packet, known-end, known-packet, next-is, stands-asked, stayed}
use Rattle.cap_talks.proofs.table.tables.Table.peek_network.Goals as goal

pub returns-in_err-peek-clause-sees : goal.returns-in_err-peek-clause-sees
returns-in_err-peek-clause-sees g c =
    let m = c.peek.new.self in
    let p = parts_of c.args.self.now.merged in
    let q = parts_of m in
    let law = merged-is-feed m g.met.F.PacketFeed.lawful in
    let e = c.in_err-peek.ensures in
    let t = c.args.self.now in
    let is = err_from_is_err_and c.from_residual.result c.from_residual.ensures.1 in
    rw (is.1, is.2) (faulted t.totals t.tally t.done p q c.in_err-peek.field-0.0 law e.keeps e.answer e.items
    e.asks e.run)

pub returns-then-not-branch-clause-sees : goal.returns-then-not-branch-clause-sees
returns-then-not-branch-clause-sees g c =
    let p = parts_of c.args.self.now.merged in
    let q = parts_of c.peek.new.self in
    let e = c.in_ok-peek.ensures in
    let known = known-end (merged_feed p) (merged_feed q) c.in_ok-peek.field-0 c.if-not-branch.true e.answer in
    record {
      known = inr known.known;
      same = λ t. record { run = e.run t; endings = (e.items t).endings };
      goes = known.goes;
      stays = record {
        stands = λ xs h. record { totals = h.totals; tally = stands-asked c.args.self.now.tally p q xs e.asks h.tally };
        going = refl;
      };
    }

pub next_packet-packet-requires : goal.next_packet-packet-requires
next_packet-packet-requires g c = found-packet _ _ _ c.if-not-branch.false c.in_ok-peek.ensures.answer

pub returns-clause-sees : goal.returns-clause-sees
returns-clause-sees g c =
    let p = parts_of c.args.self.now.merged in
    let q = parts_of c.peek.new.self in
    let e = c.in_ok-peek.ensures in
    let meta = c.next_packet-packet.result.meta.now in
    let known = known-packet (merged_feed p) (merged_feed q) c.in_ok-peek.field-0 meta c.if-not-branch.false
    e.answer
    c.next_packet-packet.ensures.packet in
    record {
      known = inl (record {
        item = taken c.next_packet-packet.result.clock.now meta c.next_packet-packet.result.frame.now;
        next = next-is q meta c.next_packet-packet.result.clock.now c.next_packet-packet.result.frame.now known.known
            c.next_packet-packet.ensures.clock c.next_packet-packet.ensures.frame;
        is = c.other_network.ensures.value;
      });
      same = λ t. record { run = e.run t; endings = (e.items t).endings };
      goes = known.goes;
      stays = record {
        stands = λ xs h. record { totals = h.totals; tally = stands-asked c.args.self.now.tally p q xs e.asks h.tally };
        going = refl;
      };
    }

pub returns-in_err-peek-clause-keeps : goal.returns-in_err-peek-clause-keeps
returns-in_err-peek-clause-keeps g c =
    let e = c.in_err-peek.ensures in
    record { keeps = e.keeps; places = stayed _ _ _ _ refl e.keeps.left; files = refl; reads = refl }

pub returns-then-not-branch-clause-keeps : goal.returns-then-not-branch-clause-keeps
returns-then-not-branch-clause-keeps g c =
    let e = c.in_ok-peek.ensures in
    record { keeps = e.keeps; places = stayed _ _ _ _ refl e.keeps.left; files = refl; reads = refl }

pub returns-clause-keeps : goal.returns-clause-keeps
returns-clause-keeps g c =
    let e = c.in_ok-peek.ensures in
    record { keeps = e.keeps; places = stayed _ _ _ _ refl e.keeps.left; files = refl; reads = refl }
