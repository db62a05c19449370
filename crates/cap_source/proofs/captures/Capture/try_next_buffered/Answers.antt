use Rattle.std.proofs.Common.{ap, refl}
use Rattle.cap_source.proofs.Going.{IsSound-taken}
use Rattle.cap_source.specs.inner.FileState.{pcap_state}
use Rattle.cap_source.specs.inner.SectionState.{progress_of}
use Rattle.cap_source.proofs.captures.Capture.try_next_buffered.Goals as goal

pub returns-in-Pcap-clause-answer : goal.returns-in-Pcap-clause-answer
returns-in-Pcap-clause-answer g c = rw c.in-Pcap.is
    (c.try_next_buffered.ensures.answer (progress_of c.args.self.now.reached))

pub returns-in-Pcap-clause-keeps : goal.returns-in-Pcap-clause-keeps
returns-in-Pcap-clause-keeps g c = rw c.in-Pcap.is
    (c.try_next_buffered.ensures.keeps (progress_of c.args.self.now.reached))

pub returns-in-Pcap-clause-reaches : goal.returns-in-Pcap-clause-reaches
returns-in-Pcap-clause-reaches g c =
    rw c.in-Pcap.is (c.try_next_buffered.ensures.reaches (progress_of c.args.self.now.reached))

pub invariant_of-self : goal.invariant_of-self
invariant_of-self g c =
    let p = progress_of c.args.self.now.reached in
    let e = c.try_next_buffered.ensures in
    record {
      there = refl;
      room = refl;
      prepared = e.prepared;
      sound = IsSound-taken (pcap_state c.in-Pcap.reader p)
          (pcap_state c.try_next_buffered.new.reader p) c.args.self.now.next.next
          c.try_next_buffered.new.known.next c.try_next_buffered.result (rw c.in-Pcap.is at c.args.self.now.sound)
          c.requires (e.keeps p) (e.answer p) (λ f. (ap (λ r. pcap_state r p) (e.none f).0, (e.none f).1));
    }
