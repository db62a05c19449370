use Rattle.std.proofs.Common.{ap, is_some, refl}
use Rattle.cap_source.proofs.Going.{FileKeeps-trans, Answers-behind, IsSound-asked, taken_opened, free_of}
use Rattle.cap_source.proofs.Fronts.{Fronts-answer}
use Rattle.cap_source.proofs.PcapFronts.{told-same}
use Rattle.cap_source.specs.inner.Captures.{capture_fronts}
use Rattle.cap_source.specs.inner.Fronts.{pcap_fronts, pcapng_fronts}
use Rattle.cap_source.specs.inner.FileState.{pcap_state, pcapng_state}
use Rattle.cap_source.specs.inner.SectionState.{progress_of}
use Rattle.cap_source.specs.inner.Readers.{reader_file_state}
use Rattle.cap_source.proofs.captures.Capture.find.Goals as goal

pub returns-in-Pcap-clause-answer : goal.returns-in-Pcap-clause-answer
returns-in-Pcap-clause-answer g c =
    let p = progress_of c.args.self.now.reached in
    Answers-behind (reader_file_state c.args.self.now.reader p) (pcap_state c.in-Pcap.reader p)
    (pcap_state c.next_of_pcap.new.reader p) c.next_of_pcap.result c.next_of_pcap.new.known.next
    (rw c.in-Pcap.is at (c.in_ok-open.ensures.answer p)) (rw c.in-Pcap.is at (c.in_ok-open.ensures.keeps p))
    (c.next_of_pcap.ensures.answer p)

pub returns-in-Pcap-clause-keeps : goal.returns-in-Pcap-clause-keeps
returns-in-Pcap-clause-keeps g c =
    let p = progress_of c.args.self.now.reached in
    FileKeeps-trans (reader_file_state c.args.self.now.reader p) (pcap_state c.in-Pcap.reader p)
    (pcap_state c.next_of_pcap.new.reader p)
    (rw c.in-Pcap.is at (c.in_ok-open.ensures.keeps p)) (c.next_of_pcap.ensures.keeps p)

pub open-requires-clause-free : goal.open-requires-clause-free
open-requires-clause-free g c =
    let m = c.args.self.now in
    free_of m.reader (progress_of m.reached) m.next.next (ap is_some c.requires) m.sound

pub next_of_blocks-requires-clause-counted : goal.next_of_blocks-requires-clause-counted
next_of_blocks-requires-clause-counted g c =
    let p = progress_of c.args.self.now.reached in
    (rw c.in-Pcapng.is at (c.in_ok-open.ensures.keeps p)).counted c.args.self.now.sound.counted

pub next_of_blocks-requires-clause-limit : goal.next_of_blocks-requires-clause-limit
next_of_blocks-requires-clause-limit g c =
    (rw c.in-Pcapng.is at (c.in_ok-open.ensures.keeps (progress_of c.args.self.now.reached))).limit
    c.args.self.now.sound.limit

pub returns-in-Pcapng-clause-answer : goal.returns-in-Pcapng-clause-answer
returns-in-Pcapng-clause-answer g c =
    let p = progress_of c.args.self.now.reached in
    let q = progress_of c.next_of_blocks.new.reached in
    Answers-behind (reader_file_state c.args.self.now.reader p) (pcapng_state c.in-Pcapng.reader p)
    (pcapng_state c.next_of_blocks.new.reader q) c.next_of_blocks.result c.next_of_blocks.new.known.next
    (rw c.in-Pcapng.is at (c.in_ok-open.ensures.answer p))
    (rw c.in-Pcapng.is at (c.in_ok-open.ensures.keeps p)) c.next_of_blocks.ensures.answer

pub returns-in-Pcapng-clause-keeps : goal.returns-in-Pcapng-clause-keeps
returns-in-Pcapng-clause-keeps g c =
    let p = progress_of c.args.self.now.reached in
    let q = progress_of c.next_of_blocks.new.reached in
    FileKeeps-trans (reader_file_state c.args.self.now.reader p) (pcapng_state c.in-Pcapng.reader p)
    (pcapng_state c.next_of_blocks.new.reader q)
    (rw c.in-Pcapng.is at (c.in_ok-open.ensures.keeps p)) c.next_of_blocks.ensures.keeps

pub returns-in-Pcap-clause-reaches : goal.returns-in-Pcap-clause-reaches
returns-in-Pcap-clause-reaches g c =
    let p = progress_of c.args.self.now.reached in
    taken_opened (reader_file_state c.args.self.now.reader p) (pcap_state c.in-Pcap.reader p)
    (pcap_state c.next_of_pcap.new.reader p) c.next_of_pcap.result c.next_of_pcap.new.known.next
    (rw c.in-Pcap.is at (c.in_ok-open.ensures.keeps p)) (rw c.in-Pcap.is at (c.in_ok-open.ensures.reaches p))
    (c.next_of_pcap.ensures.reaches p)

pub returns-in-Pcapng-clause-reaches : goal.returns-in-Pcapng-clause-reaches
returns-in-Pcapng-clause-reaches g c =
    let p = progress_of c.args.self.now.reached in
    let q = progress_of c.next_of_blocks.new.reached in
    taken_opened (reader_file_state c.args.self.now.reader p) (pcapng_state c.in-Pcapng.reader p)
    (pcapng_state c.next_of_blocks.new.reader q) c.next_of_blocks.result c.next_of_blocks.new.known.next
    (rw c.in-Pcapng.is at (c.in_ok-open.ensures.keeps p))
    (rw c.in-Pcapng.is at (c.in_ok-open.ensures.reaches p)) c.next_of_blocks.ensures.reaches

pub invariant_of-self-in-Pcap : goal.invariant_of-self-in-Pcap
invariant_of-self-in-Pcap g c =
    let m = c.args.self.now in
    let p = progress_of m.reached in
    let old = reader_file_state m.reader p in
    let opened = pcap_state c.in-Pcap.reader p in
    let new = pcap_state c.next_of_pcap.new.reader p in
    let keeps = rw c.in-Pcap.is at (c.in_ok-open.ensures.keeps p) in
    record {
      there = refl;
      room = refl;
      prepared = c.next_of_pcap.ensures.prepared;
      sound = IsSound-asked old new m.next.next c.next_of_pcap.new.known.next c.next_of_pcap.result
          (ap is_some c.requires) m.sound
          (FileKeeps-trans old opened new keeps (c.next_of_pcap.ensures.keeps p))
          (Answers-behind old opened new c.next_of_pcap.result c.next_of_pcap.new.known.next
          (rw c.in-Pcap.is at (c.in_ok-open.ensures.answer p)) keeps (c.next_of_pcap.ensures.answer p));
    }

pub returns-in-Pcap-clause-fronts : goal.returns-in-Pcap-clause-fronts
returns-in-Pcap-clause-fronts g c = λ told.
    let m = c.args.self.now in
    let p = progress_of m.reached in
    let keeps = rw c.in-Pcap.is at (c.in_ok-open.ensures.keeps p) in
    Fronts-answer (capture_fronts m) (pcap_fronts c.in-Pcap.reader) (pcap_fronts c.next_of_pcap.new.reader)
    c.next_of_pcap.result c.next_of_pcap.new.known.next (rw c.in-Pcap.is at (c.in_ok-open.ensures.fronts p told))
    (c.next_of_pcap.ensures.fronts (keeps.told (told-same m.reader p told)))

pub returns-in-Pcapng-clause-fronts : goal.returns-in-Pcapng-clause-fronts
returns-in-Pcapng-clause-fronts g c = λ told.
    let m = c.args.self.now in
    let p = progress_of m.reached in
    let q = progress_of c.next_of_blocks.new.reached in
    let keeps = rw c.in-Pcapng.is at (c.in_ok-open.ensures.keeps p) in
    Fronts-answer (capture_fronts m) (pcapng_fronts c.in-Pcapng.reader p)
    (pcapng_fronts c.next_of_blocks.new.reader q) c.next_of_blocks.result c.next_of_blocks.new.known.next
    (rw c.in-Pcapng.is at (c.in_ok-open.ensures.fronts p told))
    (c.next_of_blocks.ensures.fronts (keeps.told (told-same m.reader p told)))

pub next_of_pcap-requires-clause-prepared : goal.next_of_pcap-requires-clause-prepared
next_of_pcap-requires-clause-prepared g c =
    rw c.in-Pcap.is at (c.in_ok-open.ensures.prepared c.args.self.now.next.meta c.args.self.now.prepared)
