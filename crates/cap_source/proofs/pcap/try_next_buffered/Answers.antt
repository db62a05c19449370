use Rattle.std.proofs.Common.{◌∙◌, Some, ap, refl, sym}
use Rattle.cap_source.specs.declared.readers.Peeked.TheVariants as peeks
use Rattle.cap_source.proofs.PcapFronts.{record-passed}
use Rattle.cap_source.proofs.Pcaps.{prepared-kept, record_learned, record_taken, recorded, recorded-of}
use Rattle.cap_source.specs.inner.PeekSlotView.{IsPrepared, with_record}
use Rattle.cap_source.specs.Items.{interface_of, meta_of}
use Rattle.cap_source.proofs.pcap.try_next_buffered.Goals as goal

pub returns-in-Some-try_next_buffered-clause-answer : goal.returns-in-Some-try_next_buffered-clause-answer
returns-in-Some-try_next_buffered-clause-answer g c = λ progress.
    let e = c.in-Some-try_next_buffered.ensures in
    let known = sym c.known.ensures ∙ c.in-Some.is in
    let file = c.args.reader.now.file in
    let of : IsPrepared file (Some c.in-Some.header) c.args.known.now.meta = rw known at c.requires.prepared in
    let same = recorded file c.in-Some.header c.args.known.now.meta c.in-Some-try_next_buffered.record of in (
      peeks.Packet (meta_of file (interface_of c.in-Some.header) c.in-Some-try_next_buffered.record) 0,
      c.set_record.ensures.packet ∙ ap (λ m. Some (peeks.Packet m 0)) same,
      record_learned c.in-Some.header file c.in-Some-try_next_buffered.record c.args.reader.now
          c.try_next_buffered.new.self progress
          refl known e.answer e.keeps e.items,
    )

pub returns-in-Some-try_next_buffered-clause-reaches : goal.returns-in-Some-try_next_buffered-clause-reaches
returns-in-Some-try_next_buffered-clause-reaches g c = λ progress taken.
    record_taken c.in-Some.header c.args.reader.now c.try_next_buffered.new.self c.in-Some-try_next_buffered.record
    progress
    c.in-Some-try_next_buffered.ensures.reaches c.in-Some-try_next_buffered.ensures.place

pub returns-in-Some-try_next_buffered-clause-fronts : goal.returns-in-Some-try_next_buffered-clause-fronts
returns-in-Some-try_next_buffered-clause-fronts g c = λ told taken.
    let e = c.in-Some-try_next_buffered.ensures in
    let known = sym c.known.ensures ∙ c.in-Some.is in
    let file = c.args.reader.now.file in
    let of : IsPrepared file (Some c.in-Some.header) c.args.known.now.meta = rw known at c.requires.prepared in
    let same = recorded file c.in-Some.header c.args.known.now.meta c.in-Some-try_next_buffered.record of in
    rw (c.set_record.ensures.packet ∙ ap (λ m. Some (peeks.Packet m 0)) same)
    (record-passed c.in-Some.header file c.in-Some-try_next_buffered.record c.args.reader.now
    c.try_next_buffered.new.self refl known e.answer e.keeps told (e.items told))

pub returns-in-Some-try_next_buffered-clause-prepared : goal.returns-in-Some-try_next_buffered-clause-prepared
returns-in-Some-try_next_buffered-clause-prepared g c =
    let e = c.in-Some-try_next_buffered.ensures in
    let known = sym c.known.ensures ∙ c.in-Some.is in
    let of : IsPrepared c.args.reader.now.file (Some c.in-Some.header) c.args.known.now.meta = rw known at
    c.requires.prepared in
    prepared-kept c.args.reader.now c.try_next_buffered.new.self c.in-Some.header
    (with_record c.args.known.now.meta c.in-Some-try_next_buffered.record) c.set_record.new.self.meta
    (recorded-of c.args.reader.now.file c.in-Some.header c.args.known.now.meta c.in-Some-try_next_buffered.record of)
    e.keeps.file (e.header ∙ known) c.set_record.ensures.meta
