use Rattle.std.proofs.Common.{rules, arith, Some}
use Rattle.cap_bytes.proofs.Readers.{Stands-passed, Reaches-here}
use Rattle.cap_pcap.specs.inner.Parsing.{SeesRecord}
use Rattle.cap_pcap.specs.inner.Reader.{record_size, record_reader_state, shown_record_size, lent_frame}
use Rattle.cap_pcap.proofs.Reading.{GivesRecord-seen, TakesItem_shown}
use Rattle.cap_pcap.proofs.readers.PcapReader.try_next_buffered.Goals as goal

pub invariant_of-self : goal.invariant_of-self
invariant_of-self g c =
    let s : SeesRecord c.args.header c.self.inside.tail c.in-Some.record c.try_next_buffered.new.window
    c.try_next_buffered.new.window = c.in-Some.ensures.sees c.self.inside.tail in
    search rules

pub returns-in-Some-clause-answer : goal.returns-in-Some-clause-answer
returns-in-Some-clause-answer g c =
    let i = c.self.inside in
    rw (← c.self.view_is)
    (GivesRecord-seen c.args.header i.window c.try_next_buffered.new.window c.try_next_buffered.new.window i.tail
    i.header i.captured
    i.stop c.in-Some.record
    (grind arith) c.self.invariant.within (rw c.size_given.ensures at c.in-Some.ensures.passes)
    (c.in-Some.ensures.sees i.tail))

pub returns-in-Some-clause-keeps : goal.returns-in-Some-clause-keeps
returns-in-Some-clause-keeps g c =
    let s : SeesRecord c.args.header c.self.inside.tail c.in-Some.record c.try_next_buffered.new.window
    c.try_next_buffered.new.window = c.in-Some.ensures.sees c.self.inside.tail in
    search rules

pub returns-in-Some-clause-reaches : goal.returns-in-Some-clause-reaches
returns-in-Some-clause-reaches g c =
    let i = c.self.inside in
    let at = Stands-passed i.window c.try_next_buffered.new.window i.tail i.header (shown_record_size i.captured)
    (lent_frame i.captured i.window.shown) i.stop
    (grind arith) c.self.invariant.within (rw c.size_given.ensures at c.in-Some.ensures.passes) in
    rw (← c.self.view_is)
    (Reaches-here (record_reader_state i.window i.tail i.header i.captured i.stop) c.try_next_buffered.new.window
    c.try_next_buffered.new.window
    at (record_size c.in-Some.record))

pub returns-in-Some-clause-items : goal.returns-in-Some-clause-items
returns-in-Some-clause-items g c =
    TakesItem_shown c.args.header c.args.self.now _ (Some c.in-Some.record) c.requires
    (returns-in-Some-clause-answer g c) (returns-in-Some-clause-keeps g c)
