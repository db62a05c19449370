use Rattle.std.proofs.Common.{true, rules, ap, arith, Some}
use Rattle.cap_bytes.proofs.Readers.{Stands-passed, Reaches-here}
use Rattle.cap_blocks.specs.inner.Parsing.{SeesBlock}
use Rattle.cap_blocks.specs.inner.Reader.{block_size, block_reader_state, shown_block_size, body_of}
use Rattle.cap_blocks.specs.Grammar.{is_known_kind}
use Rattle.cap_blocks.proofs.Reading.{GivesBlock-found, TakesItem_shown}
use Rattle.cap_blocks.proofs.readers.BlockReader.take_packet.Goals as goal

pub invariant_of-self : goal.invariant_of-self
invariant_of-self g c =
    let s : SeesBlock c.self.inside.section c.self.inside.tail c.in-Some.block c.take_packet.new.window
    c.take_packet.new.window = c.in-Some.ensures.sees c.self.inside.tail in
    search rules

pub returns-in-Some-clause-answer : goal.returns-in-Some-clause-answer
returns-in-Some-clause-answer g c =
    let i = c.self.inside in
    rw (← c.self.view_is)
    (GivesBlock-found true i.window c.take_packet.new.window c.take_packet.new.window i.tail i.section i.given i.stop
    c.in-Some.block
    (grind arith) c.self.invariant.within (rw c.size_given.ensures at c.in-Some.ensures.passes)
    (ap is_known_kind c.in-Some.ensures.kind) (c.in-Some.ensures.sees i.tail))

pub returns-in-Some-clause-keeps : goal.returns-in-Some-clause-keeps
returns-in-Some-clause-keeps g c =
    let s : SeesBlock c.self.inside.section c.self.inside.tail c.in-Some.block c.take_packet.new.window
    c.take_packet.new.window = c.in-Some.ensures.sees c.self.inside.tail in
    search rules

pub returns-in-Some-clause-reaches : goal.returns-in-Some-clause-reaches
returns-in-Some-clause-reaches g c =
    let i = c.self.inside in
    let at = Stands-passed i.window c.take_packet.new.window i.tail i.section (shown_block_size i.given)
    (body_of i.given i.window.shown) i.stop
    (grind arith) c.self.invariant.within (rw c.size_given.ensures at c.in-Some.ensures.passes) in
    rw (← c.self.view_is)
    (Reaches-here (block_reader_state i.window i.tail i.section i.given i.stop) c.take_packet.new.window
    c.take_packet.new.window
    at (block_size c.in-Some.block))

pub returns-in-Some-clause-items : goal.returns-in-Some-clause-items
returns-in-Some-clause-items g c =
    TakesItem_shown c.args.self.now _ (Some c.in-Some.block) (returns-in-Some-clause-answer g c)
    (returns-in-Some-clause-keeps g c)
