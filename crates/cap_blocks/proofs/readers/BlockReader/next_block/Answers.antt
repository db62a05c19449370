use Rattle.std.proofs.Common.{Some, None, Ok, option_map, refl, rules}
use Rattle.std.proofs.lemmas.Result.{err_from_is_err_and}
use Rattle.cap_bytes.proofs.Readers.{Stands-passed, GivesNext-stopped, GivesNext-failed, Reaches-given, Reaches-failed}
use Rattle.cap_bytes.proofs.Readers.{Reaches-stopped}
use Rattle.cap_bytes.proofs.Parsing.{none_from}
use Rattle.cap_bytes.specs.inner.Reach.{size_found}
use Rattle.cap_bytes.specs.declared.stops.Stop.{Stop}
use Rattle.cap_blocks.specs.Grammar.{is_known_kind}
use Rattle.cap_blocks.specs.inner.Reader.{GivesBlock, block_size, block_reader_state, shown_block_size, body_of}
use Rattle.cap_blocks.specs.Split.{block_fault, wanted_at, LacksRoom}
use Rattle.cap_blocks.proofs.Reading.{GivesBlock-found, TakesItem_next}
use Rattle.cap_blocks.proofs.readers.BlockReader.next_block.Goals as goal

pub returns-in_err-block-clause-answer : goal.returns-in_err-block-clause-answer
returns-in_err-block-clause-answer g c =
    let p = err_from_is_err_and c.from_residual.result c.from_residual.ensures.1 in
    let i = c.self.inside in
    let old = block_reader_state i.window i.tail i.section i.given i.stop in
    let at = Stands-passed i.window c.pass.new.self i.tail i.section (shown_block_size i.given)
    (body_of i.given i.window.shown) i.stop
    (none_from i.stop c.in_default.not-Some) c.self.invariant.within
    (rw c.size_given.ensures at c.pass.ensures.passes) in
    rw (← c.self.view_is, p.1, p.2)
    (GivesNext-failed old c.pass.new.self c.look_for_block.new.window at
    (λ block. GivesBlock old block (block_reader_state c.look_for_block.new.window i.tail i.section None i.stop)) _
    (block_fault i.section) 524288 (LacksRoom i.section)
    c.in_err-block.field-0.0 c.in_err-block.ensures.answer)

pub returns-in-Ok-clause-answer : goal.returns-in-Ok-clause-answer
returns-in-Ok-clause-answer g c =
    let i = c.self.inside in
    rw (← c.self.view_is, c.shown_of-self-inside.ensures)
    (GivesBlock-found (is_known_kind c.in-Ok.block.kind) i.window c.pass.new.self c.look_for_block.new.window i.tail
    i.section i.given i.stop c.in-Ok.block
    (none_from i.stop c.in_default.not-Some) c.self.invariant.within
    (rw c.size_given.ensures at c.pass.ensures.passes) refl
    (rw c.in-Ok.is at c.in_ok-block.ensures.answer))

pub returns-in-Err-clause-answer : goal.returns-in-Err-clause-answer
returns-in-Err-clause-answer g c =
    let i = c.self.inside in
    let old = block_reader_state i.window i.tail i.section i.given i.stop in
    let at = Stands-passed i.window c.pass.new.self i.tail i.section (shown_block_size i.given)
    (body_of i.given i.window.shown) i.stop
    (none_from i.stop c.in_default.not-Some) c.self.invariant.within
    (rw c.size_given.ensures at c.pass.ensures.passes) in
    rw (← c.self.view_is, c.answer-in-Err.ensures)
    (GivesNext-stopped old c.pass.new.self c.look_for_block.new.window at (λ block. GivesBlock old block _) _
    (block_fault i.section) 524288 (LacksRoom i.section)
    c.in-Err.stop (rw c.in-Err.is at c.in_ok-block.ensures.answer))

pub returns-in_err-block-clause-reaches : goal.returns-in_err-block-clause-reaches
returns-in_err-block-clause-reaches g c =
    let p = err_from_is_err_and c.from_residual.result c.from_residual.ensures.1 in
    let i = c.self.inside in
    let at = Stands-passed i.window c.pass.new.self i.tail i.section (shown_block_size i.given)
    (body_of i.given i.window.shown) i.stop
    (none_from i.stop c.in_default.not-Some) c.self.invariant.within
    (rw c.size_given.ensures at c.pass.ensures.passes) in
    rw (← c.self.view_is, p.1, p.2)
    (Reaches-failed (block_reader_state i.window i.tail i.section i.given i.stop) c.pass.new.self
    c.look_for_block.new.window at
    (option_map block_size) (size_found {E = Stop} block_size)
    (wanted_at i.section) c.in_err-block.field-0.0 c.in_err-block.ensures.reaches)

pub returns-in-Ok-clause-reaches : goal.returns-in-Ok-clause-reaches
returns-in-Ok-clause-reaches g c =
    let i = c.self.inside in
    let at = Stands-passed i.window c.pass.new.self i.tail i.section (shown_block_size i.given)
    (body_of i.given i.window.shown) i.stop
    (none_from i.stop c.in_default.not-Some) c.self.invariant.within
    (rw c.size_given.ensures at c.pass.ensures.passes) in
    rw (← c.self.view_is)
    (Reaches-given (block_reader_state i.window i.tail i.section i.given i.stop) c.pass.new.self
    c.look_for_block.new.window at
    (block_size c.in-Ok.block) (rw c.in-Ok.is at c.in_ok-block.ensures.reaches))

pub returns-in-Err-clause-reaches : goal.returns-in-Err-clause-reaches
returns-in-Err-clause-reaches g c = rw c.answer-in-Err.ensures (Reaches-stopped block_size _ _ _ c.in-Err.stop)

pub returns-in-Ok-clause-keeps : goal.returns-in-Ok-clause-keeps
returns-in-Ok-clause-keeps g c = search rules

pub returns-in-Ok-clause-items : goal.returns-in-Ok-clause-items
returns-in-Ok-clause-items g c =
    TakesItem_next c.args.self.now _ (Ok (Some c.in-Ok.block)) (returns-in-Ok-clause-answer g c)
    (returns-in-Ok-clause-keeps g c)

pub returns-in-Err-clause-keeps : goal.returns-in-Err-clause-keeps
returns-in-Err-clause-keeps g c = search rules

pub returns-in-Err-clause-items : goal.returns-in-Err-clause-items
returns-in-Err-clause-items g c =
    TakesItem_next c.args.self.now _ c.answer-in-Err.result (returns-in-Err-clause-answer g c)
    (returns-in-Err-clause-keeps g c)
