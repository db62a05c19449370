use Rattle.std.proofs.Common.{◌≡◌, ◌+◌, ◌++◌, Some, None, Ok, sym, ◌∙◌, ap, rules}
use Rattle.std.proofs.lemmas.Result.{err_from_is_err_and}
use Rattle.cap_blocks.specs.inner.Reader.{GivesBlock, TakesBlock, blocks_to_come}
use Rattle.cap_commands.proofs.BlockListing.{Cuts-block_end, Printing-more, Printing-none, Prints-block_fault}
use Rattle.cap_commands.proofs.BlockListing.{Prints-block_end}
use Rattle.cap_commands.proofs.BlockListing.{block_lines-given}
use Rattle.cap_commands.proofs.BlockWalking.{lasts-given, walks-end, walks-fault}
use Rattle.cap_bytes.proofs.Putting.{Putting-front}
use Rattle.cap_commands.specs.BlockText.{block_line, block_lines}
use Rattle.cap_commands.proofs.blocks.print_blocks.Goals as goal

pub returns-in_err-block-clause-text : goal.returns-in_err-block-clause-text
returns-in_err-block-clause-text g c = λ t w.
    let p = err_from_is_err_and c.from_residual.result c.from_residual.ensures.1 in
    let i = c.loop-block.invariant in
    let old = c.loop-block.reader in
    let new = c.take_block.new.reader in
    rw (p.1, p.2) (Prints-block_fault (block_line c.args.form) c.in_err-block.field-0.0 _ _ _ _ c.loop-block.n old new
    (i.lines t) w
    (i.refusal_same t)
    (c.in_err-block.ensures.items (i.told t)))

pub returns-in_err-put_all-clause-text : goal.returns-in_err-put_all-clause-text
returns-in_err-put_all-clause-text g c = λ t w.
    let p = err_from_is_err_and c.from_residual-in_err-put_all.result c.from_residual-in_err-put_all.ensures.1 in
    let i = c.loop-block.invariant in
    let old = c.loop-block.reader in
    let new = c.take_block.new.reader in
    let line_is : c.as_slice.result.now ≡ block_line c.args.form c.loop-block.n c.in-Some.block =
    c.as_slice.ensures.value
    ∙ c.write_block.ensures in
    let items : TakesBlock old (Ok (Some c.in-Some.block)) new =
    rw c.in-Some.is at (c.in_ok-block.ensures.items (i.told t)) in
    let behind = block_lines (block_line c.args.form) (c.loop-block.n + 1) (blocks_to_come new) in
    let split : block_lines (block_line c.args.form) c.loop-block.n (blocks_to_come old)
    ≡ c.as_slice.result.now ++ behind =
    block_lines-given (block_line c.args.form) c.loop-block.n c.in-Some.block _ (blocks_to_come old)
    (blocks_to_come new) items
    ∙ ap (λ l. l ++ behind) (sym line_is) in
    let wrote = c.in_err-put_all.ensures.bytes (i.writer_told w) in
    rw (p.1, p.2, c.in_err-put_all.ensures.fault)
    (Putting-front _ _ _ _ c.as_slice.result.now behind wrote.0 (rw split at (i.lines t)) w wrote.1)

pub loop-block-preserved : goal.loop-block-preserved
loop-block-preserved g c =
    let i = c.loop-block.invariant in
    let old = c.loop-block.reader in
    let new = c.take_block.new.reader in
    let e = c.in_ok-put_all.ensures in
    let gives : GivesBlock old c.in-Some.block new = rw c.in-Some.is at c.in_ok-block.ensures.answer in
    Printing-more (block_line c.args.form) c.args.reader.now old new _ _ _ _ _ _ c.loop-block.n c.in-Some.block _
    c.as_slice.result.now i gives c.in_ok-block.ensures.keeps
    (λ t. rw c.in-Some.is at (c.in_ok-block.ensures.items t))
    (c.as_slice.ensures.value ∙ c.write_block.ensures)
    e.bytes e.writer.told e.writer.cannot (search rules)

pub returns-clause-text : goal.returns-clause-text
returns-clause-text g c = λ t w.
    let i = c.loop-block.invariant in
    let old = c.loop-block.reader in
    let new = c.take_block.new.reader in
    let took : TakesBlock old (Ok None) new = rw c.in_default.is at (c.in_ok-block.ensures.items (i.told t)) in
    Prints-block_end (block_line c.args.form) _ _ _ _ c.loop-block.n old new (i.lines t) w (i.refusal_same t) took

pub returns-clause-cut : goal.returns-clause-cut
returns-clause-cut g c = λ t.
    let i = c.loop-block.invariant in
    let new = c.take_block.new.reader in
    let ends = rw c.in_default.is at c.in_ok-block.ensures.answer in
    let took : TakesBlock c.loop-block.reader (Ok None) new =
    rw c.in_default.is at (c.in_ok-block.ensures.items (i.told t)) in
    Cuts-block_end _ ends.0 c.loop-block.reader new (i.cut_same t) ends.2.stop_is took

pub loop-block-init : goal.loop-block-init
loop-block-init g c = Printing-none (block_line c.args.form) c.args.reader.now _ _

pub returns-in_err-block-clause-walks : goal.returns-in_err-block-clause-walks
returns-in_err-block-clause-walks g c =
    let p = err_from_is_err_and c.from_residual.result c.from_residual.ensures.1 in
    rw (p.1, p.2)
    (walks-fault (block_line c.args.form) _ c.loop-block.reader c.take_block.new.reader _ _ _ _ c.loop-block.n
    c.loop-block.invariant
    c.in_err-block.field-0.0 c.in_err-block.ensures.answer)

pub returns-in_err-put_all-clause-walks : goal.returns-in_err-put_all-clause-walks
returns-in_err-put_all-clause-walks g c =
    let p = err_from_is_err_and c.from_residual-in_err-put_all.result c.from_residual-in_err-put_all.ensures.1 in
    rw (p.1, p.2, c.in_err-put_all.ensures.fault)
    (lasts-given (block_line c.args.form) _ c.loop-block.reader c.take_block.new.reader _ _ _ _ c.loop-block.n
    c.loop-block.invariant
    c.in-Some.block (rw c.in-Some.is at c.in_ok-block.ensures.answer))

pub returns-clause-walks : goal.returns-clause-walks
returns-clause-walks g c =
    walks-end (block_line c.args.form) _ c.loop-block.reader c.take_block.new.reader _ _ _ _ c.loop-block.n
    c.loop-block.invariant
    (rw c.in_default.is at c.in_ok-block.ensures.answer)
