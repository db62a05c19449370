use Rattle.std.proofs.Common.{◌≡◌, ◌+◌, ◌∙◌, ap, arith, inr, length, option_map, sym}
use Rattle.cap_tool.proofs.LinesRead.{lines-all, lines-other}
use Rattle.cap_tool.specs.DigestLines.{entry_of}
use Rattle.cap_tool.proofs.digest_lines.lines_in.Goals as goal

pub returns-in-Ok-None-clause-stops : goal.returns-in-Ok-None-clause-stops
returns-in-Ok-None-clause-stops c =
    let lines = c.loop-rest.lines in
    let other = sym (sym (ap (option_map entry_of) c.in-Ok-None.field-0-is) ∙ c.in-Ok-None.ensures) in
    inr (
      c.len.result + 1,
      lines-other c.args.list.now c.loop-rest.rest.now c.split_piece.result.0.now c.split_piece.result.1.now lines.items
          (c.len.result + 1) c.loop-rest.invariant c.split_piece.ensures.pieces other
          (omega (arith, lines.ok.0, c.len.ensures)),
      ap (λ stop. stop.outcome) c.list_line.ensures,
    )

pub returns-clause-lines : goal.returns-clause-lines
returns-clause-lines c =
    let over : length c.loop-rest.rest.now ≡ 0 = grind (arith, c.is_empty.ensures, c.loop-rest-test.false) in
    lines-all c.loop-rest.lines.items c.loop-rest.rest.now _ over c.loop-rest.invariant
