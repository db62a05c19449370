use Rattle.std.proofs.Common.{◌∙◌}
use Rattle.cap_tool.proofs.LineParts.{entry-is, entry-other}
use Rattle.cap_tool.proofs.digest_lines.entry_by.Goals as goal

pub returns-then-ne : goal.returns-then-ne
returns-then-ne c =
    entry-other c.args.line.now c.args.shown.now c.as_str.result.now c.args.number
    (c.as_str.ensures.value ∙ c.in_ok-escape.ensures.text) c.if-ne.ensures

pub returns : goal.returns
returns c =
    entry-is c.args.line.now c.args.shown.now c.as_str.result.now _ _ c.args.number
    (c.as_str.ensures.value ∙ c.in_ok-escape.ensures.text) c.if-ne.ensures c.in_ok-name.ensures.text
    c.in_ok-text.ensures
