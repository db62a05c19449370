use Rattle.std.proofs.Common.{◌+◌, arith}
use Rattle.cap_tool.proofs.LeftOutTexts.{packets-put}
use Rattle.cap_tool.proofs.left_out.packets_line.Goals as goal

pub returns : goal.returns
returns c =
    let before = c.unjoined_and_before-before in
    packets-put c.args.left before.result (before.result + c.from.result) _ _ _ _ _ before.ensures.value
    (omega (arith, c.from.ensures)) c.if-all-eq0.false c.new-line.ensures.text c.prepend_text.ensures.text
    c.prepend_class.ensures.text c.prepend_classes.ensures.text c.prepend_headline.ensures
