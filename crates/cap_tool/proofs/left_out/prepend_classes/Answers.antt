use Rattle.std.proofs.Common.{◌+◌, arith}
use Rattle.cap_tool.proofs.LeftOutTexts.{classes-put}
use Rattle.cap_tool.proofs.left_out.prepend_classes.Goals as goal

pub returns-clause-text : goal.returns-clause-text
returns-clause-text c =
    let link = c.from-link.result in
    let network = link + c.from.result in
    let short = network + c.from-2.result in
    let cut = short + c.from-3.result in
    let bad = cut + c.from-4.result in
    let l = c.from-link.ensures in
    let w = c.from.ensures in
    let s = c.from-2.ensures in
    let t = c.from-3.ensures in
    classes-put c.args.classes.now link network short cut bad _ _ _ _ _ _ _ l (omega (arith, l, w))
    (omega (arith, l, w, s)) (omega (arith, l, w, s, t)) (omega (arith, l, w, s, t, c.from-4.ensures))
    c.prepend_class.ensures.text c.prepend_class-2.ensures.text c.prepend_class-3.ensures.text
    c.prepend_class-4.ensures.text c.prepend_class-5.ensures.text c.prepend_class-6.ensures.text
