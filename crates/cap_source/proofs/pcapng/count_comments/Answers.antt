use Rattle.std.proofs.Common.{unwrap_or, [], sym, ◌∙◌}
use Rattle.cap_source.proofs.Commenting.{other-said}
use Rattle.cap_source.proofs.pcapng.count_comments.Goals as goal

pub comments_given-requires-clause-other : goal.comments_given-requires-clause-other
comments_given-requires-clause-other g c = λ unknown.
    other-said c.args.reached.now.interfaces.items c.args.block.kind c.args.block.order
    (unwrap_or c.args.reader.now.lent []) c.in-Some-Ok.content unknown (sym c.in-Some-Ok.is-1 ∙ c.requires.says)
