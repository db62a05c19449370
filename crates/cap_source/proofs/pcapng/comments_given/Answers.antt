use Rattle.std.proofs.Common.{unwrap_or, [], arith, sym, ◌∙◌}
use Rattle.cap_bytes.proofs.Parsing.{from_some}
use Rattle.cap_source.proofs.Blocks.{padded_body}
use Rattle.cap_source.proofs.Commenting.{no-comments}
use Rattle.cap_source.proofs.pcapng.comments_given.Goals as goal

pub comments_of-requires : goal.comments_of-requires
comments_of-requires g c = record { padded = grind (arith, padded_body, from_some) }

pub returns-else-is_known-clause-count : goal.returns-else-is_known-clause-count
returns-else-is_known-clause-count g c =
    no-comments c.args.block.kind c.args.block.order c.args.content (unwrap_or c.args.reader.now.lent [])
    (c.requires.other (sym c.is_known.ensures ∙ c.if-is_known.false))
