use Rattle.std.proofs.Common.{length, arith}
use Rattle.cap_source.proofs.Blocks.{total_least, padded_body}
use Rattle.cap_bytes.proofs.Parsing.{from_some}
use Rattle.cap_source.proofs.pcapng.read_content.Goals as goal

pub content_of-requires-clause-least : goal.content_of-requires-clause-least
content_of-requires-clause-least g c =
    total_least c.args.block.kind c.args.block.total (length c.body.result.now) c.requires.allowed
    (from_some _ _ _ c.body.ensures.body c.requires.size)

pub content_of-requires-clause-padded : goal.content_of-requires-clause-padded
content_of-requires-clause-padded g c = grind (arith, padded_body, from_some)
