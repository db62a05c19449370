use Rattle.std.proofs.Common.{◌≡◌, ◌+◌, length, sym, subst}
use Rattle.cap_source.proofs.Blocks.{IsFit, content_fit, padded_body, total_least}
use Rattle.cap_source.proofs.FedBodies.{body-size, says-within}
use Rattle.cap_source.proofs.fed.take_block.Goals as goal

pub content_of-said-requires-clause-least : goal.content_of-said-requires-clause-least
content_of-said-requires-clause-least c =
    let size : length c.body_of-body.result.now + 12 ≡ c.args.block.total =
    rw c.body_of-body.ensures
    (body-size c.args.block.total c.args.bytes.now c.requires.least c.requires.whole) in
    total_least c.args.block.kind c.args.block.total (length c.body_of-body.result.now) c.requires.allowed size

pub content_of-said-requires-clause-padded : goal.content_of-said-requires-clause-padded
content_of-said-requires-clause-padded c =
    let size : length c.body_of-body.result.now + 12 ≡ c.args.block.total =
    rw c.body_of-body.ensures
    (body-size c.args.block.total c.args.bytes.now c.requires.least c.requires.whole) in
    padded_body c.args.block.kind c.args.block.total (length c.body_of-body.result.now) c.requires.allowed size

pub take_said-requires-clause-within : goal.take_said-requires-clause-within
take_said-requires-clause-within c =
    let size : length c.body_of-body.result.now + 12 ≡ c.args.block.total =
    rw c.body_of-body.ensures
    (body-size c.args.block.total c.args.bytes.now c.requires.least c.requires.whole) in
    says-within (length c.deref.result.now) c.args.block c.body_of-body.result.now c.content_of-said.result size
    (subst (IsFit (length c.deref.result.now) c.body_of-body.result.now) (sym c.content_of-said.ensures)
    (content_fit c.deref.result.now c.args.block.kind c.args.block.order c.body_of-body.result.now))
