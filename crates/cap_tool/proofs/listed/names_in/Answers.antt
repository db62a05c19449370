use Rattle.std.proofs.Common.{◌≡◌, length, arith}
use Rattle.cap_tool.proofs.ListedNames.{listed-all}
use Rattle.cap_tool.proofs.listed.names_in.Goals as goal

pub returns : goal.returns
returns c =
    let over : length c.loop-rest.rest.now ≡ 0 = grind (arith, c.is_empty.ensures, c.loop-rest-test.false) in
    listed-all _ _ c.loop-rest.rest.now over c.loop-rest.invariant
