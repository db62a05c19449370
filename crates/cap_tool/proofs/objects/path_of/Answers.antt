use Rattle.cap_tool.proofs.Paths.{path_at}
use Rattle.cap_tool.proofs.objects.path_of.Goals as goal

pub returns : goal.returns
returns c =
    rw c.copied.ensures
    (path_at c.args.paths.now c.args.file c.in_ok-place.place c.get.result c.in_ok-place.ensures.0
    c.in_ok-place.ensures.1 c.get.ensures.lookup)
