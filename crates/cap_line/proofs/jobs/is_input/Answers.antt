use Rattle.std.proofs.Common.{◌∙◌, map}
use Rattle.cap_line.proofs.FileNames.{named_among, also_named}
use Rattle.cap_line.proofs.jobs.is_input.Goals as goal

pub returns-else-eq : goal.returns-else-eq
returns-else-eq c =
    rw c.in-Some.is
    (also_named c.in-Some.out.now (map (λ f. f.now) c.args.files.now) c.is_named.result c.if-eq.ensures
    (c.is_named.ensures ∙ named_among c.in-Some.out.now c.args.files.now))
