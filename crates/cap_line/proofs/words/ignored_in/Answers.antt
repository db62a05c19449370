use Rattle.std.proofs.Common.{◌∙◌, ap, codes, map, Some, None}
use Rattle.clap.specs.Words.{found_of}
use Rattle.cap_line.proofs.Rows.{values_given}
use Rattle.cap_line.specs.Jobs.{ignored_by}
use Rattle.cap_line.proofs.words.ignored_in.Goals as goal

pub returns-in-Some : goal.returns-in-Some
returns-in-Some c =
    c.ignored_of.ensures
    ∙ ap ignored_by (values_given (Some (map (λ w. w.now) c.in-Some.words.now)) (found_of c.args.matches.now)
    (codes "ignore") c.in-Some.ensures)

pub returns-in-None : goal.returns-in-None
returns-in-None c = ap ignored_by (values_given None (found_of c.args.matches.now) (codes "ignore") c.in-None.ensures)
