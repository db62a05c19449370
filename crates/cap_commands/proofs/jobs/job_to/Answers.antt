use Rattle.std.proofs.lemmas.Grind.{common_steps}
use Rattle.std.proofs.Common.{IsTrue, length, map, sym, rules, arith}
use Rattle.std.proofs.lemmas.List.{length-map}
use Rattle.std.specs.List.{list_all}
use Rattle.cap_commands.proofs.Leaving.{report-job}
use Rattle.cap_commands.proofs.jobs.job_to.Goals as goal

pub returns-in-List-clause-text : goal.returns-in-List-clause-text
returns-in-List-clause-text c = search rules

pub returns-in-Blocks-clause-text : goal.returns-in-Blocks-clause-text
returns-in-Blocks-clause-text c = search rules

pub returns-in-Digest-clause-text : goal.returns-in-Digest-clause-text
returns-in-Digest-clause-text c = search rules

pub returns-in-Info-clause-text : goal.returns-in-Info-clause-text
returns-in-Info-clause-text c = search rules

pub returns-in-Report-clause-text : goal.returns-in-Report-clause-text
returns-in-Report-clause-text c = grind (arith, common_steps)

pub returns-in-Merge-clause-text : goal.returns-in-Merge-clause-text
returns-in-Merge-clause-text c = search rules

pub returns-in-Join-clause-text : goal.returns-in-Join-clause-text
returns-in-Join-clause-text c = search rules

pub returns-in-Convert-clause-text : goal.returns-in-Convert-clause-text
returns-in-Convert-clause-text c = search rules

pub returns-in-Report-clause-left : goal.returns-in-Report-clause-left
returns-in-Report-clause-left g c =
    report-job c.args.job.now c.tail_of-tail.result (map g.R.Source.coming c.args.sources.items) c.args.counts
    (IsTrue (list_all g.R.Source.tells_coming c.args.sources.items)) c.report_with.result
    (length c.args.sources.items) c.reported.result c.in-Report.is c.tail_of-tail.ensures
    (sym (length-map c.args.sources.items g.R.Source.coming)) c.reported.ensures
    c.report_with.ensures.cuts c.report_with.ensures.networks
