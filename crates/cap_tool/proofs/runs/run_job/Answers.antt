use Rattle.std.proofs.Common.{Result, Ok, Err, IfOk, map, subst, sym}
use Rattle.cap_bytes.specs.declared.faults.Fault.{Fault}
use Rattle.cap_commands.specs.Jobs.{Does, Finds, finding_in, found_in}
use Rattle.cap_commands.specs.Left.{done_of}
use Rattle.cap_commands.specs.declared.jobs.Done.{Done}
use Rattle.cap_commands.specs.declared.jobs.Finding.{Finding}
use Rattle.cap_tool.specs.Runs.{EndsBy}
use Rattle.cap_tool.proofs.runs.run_job.Goals as goal

-- what a job found that was done, if its files tell their bytes
found : (answer : Result Done Fault) (told : Type 0) (Q : Finding → Type 0) → told
    → IfOk answer (λ done. told → Q done.finding) → IfOk (finding_in answer) Q
found (Ok done) told Q t said = said t
found (Err fault) told Q t said = tt

pub returns-clause-runs : goal.returns-clause-runs
returns-clause-runs g c = λ t w.
    let e = c.job_to-answer.ensures in
    let told = e.writer.told w in
    let answer = finding_in c.job_to-answer.result in
    record {
      answer = answer;
      does = subst (λ held. Does c.args.job.now (map g.R.Device.can_fail c.args.sources.items)
          (map g.R.Source.coming c.args.sources.items) (found_in answer) (g.W.Sink.held c.args.writer.now)
          (done_of answer) held)
          (sym (c.end_in.ensures.held told)) (e.text t w);
      finds = found c.job_to-answer.result _ (Finds c.args.job.now (map g.R.Source.coming c.args.sources.items)) t
          e.finding;
      ends = subst (λ a. EndsBy a (g.W.Outlet.waiting c.end_in.new.writer) c.end_in.result)
          c.split-answer.ensures.finding (c.end_in.ensures.ends told);
    }
