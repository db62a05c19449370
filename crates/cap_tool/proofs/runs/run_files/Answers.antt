use Rattle.std.proofs.Common.{Ok, arith, inr, subst}
use Rattle.std.proofs.lemmas.List.{length-map}
use Rattle.cap_tool.proofs.Running.{RunsJob-as}
use Rattle.cap_tool.proofs.runs.run_files.Goals as goal

pub returns-clause-runs : goal.returns-clause-runs
returns-clause-runs g c =
    let makes = g.S.System.makes c.args.system.now c.args.job.now in
    inr (record {
      readers = c.in_ok-inputs.inputs.sources.items;
      ids = c.in_ok-inputs.inputs.ids.items;
      writer = c.in_ok-writer.writer;
      name = c.in_ok-writer.name;
      written = c.run_job-ended.new.writer;
      ended = c.with_read_cause.result;
      opened = c.in_ok-inputs.ensures.opened;
      all = omega (
        arith,
        c.in_ok-inputs.ensures.len,
        c.in_ok-inputs.inputs.sources.ok.0,
        c.args.job.now.files.ok.0,
        length-map c.args.job.now.files.items (λ n. n.now),
      );
      made = subst (λ ids. makes ids (Ok (c.in_ok-writer.writer, c.in_ok-writer.name))) c.as_slice.ensures.value
          (subst (λ made. makes c.as_slice.result.now made) c.in_ok-writer.was c.create.ensures.makes);
      runs = λ t w. RunsJob-as _ _ _ _ _ _ _ _ c.with_read_cause.ensures.ended (c.run_job-ended.ensures.runs t w);
      committed = c.commit.ensures.commits;
    })
