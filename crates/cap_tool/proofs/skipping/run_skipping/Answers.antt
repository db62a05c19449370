use Rattle.std.proofs.Common.{inr, subst}
use Rattle.cap_tool.proofs.skipping.run_skipping.Goals as goal

pub returns-clause-runs : goal.returns-clause-runs
returns-clause-runs g c =
    let makes = g.S.System.makes c.args.system.now c.args.job.now in
    inr (record {
      writer = c.in_ok-writer.writer;
      name = c.in_ok-writer.name;
      written = c.skip_into-ended.new.writer;
      ended = c.skip_into-ended.result;
      made = subst (λ made. makes _ made) c.in_ok-writer.was c.create.ensures.makes;
      skips = c.skip_into-ended.ensures.skips;
      committed = c.commit.ensures.commits;
    })
