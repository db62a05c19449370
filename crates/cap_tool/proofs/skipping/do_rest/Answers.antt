use Rattle.std.proofs.Common.{◌∙◌, ◌<◌, ap, arith, map, vec_len}
use Rattle.std.proofs.lemmas.List.{length-map}
use Rattle.cap_tool.proofs.Running.{rest-kept, runs-over}
use Rattle.cap_tool.specs.Skipped.{ended_skipping}
use Rattle.cap_tool.proofs.skipping.do_rest.Goals as goal

pub returns-clause-runs : goal.returns-clause-runs
returns-clause-runs g c = λ t w.
    let sources = c.args.inputs.sources in
    let some : 0 < vec_len c.args.kept = grind (arith, c.is_empty.ensures, c.if-is_empty.false) in
    rest-kept c.args.job.now c.args.refusals.now (map g.R.Device.can_fail sources.items)
    (map g.R.Source.coming sources.items) _ _ _ _
    (omega (
      arith,
      some,
      c.requires.sources,
      sources.ok.0,
      length-map sources.items g.R.Source.coming,
    ))
    (record {
      done = c.run_job-ended.result;
      runs = runs-over c.args.job.now c.over.result _ _ _ _ _ _ _ c.over.ensures (c.run_job-ended.ensures.runs t w);
      ends = c.end_skipping.ensures
          ∙ ap (ended_skipping c.args.refusals.now) c.with_read_cause-ended.ensures.ended;
    })
