use Rattle.std.proofs.Common.{true, false}
use Rattle.cap_tool.proofs.Running.{runs-which}
use Rattle.cap_tool.proofs.runs.run_task.Goals as goal

pub returns-then-is_surveying-clause-runs : goal.returns-then-is_surveying-clause-runs
returns-then-is_surveying-clause-runs g c =
    runs-which (g.S.Opener.gives c.args.system.now) (λ s. record {
      told = g.S.Reader.Source.tells_coming s;
      bytes = g.S.Reader.Source.coming s;
      can_fail = g.S.Reader.Device.can_fail s;
    }) (g.S.System.makes c.args.system.now c.args.job.now) (λ w. record {
      told = g.S.Writer.Sink.tells_held w;
      held = g.S.Writer.Sink.held w;
      waiting = g.S.Writer.Outlet.waiting w;
    }) (g.S.System.commits c.args.system.now) (g.S.System.lacks_input c.args.system.now) c.args.job.now
    c.run_checks.result
    c.is_surveying.result true c.is_surveying.ensures c.if-is_surveying.true
    (rw c.as_slice-names.ensures.value at c.run_checks.ensures.runs)

pub returns-else-is_surveying-clause-runs : goal.returns-else-is_surveying-clause-runs
returns-else-is_surveying-clause-runs g c =
    runs-which (g.S.Opener.gives c.args.system.now) (λ s. record {
      told = g.S.Reader.Source.tells_coming s;
      bytes = g.S.Reader.Source.coming s;
      can_fail = g.S.Reader.Device.can_fail s;
    }) (g.S.System.makes c.args.system.now c.args.job.now) (λ w. record {
      told = g.S.Writer.Sink.tells_held w;
      held = g.S.Writer.Sink.held w;
      waiting = g.S.Writer.Outlet.waiting w;
    }) (g.S.System.commits c.args.system.now) (g.S.System.lacks_input c.args.system.now) c.args.job.now
    c.run_either.result
    c.is_surveying.result false c.is_surveying.ensures c.if-is_surveying.false c.run_either.ensures.runs
