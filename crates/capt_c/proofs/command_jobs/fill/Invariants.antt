use Rattle.capt_c.specs.CommandJobs.{KeepsRest, work_left, work_rest}
use Rattle.capt_c.proofs.command_jobs.fill.Given as goal

-- no byte that is to come got lost
abbrev pub invariant-loop-alloc : goal.invariant-loop-alloc
invariant-loop-alloc l = KeepsRest (work_rest l.fn.work) l.fn.made.items l.made.items (work_rest l.work)

abbrev pub decreases-loop-alloc : goal.decreases-loop-alloc
decreases-loop-alloc l = work_left l.work
