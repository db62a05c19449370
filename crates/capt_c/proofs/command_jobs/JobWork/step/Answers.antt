use Rattle.capt_c.proofs.command_jobs.JobWork.step.Goals as goal

pub returns-in-Whole-clause-fewer : goal.returns-in-Whole-clause-fewer
returns-in-Whole-clause-fewer c = λ none. absurd (c.end_of.ensures.ends none)
