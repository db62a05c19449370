use Rattle.std.proofs.Common.{map, refl}
use Rattle.capt_c.specs.CommandJobs.{job_rest}
use Rattle.capt_c.specs.Texts.{file_bytes}
use Rattle.capt_c.proofs.AllTold.{all_told}
use Rattle.capt_c.proofs.JobAsking.{begins-whole}
use Rattle.capt_c.proofs.job_begins.whole.Goals as goal

pub returns-clause-begins : goal.returns-clause-begins
returns-clause-begins c =
    let sources = c.in_ok-sources.sources.items in
    begins-whole c.args.asked.now c.order_of.result c.format_of.result sources (map file_bytes c.args.files.now)
    c.job_to.result c.in_ok-end.end _ _ c.into_bytes.result.items (job_rest c.new.result) c.order_of.ensures
    c.format_of.ensures c.in_ok-sources.ensures.bytes c.in_ok-end.ensures.end c.new-sink.ensures.held
    c.into_bytes.ensures c.new.ensures (c.job_to.ensures.text (all_told sources) refl)
