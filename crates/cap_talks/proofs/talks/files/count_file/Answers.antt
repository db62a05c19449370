use Rattle.std.proofs.Common.{arith, ◌∙◌, sym, ap, subst, Bool, IsTrue, Some}
use Rattle.cap_source.specs.Feed.{refusal_of}
use Rattle.cap_source.specs.declared.feeds.FileEnd.{FileEnd}
use Rattle.cap_source.specs.inner.Captures.{capture_feed}
use Rattle.cap_talks.specs.counts.Counting.{packets_of, counted}
use Rattle.cap_talks.proofs.talks.files.count_file.Goals as goal

pub returns-clause-counts : goal.returns-clause-counts
returns-clause-counts g c = λ t.
    let e = c.new-capture.ensures in
    let told : IsTrue (capture_feed c.new-capture.result).told = subst (λ (b : Bool). IsTrue b) (sym e.told) t in
    let a = c.in_ok-counts.ensures.counts told in (
      ap refusal_of (sym e.items) ∙ a.0,
      λ i. record {
        counts = (a.1 ∙ ap (λ l. counted (packets_of l)) e.items) i;
        ending = Some ((c.ending-ending.ensures.ending
            ∙ ap (λ (end : FileEnd). end.ending) (a.2 c.args.file ∙ e.endings c.args.file)) i);
      },
    )

pub returns-in_err-counts-clause-read : goal.returns-in_err-counts-clause-read
returns-in_err-counts-clause-read g c = grind arith

pub returns-in_err-counts-clause-counts : goal.returns-in_err-counts-clause-counts
returns-in_err-counts-clause-counts g c = grind arith
