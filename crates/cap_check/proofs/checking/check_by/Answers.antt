use Rattle.std.proofs.Common.{◌∙◌, List, refl, sym, ap}
use Rattle.cap_digest.specs.Canonical.{canonical_text}
use Rattle.cap_digest.specs.DigestText.{digest_if}
use Rattle.cap_source.specs.Feed.{Item, refusal_of}
use Rattle.cap_source.specs.inner.Captures.{capture_feed}
use Rattle.cap_check.specs.Checking.{checked_after, nothing_checked}
use Rattle.cap_check.proofs.checking.check_by.Goals as goal

pub returns-in-Ok-clause-checked : goal.returns-in-Ok-clause-checked
returns-in-Ok-clause-checked g c = (
  tt,
  λ t.
      let e = c.new-capture.ensures in
      let took = c.in-Ok.ensures.counts (rw e.told t) in (
        sym (ap refusal_of e.items) ∙ took.0,
        took.1 ∙ ap (checked_after nothing_checked) e.items,
        c.file_end.ensures.end c.args.file ∙ (took.2 c.args.file ∙ e.endings c.args.file),
      ),
  λ t.
      let e = c.new-capture.ensures in
      c.finish-digest.ensures (canonical_text (capture_feed c.new-capture.result).items)
      (c.in-Ok.ensures.digest (rw e.told t))
      ∙ ap (λ (items : List Item). digest_if g.D.Digesting.ASKED (canonical_text items)) e.items,
)

pub returns-in-Err-Refused-clause-checked : goal.returns-in-Err-Refused-clause-checked
returns-in-Err-Refused-clause-checked g c = (
  tt,
  λ t.
      let e = c.new-capture.ensures in
      let took = rw c.in-Err-Refused.field-0-is at (c.in-Err-Refused.ensures.counts (rw e.told t)) in (
        sym (ap refusal_of e.items) ∙ took.0,
        took.1 ∙ ap (checked_after nothing_checked) e.items,
        c.file_end-in-Err-Refused.ensures.end c.args.file ∙ (took.2 c.args.file ∙ e.endings c.args.file),
      ),
  λ t. refl,
)
