use Rattle.std.proofs.Common.{rules}
use Rattle.std.proofs.lemmas.Result.{err_from_is_err_and}
use Rattle.cap_source.proofs.Onward.{Keeps-trans}
use Rattle.cap_source.specs.inner.Captures.{capture_feed, capture_fronts}
use Rattle.cap_source.specs.inner.SectionState.{progress_of}
use Rattle.cap_digest.proofs.Digesting.{Digesting-end, Digesting-more, Digesting-none}
use Rattle.cap_check.proofs.Reaching.{Reaching-more, Reaching-none, Reaching-stops, told-kept}
use Rattle.cap_check.proofs.Taking.{Fails-taking, Taking-end, Taking-fault, Taking-more, Taking-none}
use Rattle.cap_check.proofs.checking.take_all.Goals as goal

pub loop-meta-init : goal.loop-meta-init
loop-meta-init g c = record {
  taking = Taking-none (capture_feed c.args.capture.now) c.args.checked.now c.requires.few c.requires.nothing;
  digesting = λ t. Digesting-none (capture_feed c.args.capture.now) _ c.requires.empty;
  unknown = c.requires.unknown;
  told = λ t. t;
  reaching = λ t. Reaching-none (capture_fronts c.args.capture.now) c.args.checked.now c.requires.nothing;
}

pub returns-in_err-meta-clause-counts : goal.returns-in_err-meta-clause-counts
returns-in_err-meta-clause-counts g c = λ t.
    let p = err_from_is_err_and c.from_residual.result c.from_residual.ensures.1 in
    rw (p.1, p.2)
    (Taking-fault (capture_feed c.args.capture.now) (capture_feed c.loop-meta.capture)
    (capture_feed c.next_of.new.capture) c.loop-meta.checked c.in_err-meta.field-0.0 c.loop-meta.invariant.taking
    c.in_err-meta.ensures.items t)

pub returns-in_err-meta-clause-stops : goal.returns-in_err-meta-clause-stops
returns-in_err-meta-clause-stops g c = λ t none.
    let p = err_from_is_err_and c.from_residual.result c.from_residual.ensures.1 in
    let i = c.loop-meta.invariant in
    rw (p.1, p.2)
    (Reaching-stops (capture_fronts c.args.capture.now) (capture_fronts c.loop-meta.capture)
    (capture_fronts c.next_of.new.capture) c.loop-meta.checked c.in_err-meta.field-0.0 (i.reaching t)
    (c.in_err-meta.ensures.fronts (i.told t) i.unknown) none)

pub returns-in_err-meta-clause-keeps : goal.returns-in_err-meta-clause-keeps
returns-in_err-meta-clause-keeps g c =
    Keeps-trans (capture_feed c.args.capture.now) (capture_feed c.loop-meta.capture)
    (capture_feed c.next_of.new.capture) c.loop-meta.invariant.taking.keeps c.next_of.ensures.keeps

pub returns-in_err-meta-clause-fails : goal.returns-in_err-meta-clause-fails
returns-in_err-meta-clause-fails g c =
    let p = err_from_is_err_and c.from_residual.result c.from_residual.ensures.1 in
    rw (p.1, p.2)
    (Fails-taking (capture_feed c.args.capture.now) (capture_feed c.loop-meta.capture)
    (capture_feed c.next_of.new.capture) c.loop-meta.checked c.in_err-meta.field-0.0 c.loop-meta.invariant.taking
    c.in_err-meta.ensures.answer)

pub loop-meta-preserved : goal.loop-meta-preserved
loop-meta-preserved g c =
    let mid = c.loop-meta.capture in
    let shown = c.next_of.new.capture in
    let new = c.pass.new.self in
    let i = c.loop-meta.invariant in
    let keeps = Keeps-trans (capture_feed mid) (capture_feed shown) (capture_feed new) c.in_ok-meta.ensures.keeps
    c.pass.ensures.keeps in
    record {
      taking = Taking-more (capture_feed c.args.capture.now) (capture_feed mid) (capture_feed shown)
          (capture_feed new) c.loop-meta.checked c.in-Some.meta i.taking c.in_ok-meta.ensures.keeps
          (λ t. rw c.in-Some.is at (c.in_ok-meta.ensures.items t)) c.pass.ensures.passes c.pass.ensures.keeps
          (search rules) c.take.new.self c.take.ensures.counts;
      digesting = λ t.
          Digesting-more (capture_feed c.args.capture.now) (capture_feed mid) (capture_feed shown) (capture_feed new)
          _ _ c.in-Some.meta (i.digesting t) (i.taking.keeps.told t) c.in_ok-meta.ensures.keeps
          (rw c.in-Some.is at (c.in_ok-meta.ensures.items (i.taking.keeps.told t))) c.pass.ensures.passes
          c.take-in-Some.ensures;
      unknown = c.pass.ensures.passes.known;
      told = λ t. told-kept mid.reader new.reader (progress_of mid.reached) (progress_of new.reached) keeps.told
          (i.told t);
      reaching = λ t.
          Reaching-more (capture_fronts c.args.capture.now) (capture_fronts mid) (capture_fronts shown)
          (capture_fronts new) c.loop-meta.checked c.take.new.self c.in-Some.meta (i.reaching t)
          (rw c.in-Some.is at (c.in_ok-meta.ensures.fronts (i.told t) i.unknown)) c.pass.ensures.fronts
          c.take.ensures.counts;
    }

pub returns-clause-counts : goal.returns-clause-counts
returns-clause-counts g c =
    Taking-end (capture_feed c.args.capture.now) (capture_feed c.loop-meta.capture)
    (capture_feed c.next_of.new.capture) c.loop-meta.checked c.loop-meta.invariant.taking
    (λ t. rw c.in_default.is at (c.in_ok-meta.ensures.items t))

pub returns-clause-digest : goal.returns-clause-digest
returns-clause-digest g c = λ t.
    let i = c.loop-meta.invariant in
    Digesting-end (capture_feed c.args.capture.now) (capture_feed c.loop-meta.capture)
    (capture_feed c.next_of.new.capture) _ (i.digesting t)
    (rw c.in_default.is at (c.in_ok-meta.ensures.items (i.taking.keeps.told t)))

pub returns-clause-keeps : goal.returns-clause-keeps
returns-clause-keeps g c =
    Keeps-trans (capture_feed c.args.capture.now) (capture_feed c.loop-meta.capture)
    (capture_feed c.next_of.new.capture) c.loop-meta.invariant.taking.keeps c.next_of.ensures.keeps
