use Rattle.std.proofs.Common.{◌≡◌, None, IsTrue}
use Rattle.cap_source.specs.inner.Captures.{capture_feed, capture_fronts}
use Rattle.cap_check.proofs.Reaching.{Reaching}
use Rattle.cap_digest.proofs.Digesting.{Digesting}
use Rattle.cap_check.proofs.Taking.{Taking}
use Rattle.cap_check.proofs.checking.take_all.Given as goal

-- the packets so far are taken, into the digest too
abbrev pub invariant-loop-meta : goal.invariant-loop-meta
invariant-loop-meta g l = record {
  taking : Taking (capture_feed l.fn.capture) (capture_feed l.capture) l.checked;
  digesting : IsTrue (capture_feed l.fn.capture).told
      → Digesting (capture_feed l.fn.capture) (capture_feed l.capture) (g.D.Digesting.holds l.digest);
  unknown : (capture_feed l.capture).known ≡ None;
  told : IsTrue (capture_fronts l.fn.capture).told → IsTrue (capture_fronts l.capture).told;
  reaching : IsTrue (capture_fronts l.fn.capture).told
      → Reaching (capture_fronts l.fn.capture) (capture_fronts l.capture) l.checked;
}

abbrev pub decreases-loop-meta : goal.decreases-loop-meta
decreases-loop-meta g l = (capture_feed l.capture).left
