use Rattle.std.proofs.Common.{arith}
use Rattle.cap_talks.specs.inner.table.TallyView.{tally_view}
use Rattle.cap_talks.proofs.Exits.{frames-taken}
use Rattle.cap_talks.proofs.SumLaws.{sum_law}
use Rattle.cap_talks.proofs.table.tallies.Tally.shown.Goals as goal

pub shown_of-requires : goal.shown_of-requires
shown_of-requires c =
    let t = tally_view c.self.inside in
    let s = c.self.invariant in
    omega (arith, s.bytes, frames-taken t s.taken s.next (λ us. (sum_law us).frames) s.stands, s.few)
