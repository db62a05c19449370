use Rattle.std.proofs.Common.{rules, ◌≤◌, ◌++◌, sym, ap, ◌∙◌, subst, arith}
use Rattle.std.proofs.lemmas.Result.{err_from_is_err_and}
use Rattle.cap_talks.specs.table.Rows.{TalksStandFor}
use Rattle.cap_talks.specs.table.Conversations.{frames_of, units_bytes}
use Rattle.cap_talks.proofs.SumLaws.{sum_law}
use Rattle.cap_talks.specs.inner.table.Adding.{is_over}
use Rattle.cap_class.specs.Counting.{with_group}
use Rattle.cap_talks.specs.inner.table.Tallies.{TallyState, WaitingFits, counted_one}
use Rattle.cap_talks.specs.inner.table.TallyView.{tally_view}
use Rattle.cap_talks.specs.table.CountedUnits.{listed}
use Rattle.cap_talks.proofs.UnitOrder.{waiting-order}
use Rattle.cap_talks.proofs.Exits.{sum-taken, frames-taken, joined-taken, numbers-joined, enough-for, stands-joined}
use Rattle.cap_talks.proofs.Exits.{sound-joined, limit-waiting, limit-by, waiting-kept}
use Rattle.cap_talks.proofs.table.tallies.Tally.take_waiting.Goals as goal

pub add_unit-requires-clause-frames : goal.add_unit-requires-clause-frames
add_unit-requires-clause-frames c =
    let t = tally_view c.self.inside in
    let s = c.self.invariant in
    let d = c.in-Some.datagram in
    let fits = subst (λ w. WaitingFits w t.place) c.in-Some.is s.fits in
    omega (
      arith,
      (numbers-joined d fits.bytes).0,
      ap (λ u. frames_of (listed u)) c.joined_unit.ensures,
      frames-taken t s.taken s.next (λ us. (sum_law us).frames) s.stands,
      enough-for t d s.taken s.next c.in-Some.is s.stands,
      sum-taken t s.taken s.next s.stands,
      s.few,
    )

pub add_unit-requires-clause-bytes : goal.add_unit-requires-clause-bytes
add_unit-requires-clause-bytes c =
    let t = tally_view c.self.inside in
    let s = c.self.invariant in
    let d = c.in-Some.datagram in
    let fits = subst (λ w. WaitingFits w t.place) c.in-Some.is s.fits in
    let both = numbers-joined d fits.bytes in
    omega (
      arith,
      both.0,
      both.1,
      s.bytes,
      ap (λ u. units_bytes (listed u)) c.joined_unit.ensures,
      frames-taken t s.taken s.next (λ us. (sum_law us).frames) s.stands,
      enough-for t d s.taken s.next c.in-Some.is s.stands,
      sum-taken t s.taken s.next s.stands,
      s.few,
    )

pub add_unit-requires-clause-unit : goal.add_unit-requires-clause-unit
add_unit-requires-clause-unit c =
    let s = c.self.invariant in
    rw c.joined_unit.ensures
    (waiting-order (tally_view c.self.inside) c.in-Some.datagram s.taken s.next c.in-Some.is s.stands)

pub returns-in_err-add_unit-clause-limit : goal.returns-in_err-add_unit-clause-limit
returns-in_err-add_unit-clause-limit c = grind (arith, err_from_is_err_and, limit-by, limit-waiting)

pub with_group-self-inside-requires-clause-unjoined : goal.with_group-self-inside-requires-clause-unjoined
with_group-self-inside-requires-clause-unjoined c =
    search (enough-for, c.self.invariant.taken, c.self.invariant.next, c.in-Some.is, c.self.invariant.stands)

pub with_group-self-inside-requires-clause-few : goal.with_group-self-inside-requires-clause-few
with_group-self-inside-requires-clause-few c = search (rules, sum-taken)

one_most : (c : _) → counted_one c ≤ 1
one_most c = grind arith

pub overflow_add-self : goal.overflow_add-self
overflow_add-self c = search (rules, joined-taken, one_most)

pub invariant_of-self-2 : goal.invariant_of-self-2
invariant_of-self-2 c =
    let t = tally_view c.self.inside in
    let s = c.self.invariant in
    let d = c.in-Some.datagram in
    let e = c.in_ok-add_unit.ensures in
    let fits = subst (λ w. WaitingFits w t.place) c.in-Some.is s.fits in
    let both = numbers-joined d fits.bytes in
    let counted = c.counted_one.ensures ∙ ap counted_one c.joined_class-class.ensures in
    rw counted
    (sound-joined t d c.in-Some.is c.add_unit.new.talks
    (λ us stands. subst (λ u. TalksStandFor c.add_unit.new.talks (us ++ listed u)) c.joined_unit.ensures
    (e.stands us stands))
    c.with_group-self-inside.result (c.with_group-self-inside.ensures
    ∙ ap (λ k. with_group k d.frames t.classes) c.joined_class-class.ensures)
    s (omega (arith, c.requires.few, ap (λ (n : TallyState). n.place) c.self.view_is))
    (omega (
      arith,
      e.frames,
      e.bytes,
      s.bytes,
      both.1,
      ap (λ u. units_bytes (listed u)) c.joined_unit.ensures,
      ap (λ u. frames_of (listed u)) c.joined_unit.ensures,
    )))

pub returns-clause-stands : goal.returns-clause-stands
returns-clause-stands c =
    let t = tally_view c.self.inside in
    let d = c.in-Some.datagram in
    let e = c.in_ok-add_unit.ensures in
    let counted = c.counted_one.ensures ∙ ap counted_one c.joined_class-class.ensures in
    rw (counted, ← c.self.view_is)
    (stands-joined t d c.in-Some.is c.add_unit.new.talks
    (λ us stands. subst (λ u. TalksStandFor c.add_unit.new.talks (us ++ listed u)) c.joined_unit.ensures
    (e.stands us stands))
    c.with_group-self-inside.result (c.with_group-self-inside.ensures
    ∙ ap (λ k. with_group k d.frames t.classes) c.joined_class-class.ensures)
    (sym (ap (is_over t.talks.rows) c.joined_unit.ensures) ∙ e.limit))

pub returns-in_err-add_unit-clause-grows : goal.returns-in_err-add_unit-clause-grows
returns-in_err-add_unit-clause-grows c = grind (arith, err_from_is_err_and, waiting-kept)
