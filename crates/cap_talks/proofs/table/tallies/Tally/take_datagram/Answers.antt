use Rattle.std.proofs.Common.{rules, ℕ, ◌<◌, ◌++◌, length, Some, Err, sym, ap, ◌∙◌, subst, arith}
use Rattle.std.proofs.lemmas.Result.{err_from_is_err_and}
use Rattle.cap_ip.specs.Transport.{transport_of}
use Rattle.cap_talks.specs.table.Rows.{TalksStandFor}
use Rattle.cap_talks.specs.table.Conversations.{frames_of, units_bytes}
use Rattle.cap_talks.proofs.SumLaws.{sum_law}
use Rattle.cap_talks.specs.inner.table.Adding.{is_over}
use Rattle.cap_class.specs.Classes.{class_of}
use Rattle.cap_class.proofs.Seen.{read-datagram}
use Rattle.cap_class.specs.Runs.{taken_of}
use Rattle.cap_talks.specs.inner.table.Looking.{is_plain}
use Rattle.cap_class.specs.Taken.{datagram, stamped_of}
use Rattle.cap_class.specs.Counting.{with_frames}
use Rattle.cap_talks.specs.inner.table.Tallies.{TallyState, LimitBy}
use Rattle.cap_talks.specs.inner.table.TallyView.{tally_view}
use Rattle.cap_talks.specs.table.CountedUnits.{listed, whole_unit}
use Rattle.cap_talks.proofs.Tallying.{unit-seen}
use Rattle.cap_talks.proofs.UnitOrder.{whole-order}
use Rattle.cap_talks.proofs.Exits.{sum-taken, frames-taken, looks-datagram, sound-datagram, numbers-whole, limit-is}
use Rattle.cap_talks.proofs.Exits.{kept-by, limit-by}
use Rattle.cap_talks.proofs.table.tallies.Tally.take_datagram.Goals as goal

pub add_ipv4-requires-clause-frames : goal.add_ipv4-requires-clause-frames
add_ipv4-requires-clause-frames c =
    let t = tally_view c.self.inside in
    let s = c.self.invariant in
    let original : c.stamped_of-stamped.result.original < 4294967296 = search rules in
    let one = numbers-whole c.args.header c.args.captured.now c.stamped_of-stamped.result original in
    omega (
      arith,
      one.0,
      ap (λ u. frames_of (listed u)) c.whole_unit.ensures,
      frames-taken t s.taken s.next (λ us. (sum_law us).frames) s.stands,
      s.few,
    )

pub add_ipv4-requires-clause-bytes : goal.add_ipv4-requires-clause-bytes
add_ipv4-requires-clause-bytes c =
    let t = tally_view c.self.inside in
    let s = c.self.invariant in
    let original : c.stamped_of-stamped.result.original < 4294967296 = search rules in
    let one = numbers-whole c.args.header c.args.captured.now c.stamped_of-stamped.result original in
    omega (
      arith,
      one.0,
      one.1,
      ap (λ u. units_bytes (listed u)) c.whole_unit.ensures,
      s.bytes,
      frames-taken t s.taken s.next (λ us. (sum_law us).frames) s.stands,
      s.few,
    )

pub add_ipv4-requires-clause-unit : goal.add_ipv4-requires-clause-unit
add_ipv4-requires-clause-unit c = rw c.whole_unit.ensures
    (whole-order c.args.header c.args.captured.now c.stamped_of-stamped.result)

pub returns-in_err-add_ipv4-clause-limit : goal.returns-in_err-add_ipv4-clause-limit
returns-in_err-add_ipv4-clause-limit c =
    let p = err_from_is_err_and c.from_residual.result c.from_residual.ensures.1 in
    let t = tally_view c.self.inside in
    let x = taken_of c.args.packet in
    rw (p.1, p.2, ← c.self.view_is) (λ xs h.
    limit-by c.in_err-add_ipv4.field-0.0 _ _
    (limit-is t x xs (Some x) (whole_unit c.args.header c.args.captured.now
    (stamped_of t.place c.args.packet.meta.now)) h
    (unit-seen t.reads x xs (datagram c.args.header c.args.captured.now)
    (c.requires.classify (length xs))
    (read-datagram x (length xs) t.reads c.args.header c.args.captured.now (c.requires.classify (length xs)))
    ∙ ap (λ (n : ℕ). whole_unit c.args.header c.args.captured.now (stamped_of n c.args.packet.meta.now)) (sym h.place)))
    (subst (λ u. LimitBy (Err c.in_err-add_ipv4.field-0.0) (is_over t.talks.rows u))
    (c.whole_unit.ensures ∙ ap (whole_unit c.args.header c.args.captured.now) c.stamped_of-stamped.ensures)
    c.in_err-add_ipv4.ensures.limit))

pub count_frames-requires : goal.count_frames-requires
count_frames-requires c =
    let t = tally_view c.self.inside in
    let s = c.self.invariant in
    record { few = omega (arith, sum-taken t s.taken s.next s.stands, s.few) }

pub invariant_of-self-2 : goal.invariant_of-self-2
invariant_of-self-2 c =
    let t = tally_view c.self.inside in
    let s = c.self.invariant in
    let x = taken_of c.args.packet in
    let e = c.in_ok-add_ipv4.ensures in
    let header = c.args.header in
    let captured = c.args.captured.now in
    let unit = c.whole_unit.ensures ∙ ap (whole_unit header captured) c.stamped_of-stamped.ensures in
    let original : c.stamped_of-stamped.result.original < 4294967296 = search rules in
    let one = numbers-whole header captured c.stamped_of-stamped.result original in
    sound-datagram t x (ap (λ (n : TallyState). n.waiting) c.self.view_is ∙ c.requires.none) header captured
    c.requires.classify
    c.add_ipv4.new.talks _
    (λ us stands. subst (λ u. TalksStandFor c.add_ipv4.new.talks (us ++ listed u)) unit (e.stands us stands))
    (λ es stands. search rules)
    _ (c.count_frames.ensures
    ∙ (λ i. with_frames ((c.class_of.ensures ∙ ap class_of (c.transport-seen.ensures
    ∙ (λ j. transport_of (c.key.ensures j).protocol captured (c.data_length.ensures.value j)))) i) 1 t.classes))
    s (omega (arith, c.requires.few, ap (λ (n : TallyState). n.place) c.self.view_is)) (search rules)
    (omega (
      arith,
      e.frames,
      e.bytes,
      s.bytes,
      one.1,
      ap (λ u. units_bytes (listed u)) c.whole_unit.ensures,
      ap (λ u. frames_of (listed u)) c.whole_unit.ensures,
    ))

pub returns-clause-looks : goal.returns-clause-looks
returns-clause-looks c =
    let t = tally_view c.self.inside in
    let x = taken_of c.args.packet in
    let e = c.in_ok-add_ipv4.ensures in
    let header = c.args.header in
    let captured = c.args.captured.now in
    let unit = c.whole_unit.ensures ∙ ap (whole_unit header captured) c.stamped_of-stamped.ensures in
    rw (← c.self.view_is)
    (looks-datagram t x (ap (λ (n : TallyState). n.waiting) c.self.view_is ∙ c.requires.none) header captured
    c.requires.classify
    c.add_ipv4.new.talks _
    (λ us stands. subst (λ u. TalksStandFor c.add_ipv4.new.talks (us ++ listed u)) unit (e.stands us stands))
    (λ es stands. search rules)
    _ (c.count_frames.ensures
    ∙ (λ i. with_frames ((c.class_of.ensures ∙ ap class_of (c.transport-seen.ensures
    ∙ (λ j. transport_of (c.key.ensures j).protocol captured (c.data_length.ensures.value j)))) i) 1 t.classes))
    (sym (ap (is_over t.talks.rows) unit) ∙ e.limit))

pub returns-in_err-add_ipv4-clause-grows : goal.returns-in_err-add_ipv4-clause-grows
returns-in_err-add_ipv4-clause-grows c =
    let p = err_from_is_err_and c.from_residual.result c.from_residual.ensures.1 in
    rw p.1 (λ xs h. kept-by _ _ (ap is_plain (c.requires.classify (length xs))))
