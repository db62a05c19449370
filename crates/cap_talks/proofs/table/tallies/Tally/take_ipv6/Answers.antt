use Rattle.std.proofs.Common.{rules, ℕ, ◌<◌, ◌++◌, Some, Err, sym, ap, ◌∙◌, subst, arith}
use Rattle.std.proofs.lemmas.Result.{err_from_is_err_and}
use Rattle.cap_class.specs.Counting.{with_frames}
use Rattle.cap_class.specs.Ipv6.{read_in}
use Rattle.cap_class.specs.Runs.{taken_of}
use Rattle.cap_class.specs.Taken.{stamped_of}
use Rattle.cap_ipv6.specs.Seen.{packet_seen}
use Rattle.cap_talks.specs.table.Rows.{TalksStandFor}
use Rattle.cap_talks.specs.table.Conversations.{frames_of, units_bytes}
use Rattle.cap_talks.specs.inner.table.Adding.{is_over}
use Rattle.cap_talks.specs.inner.table.Tallies.{LimitBy, TallyState}
use Rattle.cap_talks.specs.inner.table.TallyView.{tally_view}
use Rattle.cap_talks.specs.table.CountedUnits.{ipv6_unit, listed}
use Rattle.cap_talks.proofs.Exits.{frames-taken, limit-by, limit-is, looks-ipv6, numbers-ipv6, sound-ipv6, sum-taken}
use Rattle.cap_talks.proofs.SumLaws.{sum_law}
use Rattle.cap_talks.proofs.Tallying.{unit-read}
use Rattle.cap_talks.proofs.UnitOrder.{ipv6-order}
use Rattle.cap_talks.proofs.table.tallies.Tally.take_ipv6.Goals as goal

pub add_unit-requires-clause-frames : goal.add_unit-requires-clause-frames
add_unit-requires-clause-frames c =
    let t = tally_view c.self.inside in
    let s = c.self.invariant in
    let original : c.stamped_of-stamped.result.original < 4294967296 = search rules in
    let one = numbers-ipv6 (packet_seen c.args.read) c.stamped_of-stamped.result original in
    omega (
      arith,
      one.0,
      ap (λ u. frames_of (listed u)) c.ipv6_unit.ensures,
      frames-taken t s.taken s.next (λ us. (sum_law us).frames) s.stands,
      s.few,
    )

pub add_unit-requires-clause-bytes : goal.add_unit-requires-clause-bytes
add_unit-requires-clause-bytes c =
    let t = tally_view c.self.inside in
    let s = c.self.invariant in
    let original : c.stamped_of-stamped.result.original < 4294967296 = search rules in
    let one = numbers-ipv6 (packet_seen c.args.read) c.stamped_of-stamped.result original in
    omega (
      arith,
      one.0,
      one.1,
      ap (λ u. units_bytes (listed u)) c.ipv6_unit.ensures,
      s.bytes,
      frames-taken t s.taken s.next (λ us. (sum_law us).frames) s.stands,
      s.few,
    )

pub add_unit-requires-clause-unit : goal.add_unit-requires-clause-unit
add_unit-requires-clause-unit c =
    rw c.ipv6_unit.ensures (ipv6-order (packet_seen c.args.read) c.stamped_of-stamped.result)

pub returns-in_err-add_unit-clause-limit : goal.returns-in_err-add_unit-clause-limit
returns-in_err-add_unit-clause-limit c =
    let p = err_from_is_err_and c.from_residual.result c.from_residual.ensures.1 in
    let t = tally_view c.self.inside in
    let x = taken_of c.args.packet in
    let r = packet_seen c.args.read in
    let some = ap (λ (n : TallyState). read_in n.reads x) c.self.view_is ∙ c.requires.read in
    rw (p.1, p.2, ← c.self.view_is) (λ xs h.
    limit-by c.in_err-add_unit.field-0.0 _ _
    (limit-is t x xs (Some x) (ipv6_unit r (stamped_of t.place c.args.packet.meta.now)) h
    (unit-read t.reads x xs r some
    ∙ ap (λ (n : ℕ). ipv6_unit r (stamped_of n c.args.packet.meta.now)) (sym h.place)))
    (subst (λ u. LimitBy (Err c.in_err-add_unit.field-0.0) (is_over t.talks.rows u))
    (c.ipv6_unit.ensures ∙ ap (ipv6_unit r) c.stamped_of-stamped.ensures)
    c.in_err-add_unit.ensures.limit))

pub count_frames-requires : goal.count_frames-requires
count_frames-requires c =
    let t = tally_view c.self.inside in
    let s = c.self.invariant in
    record { few = omega (arith, sum-taken t s.taken s.next s.stands, s.few) }

pub invariant_of-self-2 : goal.invariant_of-self-2
invariant_of-self-2 c =
    let t = tally_view c.self.inside in
    let s = c.self.invariant in
    let x = taken_of c.args.packet in
    let e = c.in_ok-add_unit.ensures in
    let r = packet_seen c.args.read in
    let some = ap (λ (n : TallyState). read_in n.reads x) c.self.view_is ∙ c.requires.read in
    let unit = c.ipv6_unit.ensures ∙ ap (ipv6_unit r) c.stamped_of-stamped.ensures in
    let original : c.stamped_of-stamped.result.original < 4294967296 = search rules in
    let one = numbers-ipv6 r c.stamped_of-stamped.result original in
    sound-ipv6 t x (ap (λ (n : TallyState). n.waiting) c.self.view_is ∙ c.requires.none) c.args.class
    c.requires.classify r some c.add_unit.new.talks
    (λ us stands. subst (λ u. TalksStandFor c.add_unit.new.talks (us ++ listed u)) unit (e.stands us stands))
    _ (c.count_frames.ensures ∙ ap (λ k. with_frames k 1 t.classes) c.ipv6_class.ensures)
    s (omega (arith, c.requires.few, ap (λ (n : TallyState). n.place) c.self.view_is))
    (omega (
      arith,
      e.frames,
      e.bytes,
      s.bytes,
      one.1,
      ap (λ u. units_bytes (listed u)) c.ipv6_unit.ensures,
      ap (λ u. frames_of (listed u)) c.ipv6_unit.ensures,
    ))

pub returns-clause-looks : goal.returns-clause-looks
returns-clause-looks c =
    let t = tally_view c.self.inside in
    let x = taken_of c.args.packet in
    let e = c.in_ok-add_unit.ensures in
    let r = packet_seen c.args.read in
    let some = ap (λ (n : TallyState). read_in n.reads x) c.self.view_is ∙ c.requires.read in
    let unit = c.ipv6_unit.ensures ∙ ap (ipv6_unit r) c.stamped_of-stamped.ensures in
    rw (← c.self.view_is)
    (looks-ipv6 t x (ap (λ (n : TallyState). n.waiting) c.self.view_is ∙ c.requires.none) c.args.class
    c.requires.classify r some c.add_unit.new.talks
    (λ us stands. subst (λ u. TalksStandFor c.add_unit.new.talks (us ++ listed u)) unit (e.stands us stands))
    _ (c.count_frames.ensures ∙ ap (λ k. with_frames k 1 t.classes) c.ipv6_class.ensures)
    (sym (ap (is_over t.talks.rows) unit) ∙ e.limit))
