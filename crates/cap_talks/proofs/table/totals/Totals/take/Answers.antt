use Rattle.std.proofs.Common.{◌≡◌, ◌+◌, ◌-◌, ◌^◌, ◌<◌, [], None, length, arith, rules, refl, ap, ◌∙◌, subst}
use Rattle.std.specs.Prelude.{slice_set, slice_index_or}
use Rattle.cap_talks.specs.counts.Counting.{counted, with_packet}
use Rattle.cap_class.specs.Taken.{taken}
use Rattle.cap_talks.specs.inner.table.Totals.{TotalsState}
use Rattle.cap_talks.specs.inner.table.TotalsView.{totals_view}
use Rattle.cap_talks.proofs.Totaling.{has-room, stands-more, sound-more, refilled, bytes-few, truncated-all, from-bool}
use Rattle.cap_talks.proofs.table.totals.Totals.take.Goals as goal

pub take_at-requires-clause-room : goal.take_at-requires-clause-room
take_at-requires-clause-room c = grind (arith, has-room)

pub overflow_add-self-2 : goal.overflow_add-self-2
overflow_add-self-2 c = grind (arith, bytes-few)

pub overflow_add-self-3 : goal.overflow_add-self-3
overflow_add-self-3 c = grind (arith, truncated-all)

pub invariant_of-self : goal.invariant_of-self
invariant_of-self c =
    let t = totals_view c.self.inside in
    let few : t.packets < 2 ^ 45 = omega (arith, ap (λ (n : TotalsState). n.packets) c.self.view_is, c.requires.few) in
    let within : c.args.meta.now.file - 1 < length t.files =
    omega (arith, ap (λ (n : TotalsState). length n.files) c.self.view_is, c.requires.first, c.requires.last) in
    let place : c.args.meta.now.file ≡ 1 + (c.args.meta.now.file - 1) = omega (arith, c.requires.first) in
    let short : c.args.meta.now.original < 2 ^ 32 = search rules in
    let len : length c.take_at.new.files ≡ length t.files = c.take_at.auto.files
    ∙ ap length c.as_mut_slice.ensures.value in
    let files = refilled t.files c.take_at.new.files len in
    let set = subst (λ l. c.take_at.new.files ≡ slice_set l (c.args.meta.now.file - 1)
    (with_packet (slice_index_or l (c.args.meta.now.file - 1) (counted [])) c.args.meta.now))
    c.as_mut_slice.ensures.value c.take_at.ensures in
    sound-more t _ (taken None c.args.meta.now c.args.frame.now) c.self.invariant
    (λ xs s. stands-more t _ (taken None c.args.meta.now c.args.frame.now) xs (c.args.meta.now.file - 1) place within
    (files ∙ set) (ap length files ∙ len)
    refl (ap (λ n. t.bytes + n) c.from.ensures) (ap (λ n. t.truncated + n) (c.from-2.ensures ∙ from-bool _)) s)
    few refl short (ap length files ∙ len)

pub returns-clause-stands : goal.returns-clause-stands
returns-clause-stands c =
    let t = totals_view c.self.inside in
    let within : c.args.meta.now.file - 1 < length t.files =
    omega (arith, ap (λ (n : TotalsState). length n.files) c.self.view_is, c.requires.first, c.requires.last) in
    let place : c.args.meta.now.file ≡ 1 + (c.args.meta.now.file - 1) = omega (arith, c.requires.first) in
    let len : length c.take_at.new.files ≡ length t.files = c.take_at.auto.files
    ∙ ap length c.as_mut_slice.ensures.value in
    let files = refilled t.files c.take_at.new.files len in
    let set = subst (λ l. c.take_at.new.files ≡ slice_set l (c.args.meta.now.file - 1)
    (with_packet (slice_index_or l (c.args.meta.now.file - 1) (counted [])) c.args.meta.now))
    c.as_mut_slice.ensures.value c.take_at.ensures in
    rw (← c.self.view_is)
    (λ clock xs s. stands-more t _ (taken clock c.args.meta.now c.args.frame.now) xs
    (c.args.meta.now.file - 1) place within (files ∙ set) (ap length files ∙ len)
    refl (ap (λ n. t.bytes + n) c.from.ensures) (ap (λ n. t.truncated + n) (c.from-2.ensures ∙ from-bool _)) s)
