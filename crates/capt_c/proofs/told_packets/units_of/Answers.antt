use Rattle.std.proofs.Common.{sym, ◌∙◌, true≢false}
use Rattle.capt_c.proofs.ToldTimes.{none-counted, none-in-units, told-time}
use Rattle.capt_c.proofs.told_packets.units_of.Goals as goal

pub returns-then-not-is_in_units-clause-none : goal.returns-then-not-is_in_units-clause-none
returns-then-not-is_in_units-clause-none c = λ e interface units is tells.
    none-in-units c.args.packet.now interface units c.if-packet-eq0.false
    (λ within. true≢false (sym (c.is_in_units.ensures.1 within) ∙ c.if-not-is_in_units.true)) is tells

pub returns-in-Some-clause-some : goal.returns-in-Some-clause-some
returns-in-Some-clause-some c =
    let within = c.is_in_units.ensures.0 c.if-not-is_in_units.false in
    let counted = c.in-Some.ensures.some in
    let is = c.requires in (
      told-time _ c.args.packet.now.time_offset c.args.interface.now counted.0 c.in-Some.units _ _ is.offset
          (within.0 ∙ is.resolution) within.1 counted.1 counted.2,
      c.in-Some.ensures.fits,
    )

pub returns-in-None-clause-none : goal.returns-in-None-clause-none
returns-in-None-clause-none c = λ e interface units is tells.
    none-counted c.args.packet.now interface units c.if-packet-eq0.false (c.counted.ensures.none c.in-None.is)
    is tells
