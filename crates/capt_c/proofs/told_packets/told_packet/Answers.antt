use Rattle.capt_c.proofs.told_packets.told_packet.Goals as goal

pub returns-in-None-clause-none : goal.returns-in-None-clause-none
returns-in-None-clause-none c = λ e meta tells.
    c.units_of.ensures.none c.in-None.is meta.interface meta.units tells.interface tells.units
