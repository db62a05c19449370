use Rattle.std.proofs.Common.{Ok, refl, ap, subst}
use Rattle.cap_source.proofs.FedBodies.{behind-is}
use Rattle.cap_source.specs.declared.contents.BlockContent.{BlockContent}
use Rattle.cap_source.specs.inner.FedSteps.{SaysWithin, push_view}
use Rattle.cap_source.specs.inner.SectionState.{progress_of}
use Rattle.cap_source.proofs.fed.take_content.Goals as goal

pub returns-in-Packet-clause-step : goal.returns-in-Packet-clause-step
returns-in-Packet-clause-step c = (
  c.in-Packet.packet,
  ap Ok c.in-Packet.is,
  c.meta_of_packet-meta.ensures,
  refl,
  refl,
  subst (λ (k : BlockContent). SaysWithin c.args.block (Ok k)) c.in-Packet.is c.requires.within,
  behind-is (push_view c.args.state.now) c.args.block (progress_of c.args.state.now.reached) c.from.result
      c.args.state.now.offset c.requires.begins c.from.ensures,
)
