use Rattle.cap_source.proofs.FedStops.{broken-keeps, broken-sound}
use Rattle.cap_source.proofs.FedSteps.{header-breaks, header-sound, header-steps}
use Rattle.cap_source.specs.inner.FedSteps.{push_view}
use Rattle.cap_source.proofs.fed.step_start.Goals as goal

pub returns-in-Ok-clause-step : goal.returns-in-Ok-clause-step
returns-in-Ok-clause-step c =
    header-steps (push_view c.args.state.now) c.args.bytes.now c.requires.start c.requires.pcap c.in-Ok.header
    c.in-Ok.ensures.parses.0 c.in-Ok.ensures.parses.1

pub returns-in-Ok-clause-sound : goal.returns-in-Ok-clause-sound
returns-in-Ok-clause-sound c =
    header-sound (push_view c.args.state.now) c.args.bytes.now c.requires.start c.requires.pcap c.in-Ok.header
    c.in-Ok.ensures.parses.0 c.requires.sound

pub returns-in-Err-clause-step : goal.returns-in-Err-clause-step
returns-in-Err-clause-step c =
    header-breaks (push_view c.args.state.now) c.args.bytes.now c.requires.start c.requires.pcap c.in-Err.rule
    c.break_off.result (push_view c.break_off.new.state) c.in-Err.ensures.parses c.break_off.ensures

pub returns-in-Err-clause-keeps : goal.returns-in-Err-clause-keeps
returns-in-Err-clause-keeps c = broken-keeps _ _ _ _ _ _ c.break_off.ensures

pub returns-in-Err-clause-sound : goal.returns-in-Err-clause-sound
returns-in-Err-clause-sound c = broken-sound _ _ _ _ _ _ c.requires.sound c.break_off.ensures
