use Rattle.cap_source.proofs.FedStops.{broken-keeps, broken-sound}
use Rattle.cap_source.proofs.FedSteps.{record-breaks, record-sound, record-steps}
use Rattle.cap_source.specs.inner.FedSteps.{push_view}
use Rattle.cap_source.proofs.fed.step_record.Goals as goal

pub returns-in-Ok-clause-step : goal.returns-in-Ok-clause-step
returns-in-Ok-clause-step c =
    record-steps (push_view c.args.state.now) c.args.header c.args.bytes.now c.requires.record c.in-Ok.record
    c.meta_of_record.result c.in-Ok.ensures.0 c.in-Ok.ensures.1 c.meta_of_record.ensures

pub returns-in-Ok-clause-sound : goal.returns-in-Ok-clause-sound
returns-in-Ok-clause-sound c =
    record-sound (push_view c.args.state.now) c.args.header c.args.bytes.now c.requires.record c.in-Ok.record
    c.in-Ok.ensures.0 c.in-Ok.ensures.1 c.requires.sound

pub returns-in-Err-clause-step : goal.returns-in-Err-clause-step
returns-in-Err-clause-step c =
    record-breaks (push_view c.args.state.now) c.args.header c.args.bytes.now c.requires.record c.in-Err.rule
    c.break_off.result (push_view c.break_off.new.state) c.in-Err.ensures c.break_off.ensures

pub returns-in-Err-clause-keeps : goal.returns-in-Err-clause-keeps
returns-in-Err-clause-keeps c = broken-keeps _ _ _ _ _ _ c.break_off.ensures

pub returns-in-Err-clause-sound : goal.returns-in-Err-clause-sound
returns-in-Err-clause-sound c = broken-sound _ _ _ _ _ _ c.requires.sound c.break_off.ensures
