use Rattle.std.proofs.Common.{◌∙◌, arith, add-one}
use Rattle.cap_merge.specs.inner.First.{lane_turns}
use Rattle.cap_merge.proofs.Finding.{among-none, among-next, lanes-within, among-all}
use Rattle.cap_merge.proofs.lanes.first_of_several.Goals as goal

pub loop-place-init : goal.loop-place-init
loop-place-init c = among-none (lane_turns c.args.lanes.now)

pub sooner-first-requires-clause-first : goal.sooner-first-requires-clause-first
sooner-first-requires-clause-first c = lanes-within c.args.lanes.now c.loop-place.first c.loop-place.place
    (omega arith) c.loop-place.invariant

pub loop-place-preserved : goal.loop-place-preserved
loop-place-preserved c = rw add-one (c.sooner-first.ensures
    ∙ among-next (lane_turns c.args.lanes.now) c.loop-place.first c.loop-place.place c.loop-place.invariant)

pub returns : goal.returns
returns c = record {
  place = among-all c.args.lanes.now c.loop-place.first c.loop-place.place (omega arith) c.loop-place.invariant;
  within = lanes-within c.args.lanes.now c.loop-place.first c.loop-place.place (omega arith) c.loop-place.invariant;
}
