use Rattle.std.proofs.Common.{◌∙◌, Err, sym, rules}
use Rattle.std.proofs.lemmas.Result.{err_from_is_err_and}
use Rattle.std.specs.Bool.{⊤}
use Rattle.cap_source.proofs.Going.{FileKeeps-trans, FileKeeps-refl, Waits-refl, Waits-further, none_of, Learns-behind}
use Rattle.cap_source.proofs.Going.{ReadsTo-here, ReadsTo-further, taken_last}
use Rattle.cap_source.proofs.Fronts.{Fronts-answer, Fronts-further, Fronts-same, Fronts-taken}
use Rattle.cap_source.specs.inner.FileState.{pcapng_state}
use Rattle.cap_source.specs.inner.Fronts.{pcapng_fronts}
use Rattle.cap_source.specs.inner.SectionState.{progress_of}
use Rattle.cap_source.proofs.pcapng.next_of_blocks.Goals as goal

pub returns-then-is_some-clause-answer : goal.returns-then-is_some-clause-answer
returns-then-is_some-clause-answer g c =
    Learns-behind _ _ _ c.step.new.known.next c.loop-known.invariant.waits c.loop-known.invariant.keeps
    c.in_ok-step.ensures.answer (sym c.is_some.ensures ∙ c.if-is_some.true)

pub returns-then-is_some-clause-reaches : goal.returns-then-is_some-clause-reaches
returns-then-is_some-clause-reaches g c =
    let a = pcapng_state c.args.reader.now (progress_of c.args.reached.now) in
    let b = pcapng_state c.loop-known.reader (progress_of c.loop-known.reached) in
    taken_last a b (pcapng_state c.step.new.reader (progress_of c.step.new.reached)) c.step.new.known.next
    c.loop-known.invariant.keeps c.loop-known.invariant.reads c.in_ok-step.ensures.reaches

pub returns-then-is_some-clause-fronts : goal.returns-then-is_some-clause-fronts
returns-then-is_some-clause-fronts g c = λ told.
    Fronts-taken (pcapng_fronts c.args.reader.now (progress_of c.args.reached.now))
    (pcapng_fronts c.loop-known.reader (progress_of c.loop-known.reached))
    (pcapng_fronts c.step.new.reader (progress_of c.step.new.reached)) c.step.new.known.next
    (c.loop-known.invariant.fronts told) (c.in_ok-step.ensures.fronts (c.loop-known.invariant.keeps.told told))

pub returns-in_err-step-clause-fronts : goal.returns-in_err-step-clause-fronts
returns-in_err-step-clause-fronts g c = λ told.
    let p = err_from_is_err_and c.from_residual.result c.from_residual.ensures.1 in
    rw (p.1, p.2)
    (Fronts-answer {A = ⊤} (pcapng_fronts c.args.reader.now (progress_of c.args.reached.now))
    (pcapng_fronts c.loop-known.reader (progress_of c.loop-known.reached))
    (pcapng_fronts c.step.new.reader (progress_of c.step.new.reached)) (Err c.in_err-step.field-0.0)
    c.step.new.known.next
    (c.loop-known.invariant.fronts told) (c.in_err-step.ensures.fronts (c.loop-known.invariant.keeps.told told)))

pub loop-known-init : goal.loop-known-init
loop-known-init g c = record {
  unknown = c.requires.unknown;
  waits = Waits-refl _ (search rules);
  keeps = FileKeeps-refl _;
  reads = ReadsTo-here (pcapng_state c.args.reader.now (progress_of c.args.reached.now));
  fronts = λ told. Fronts-same (pcapng_fronts c.args.reader.now (progress_of c.args.reached.now));
  room = c.requires.room;
  counted = c.requires.counted;
  free = c.requires.free;
  limit = c.requires.limit;
}

pub loop-known-preserved : goal.loop-known-preserved
loop-known-preserved g c =
    let not = sym c.is_some.ensures ∙ c.if-is_some.false in
    let a = pcapng_state c.args.reader.now (progress_of c.args.reached.now) in
    let b = pcapng_state c.loop-known.reader (progress_of c.loop-known.reached) in
    let waits = Waits-further _ _ _ c.step.new.known.next c.loop-known.invariant.waits c.loop-known.invariant.keeps
    c.in_ok-step.ensures.answer not in record {
      unknown = none_of c.step.new.known.next not;
      waits = waits;
      keeps = FileKeeps-trans _ _ _ c.loop-known.invariant.keeps c.step.ensures.keeps;
      reads = ReadsTo-further a b (pcapng_state c.step.new.reader (progress_of c.step.new.reached))
          c.step.new.known.next
          (none_of c.step.new.known.next not) c.loop-known.invariant.keeps c.loop-known.invariant.reads
          c.in_ok-step.ensures.reaches;
      fronts = λ told.
          Fronts-further (pcapng_fronts c.args.reader.now (progress_of c.args.reached.now))
          (pcapng_fronts c.loop-known.reader (progress_of c.loop-known.reached))
          (pcapng_fronts c.step.new.reader (progress_of c.step.new.reached)) c.step.new.known.next
          (none_of c.step.new.known.next not) (c.loop-known.invariant.fronts told)
          (c.in_ok-step.ensures.fronts (c.loop-known.invariant.keeps.told told));
      room = c.step.ensures.room;
      counted = c.step.ensures.keeps.counted c.loop-known.invariant.counted;
      free = none_of _ waits.stops;
      limit = c.step.ensures.keeps.limit c.loop-known.invariant.limit;
    }
