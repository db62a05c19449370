use Rattle.std.proofs.Common.{◌≡◌, ◌≤◌, ◌-◌, ◌^◌, None, IsTrue}
use Rattle.cap_source.specs.inner.FileState.{FileKeeps, ReadsTo, FileWaits, pcapng_state}
use Rattle.cap_source.specs.inner.Fronts.{FrontsPass, pcapng_fronts}
use Rattle.cap_source.specs.inner.SectionState.{progress_of, counted_blocks, has_room}
use Rattle.cap_source.proofs.pcapng.next_of_blocks.Given as goal

abbrev pub invariant-loop-known : goal.invariant-loop-known
invariant-loop-known g l = record {
  unknown : l.known.next ≡ None;
  waits : FileWaits (pcapng_state l.initial.reader (progress_of l.initial.reached))
      (pcapng_state l.reader (progress_of l.reached));
  keeps : FileKeeps (pcapng_state l.initial.reader (progress_of l.initial.reached))
      (pcapng_state l.reader (progress_of l.reached));
  reads : ReadsTo (pcapng_state l.initial.reader (progress_of l.initial.reached))
      (pcapng_state l.reader (progress_of l.reached));
  fronts : IsTrue l.initial.reader.told
      → FrontsPass (pcapng_fronts l.initial.reader (progress_of l.initial.reached)) None
      (pcapng_fronts l.reader (progress_of l.reached));
  room : IsTrue (has_room l.reader.broken l.reached);
  counted : counted_blocks (progress_of l.reached) ≤ l.reader.offset;
  free : l.reader.stop ≡ None;
  limit : l.reader.offset ≤ 2 ^ 40;
}

abbrev pub decreases-loop-known : goal.decreases-loop-known
decreases-loop-known g l = 2 ^ 40 - l.reader.offset
