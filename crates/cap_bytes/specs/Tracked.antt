-- A reader or a writer of the standard library as a device.
use Rattle.std.specs.Prelude.{Bool}
use Rattle.cap_bytes.specs.declared.streams.Tracked.{Tracked}

-- what it reads from or writes to
abbrev pub tracked_inner : {T : Type 0} → Tracked T → T
tracked_inner tracked = tracked.inner

-- whether it has failed
abbrev pub has_failed : {T : Type 0} → Tracked T → Bool
has_failed tracked = tracked.failed
