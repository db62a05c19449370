-- What a run writes to, through a buffer.
use Rattle.std.specs.Prelude.{ℕ, List, Bool, Option}
use Rattle.std.specs.Io.Buffered.{writer_buffer, writer_contents, writer_inner}
use Rattle.cap_tool.specs.ErrnoWriter.{errno_inner}
use Rattle.cap_tool.specs.declared.outlets.Buffered.{Buffered}

-- what it writes to
abbrev pub buffered_inner : {W : Type 0} → Buffered W → W
buffered_inner buffered = errno_inner (writer_inner buffered.writer)

-- the bytes that wait in its buffer
abbrev pub buffered_waiting : {W : Type 0} → Buffered W → List ℕ
buffered_waiting buffered = writer_buffer buffered.writer

-- the bytes that it holds, those that were written and those that wait, if what it writes to tells its own
abbrev pub buffered_contents : {W : Type 0} → (W → Option (List ℕ)) → Buffered W → Option (List ℕ)
buffered_contents contents buffered =
    writer_contents (λ remembered. contents (errno_inner remembered)) buffered.writer

-- whether a write of it has failed
abbrev pub buffered_failed : {W : Type 0} → Buffered W → Bool
buffered_failed buffered = buffered.failed

-- What is known of what a run writes to, at one moment: whether it tells the bytes that it holds, which they are, and
-- which of them still wait to be written.
pub record Outgoing : Type 0 where
  pub told : Bool
  pub held : List ℕ
  pub waiting : List ℕ
