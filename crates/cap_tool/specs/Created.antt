-- The output of a job, as it was created.
use Rattle.std.specs.Prelude.{◌≡◌, ◌≢◌, ℕ, List, Bool, true, false, Option, Some, None, codes, is_some, IsTrue}
use Rattle.std.specs.declared.io.Stdout.{Stdout}
use Rattle.cap_tool.specs.Streams.{IsOutFile}
use Rattle.cap_tool.specs.declared.streams.Output.{Output}
use Rattle.cap_tool.specs.declared.streams.Output.TheVariants as outputs
use Rattle.cap_tool.specs.declared.whole.AtomicOutput.{AtomicOutput}

-- By whether it takes its name once all is done, and by its name: standard output, if none is named; a file that was
-- created beside the one of that name; or standard output, if the name is `-`, else a file, and none beside it.
abbrev pub IsCreated : Bool → Option (List ℕ) → Stdout → Output × Option AtomicOutput → Type 0
IsCreated whole None standard made = (made.0 ≡ outputs.Standard standard) × (made.1 ≡ None)
IsCreated true (Some name) standard made = IsOutFile made.0 × IsTrue (is_some made.1)
IsCreated false (Some name) standard made =
    (name ≡ codes "-" → made.0 ≡ outputs.Standard standard) × (name ≢ codes "-" → IsOutFile made.0)
    × (made.1 ≡ None)
