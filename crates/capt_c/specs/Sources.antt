-- What the readers give.
use Rattle.std.specs.Prelude.{ℕ, List, [], Bool, true, false}
use Rattle.cap_bytes.specs.Tracked.{has_failed}
use Rattle.capt_c.specs.declared.sources.Slice.{Slice}
use Rattle.capt_c.specs.declared.sources.CaptureInput.{CaptureInput}
use Rattle.capt_c.specs.declared.sources.CaptureInput.TheVariants.{Memory, Standard}

-- the bytes of a slice that are still to come
abbrev pub rest_of : Slice → List ℕ
rest_of slice = slice.rest.now

-- whether its bytes are known: those of standard input aren't
abbrev pub tells_of : CaptureInput → Bool
tells_of (Memory slice) = true
tells_of (Standard stream) = false

abbrev pub input_coming : CaptureInput → List ℕ
input_coming (Memory slice) = rest_of slice
input_coming (Standard stream) = []

abbrev pub has_failed_of : CaptureInput → Bool
has_failed_of (Memory slice) = false
has_failed_of (Standard stream) = has_failed stream

abbrev pub input_can_fail : CaptureInput → Bool
input_can_fail (Memory slice) = false
input_can_fail (Standard stream) = true
