use Rattle.std.proofs.Common.{◌≡◌, ◌≤◌, length, map, take}
use Rattle.capt_c.specs.Texts.{file_bytes}
use Rattle.capt_c.specs.Sources.{rest_of}
use Rattle.capt_c.proofs.texts.slices.Given as goal

-- the files so far have a reader each
abbrev pub invariant-loop-file : goal.invariant-loop-file
invariant-loop-file l =
    (map rest_of l.slices.items ≡ map file_bytes (take l.file-index l.fn.files)) × (l.file-index ≤ length l.fn.files)
    × (length l.slices.items ≡ l.file-index)
