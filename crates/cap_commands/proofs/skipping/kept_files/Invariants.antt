use Rattle.std.proofs.Common.{◌≡◌, ◌≤◌, ◌++◌, drop, length, map}
use Rattle.cap_commands.specs.Skipping.{kept_of}
use Rattle.cap_commands.proofs.skipping.kept_files.Given as goal

-- the names that are kept so far, and those of the rest, are all
abbrev pub invariant-loop-place : goal.invariant-loop-place
invariant-loop-place l =
    let names = map (λ n. n.now) l.names in
    (map (λ k. k.now) l.kept.items ++ kept_of (drop l.place l.refusals) (drop l.place names)
    ≡ kept_of l.refusals names)
    × (l.place ≤ length l.names)
