use Rattle.std.proofs.Common.{◌≤◌, length, map}
use Rattle.cap_tool.proofs.FoundRefusals.{AreFound}
use Rattle.cap_tool.proofs.skipping.find_refusals.Given as goal

-- the refusals of the files so far are found
abbrev pub invariant-loop-place : goal.invariant-loop-place
invariant-loop-place g l = record {
  within : l.place ≤ length l.names;
  found : AreFound (g.O.Opener.gives l.opener) (λ s. record {
    told = g.O.Reader.Source.tells_coming s;
    bytes = g.O.Reader.Source.coming s;
    can_fail = g.O.Reader.Device.can_fail s;
  }) l.tail (map (λ n. n.now) l.names) l.place l.found.items;
}
