-- The program's run over the system that it runs on.
use Rattle.std.specs.Prelude.{◌≡◌, Bool, true, false, Result, Ok, Err}
use Rattle.cap_bytes.specs.declared.faults.Fault.TheVariants.{Write}
use Rattle.cap_commands.specs.declared.left.DroppedInfo.{DroppedInfo}
use Rattle.cap_tool.specs.declared.host.Host.{Host}
use Rattle.cap_tool.specs.declared.outcomes.Outcome.TheVariants as outcomes
use Rattle.cap_tool.specs.declared.outcomes.RunStop.{RunStop}

-- whether standard input was closed
abbrev pub host_is_closed : {R : Type 0} → Host R → Bool
host_is_closed host = host.is_closed

-- How a run ends once its output is committed, whose job ended so: as that did, but for a job that was done and whose
-- output, beside the file of its name, can't take that name.
abbrev pub Commits : Bool → Result DroppedInfo RunStop → Result DroppedInfo RunStop → Type 0
Commits is_beside (Err stop) result = result ≡ Err stop
Commits is_beside (Ok left) (Ok committed) = committed ≡ left
Commits true (Ok left) (Err stop) = stop.outcome ≡ outcomes.Fault Write
Commits false (Ok left) (Err stop) = ⊥
