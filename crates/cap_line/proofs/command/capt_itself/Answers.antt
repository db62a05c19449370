use native.Mathlib.Omega.{arith}
use Rattle.cap_line.proofs.command.capt_itself.Goals as goal

pub returns : goal.returns
returns c = grind (arith, c.new.ensures, c.version.ensures, c.override_help.ensures, c.subcommand_required.ensures)
