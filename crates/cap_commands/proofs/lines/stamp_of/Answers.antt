use Rattle.std.proofs.Common.{◌≡◌, ℕ, Option, option_map, ap, ◌∙◌, arith}
use Rattle.cap_time.proofs.StampForms.{printed_of-stamp_in}
use Rattle.cap_time.specs.Stamp.{printed_of, stamp_in}
use Rattle.cap_time.specs.declared.resolutions.Interface.{Interface}
use Rattle.cap_commands.specs.ListText.{printed_in}
use Rattle.cap_commands.proofs.lines.stamp_of.Goals as goal

printed-time : (units : Option ℕ) (interface : Interface)
    → option_map printed_of (option_map (λ u. stamp_in u interface) units) ≡ printed_in units interface
printed-time units interface = grind (arith, printed_of-stamp_in)

pub returns : goal.returns
returns c = ap (option_map printed_of) c.time.ensures.time
    ∙ printed-time c.args.meta.now.units c.args.meta.now.interface
