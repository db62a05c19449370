use Rattle.std.proofs.Common.{arith}
use Rattle.cap_blocks.proofs.Faults.{first_fault-section}
use Rattle.cap_blocks.proofs.Looking.{FindsOrder-own}
use Rattle.cap_blocks.proofs.headers.order_of.Goals as goal
use Rattle.cap_blocks.proofs.headers.order_of.Goals.{in_default-via-in-Some+else-not-is_section}
use Rattle.cap_blocks.proofs.headers.order_of.Goals.{in_default-via-in_default}

pub returns-in_default : goal.returns-in_default
returns-in_default c =
    grind (
      arith,
      in_default-via-in-Some+else-not-is_section,
      FindsOrder-own,
      in_default-via-in_default,
      first_fault-section,
    )
