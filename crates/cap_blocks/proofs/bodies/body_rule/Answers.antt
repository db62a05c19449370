use Rattle.std.proofs.Common.{arith}
use Rattle.cap_blocks.proofs.Faults.{total-section}
use Rattle.cap_blocks.proofs.Behind.{body_fault-trailer, body_fault-version, body_fault-whole, no_version, version_is}
use Rattle.cap_blocks.proofs.bodies.body_rule.Goals as goal

pub u16_at-major-requires : goal.u16_at-major-requires
u16_at-major-requires c = grind (arith, total-section)

pub u16_at-minor-requires : goal.u16_at-minor-requires
u16_at-minor-requires c = grind (arith, total-section)

pub returns-then-u32_at-block : goal.returns-then-u32_at-block
returns-then-u32_at-block c = grind (arith, body_fault-trailer)

pub returns-then-not-is_version : goal.returns-then-not-is_version
returns-then-not-is_version c = grind (arith, body_fault-version, version_is)

pub returns-else-not-is_version : goal.returns-else-not-is_version
returns-else-not-is_version c = grind (arith, body_fault-whole, version_is)

pub returns-else-block-eq-SECTION : goal.returns-else-block-eq-SECTION
returns-else-block-eq-SECTION c = grind (arith, body_fault-whole, no_version)
