-- What is written for an interface block, read again.
use Rattle.std.specs.Prelude.{◌≡◌, ℕ, ◌<◌, Ok}
use Rattle.cap_blocks.specs.Grammar.{interface_body}
use Rattle.cap_bytes.specs.declared.numbers.Order.{Order}
use Rattle.cap_source.specs.inner.Fields.{FitsInterface}
use Rattle.cap_source.specs.TimeBases.{interface_in}
use Rattle.cap_time.specs.declared.resolutions.Interface.{Interface}

-- The body that is written for an interface tells of that interface, its resolution and its offset with it, wherever a
-- section has room for one.
abbrev pub InterfaceWritten : Type 0
InterfaceWritten =
    (before : ℕ) (order : Order) (interface : Interface) → before < 1024 → FitsInterface interface
    → interface_in before order (interface_body order interface) ≡ Ok interface
