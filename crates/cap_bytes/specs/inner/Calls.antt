-- The call of a reader in memory that fails.
use Rattle.std.specs.Prelude.{ℕ, zero, suc, Option, Some, None}

-- which of the calls fails, from 1, after one of them
abbrev pub one_call_less : Option ℕ → Option ℕ
one_call_less None = None
one_call_less (Some zero) = Some 0
one_call_less (Some (suc zero)) = None
one_call_less (Some (suc (suc calls))) = Some (suc calls)
