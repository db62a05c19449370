-- What a writer keeps from call to call.
use Rattle.std.proofs.Common.{Bool, false, ap, ◌∙◌}
use Rattle.std.proofs.Math.Bool.{or-false}
use Rattle.std.specs.Prelude.{◌||◌}
use Rattle.cap_bytes.specs.Device.{Writer, WriterKeeps}

-- a call that didn't fail, and the one behind it
pub WriterKeeps-behind : (old mid new : Writer) (fails : Bool) → WriterKeeps old false mid → WriterKeeps mid fails new
    → WriterKeeps old fails new
WriterKeeps-behind old mid new fails a b = record {
  told = λ t. b.told (a.told t);
  failed = b.failed ∙ ap (λ x. x || fails) (a.failed ∙ or-false old.failed);
  can = λ t. a.cannot (b.can t);
  cannot = λ t. a.cannot (b.cannot t);
}
