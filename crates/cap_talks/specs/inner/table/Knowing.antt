-- Keys that become known.
use Rattle.std.specs.Prelude.{◌≡◌, ◌⊎◌, List, [], ◌∷◌, ◌++◌, Bool, true}
use Rattle.cap_talks.specs.declared.table.keys.PackedKey.{PackedKey}
use Rattle.cap_talks.specs.declared.table.keys.WideKey.{WideKey}
use Rattle.cap_talks.specs.declared.table.units.CountedUnit.{CountedUnit}
use Rattle.cap_talks.specs.inner.table.Packed.{is_packed, unpacked}
use Rattle.cap_talks.specs.table.Conversations.{is_forward, talk_key}

-- the key of the conversation that a unit belongs to, and whether it goes from the lesser of its ends
pub record IsKeyOf (known : List WideKey) (unit : CountedUnit) (it : PackedKey × Bool) : Type 0 where
  pub packed : is_packed known it.0 ≡ true
  pub key : unpacked known it.0 ≡ talk_key unit
  pub forward : it.1 ≡ is_forward unit

-- the same keys are known, or one more
abbrev pub GrowsBy : List WideKey → List WideKey → WideKey → Type 0
GrowsBy old new key = (new ≡ old) ⊎ (new ≡ old ++ key ∷ [])
