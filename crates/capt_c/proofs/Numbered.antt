-- A rule is known by its number.
use Rattle.std.specs.Prelude.{◌≡◌, ◌≤◌, ◌<◌, ◌⊎◌, ◌-◌, ◌∷◌, [], ℕ, List, get_or}
use Rattle.std.proofs.Common.{refl, sym, ap, ◌∙◌, arith}
use Rattle.cap_bytes.specs.Rules.{rule_number}
use Rattle.cap_bytes.specs.declared.faults.Rule.{Rule}
use Rattle.cap_bytes.specs.declared.faults.Rule.TheVariants.{Magic, Version, Cut, PacketLong, BlockLength, BlockTrailer}
use Rattle.cap_bytes.specs.declared.faults.Rule.TheVariants.{OrderMagic, Captured, InterfaceUnknown, OptionEnd}
use Rattle.cap_bytes.specs.declared.faults.Rule.TheVariants.{OptionLength, Resolution, InterfaceLimit, FileLimit}
use Rattle.cap_bytes.specs.declared.faults.Rule.TheVariants.{OpenLimit, TalkLimit, NoTime, LinkMixed, Inexact}
use Rattle.cap_bytes.specs.declared.faults.Rule.TheVariants.{TimeRange, NoInterface}

-- the rules in the order of their numbers, from 1 on
abbrev rules : List Rule
rules =
    Magic ∷ Version ∷ Cut ∷ PacketLong ∷ BlockLength ∷ BlockTrailer ∷ OrderMagic ∷
    Captured ∷ InterfaceUnknown ∷ OptionEnd ∷ OptionLength ∷ Resolution ∷ InterfaceLimit ∷ FileLimit ∷
    OpenLimit ∷ TalkLimit ∷ NoTime ∷ LinkMixed ∷ Inexact ∷ TimeRange ∷ NoInterface ∷ []

abbrev rule_at : ℕ → Rule
rule_at number = get_or rules (number - 1) Magic

at : (rule : Rule) → rule_at (rule_number rule) ≡ rule
at Magic = refl
at Version = refl
at Cut = refl
at PacketLong = refl
at BlockLength = refl
at BlockTrailer = refl
at OrderMagic = refl
at Captured = refl
at InterfaceUnknown = refl
at OptionEnd = refl
at OptionLength = refl
at Resolution = refl
at InterfaceLimit = refl
at FileLimit = refl
at OpenLimit = refl
at TalkLimit = refl
at NoTime = refl
at LinkMixed = refl
at Inexact = refl
at TimeRange = refl
at NoInterface = refl

pub one_of_a_number : (first second : Rule) → rule_number first ≡ rule_number second → first ≡ second
one_of_a_number first second same = sym (at first) ∙ ap rule_at same ∙ at second

within : (rule : Rule) → (1 ≤ rule_number rule) × (rule_number rule ≤ 21)
within Magic = (omega arith, omega arith)
within Version = (omega arith, omega arith)
within Cut = (omega arith, omega arith)
within PacketLong = (omega arith, omega arith)
within BlockLength = (omega arith, omega arith)
within BlockTrailer = (omega arith, omega arith)
within OrderMagic = (omega arith, omega arith)
within Captured = (omega arith, omega arith)
within InterfaceUnknown = (omega arith, omega arith)
within OptionEnd = (omega arith, omega arith)
within OptionLength = (omega arith, omega arith)
within Resolution = (omega arith, omega arith)
within InterfaceLimit = (omega arith, omega arith)
within FileLimit = (omega arith, omega arith)
within OpenLimit = (omega arith, omega arith)
within TalkLimit = (omega arith, omega arith)
within NoTime = (omega arith, omega arith)
within LinkMixed = (omega arith, omega arith)
within Inexact = (omega arith, omega arith)
within TimeRange = (omega arith, omega arith)
within NoInterface = (omega arith, omega arith)

pub none_of_a_number : (rule : Rule) (number : ℕ) → (number ≡ 0) ⊎ (21 < number) → rule_number rule ≡ number → ⊥
none_of_a_number rule number out is = omega (arith, within rule, out, is)
