-- The printed numbers and names of the rules.
use Rattle.std.specs.Prelude.{ℕ, List, codes}
use Rattle.cap_bytes.specs.declared.faults.Rule.{Rule}
use Rattle.cap_bytes.specs.declared.faults.Rule.TheVariants.{Magic, Version, Cut, PacketLong, BlockLength, BlockTrailer}
use Rattle.cap_bytes.specs.declared.faults.Rule.TheVariants.{OrderMagic, Captured, InterfaceUnknown, OptionEnd}
use Rattle.cap_bytes.specs.declared.faults.Rule.TheVariants.{OptionLength, Resolution, InterfaceLimit, FileLimit}
use Rattle.cap_bytes.specs.declared.faults.Rule.TheVariants.{OpenLimit, TalkLimit, NoTime, LinkMixed, Inexact}
use Rattle.cap_bytes.specs.declared.faults.Rule.TheVariants.{TimeRange, NoInterface}

-- the number that is printed of a rule
abbrev pub rule_number : Rule → ℕ
rule_number Magic = 1
rule_number Version = 2
rule_number Cut = 3
rule_number PacketLong = 4
rule_number BlockLength = 5
rule_number BlockTrailer = 6
rule_number OrderMagic = 7
rule_number Captured = 8
rule_number InterfaceUnknown = 9
rule_number OptionEnd = 10
rule_number OptionLength = 11
rule_number Resolution = 12
rule_number InterfaceLimit = 13
rule_number FileLimit = 14
rule_number OpenLimit = 15
rule_number TalkLimit = 16
rule_number NoTime = 17
rule_number LinkMixed = 18
rule_number Inexact = 19
rule_number TimeRange = 20
rule_number NoInterface = 21

abbrev pub rule_name : Rule → List ℕ
rule_name Magic = codes "magic"
rule_name Version = codes "version"
rule_name Cut = codes "cut"
rule_name PacketLong = codes "packet-long"
rule_name BlockLength = codes "block-length"
rule_name BlockTrailer = codes "block-trailer"
rule_name OrderMagic = codes "order-magic"
rule_name Captured = codes "captured"
rule_name InterfaceUnknown = codes "interface-unknown"
rule_name OptionEnd = codes "option-end"
rule_name OptionLength = codes "option-length"
rule_name Resolution = codes "resolution"
rule_name InterfaceLimit = codes "interface-limit"
rule_name FileLimit = codes "file-limit"
rule_name OpenLimit = codes "open-limit"
rule_name TalkLimit = codes "talk-limit"
rule_name NoTime = codes "no-time"
rule_name LinkMixed = codes "link-mixed"
rule_name Inexact = codes "inexact"
rule_name TimeRange = codes "time-range"
rule_name NoInterface = codes "no-interface"
