-- The line that tells the networks of the packets that a report counts as `not-ipv4`, or as `not-ip`.
use Rattle.std.specs.Prelude.{◌+◌, ◌==◌, ℕ, List, [], ◌++◌, codes, decimal, Bool, true, false, Option, Some, None}
use Rattle.std.specs.Prelude.{if◌then◌else◌}
use Rattle.cap_commands.specs.declared.left.DroppedInfo.{DroppedInfo}
use Rattle.cap_print.specs.declared.forms.Form.{Form}
use Rattle.cap_print.specs.declared.forms.Form.TheVariants.{Text, Json}
use Rattle.cap_talks.specs.declared.table.others.OtherCounts.{OtherCounts}
use Rattle.cap_talks.specs.table.OtherNetworks.{sum_of_networks}
use Rattle.cap_tool.specs.LeftOutLine.{class_text}
use Rattle.cap_tool.specs.declared.outcomes.Outcome.{Outcome}
use Rattle.cap_tool.specs.declared.outcomes.Outcome.TheVariants as outcomes

-- the networks that some packets are of, and how many packets are
abbrev pub networks_text : OtherCounts → List ℕ
networks_text n =
    class_text 0 (codes "ipv6 ") n.ipv6 ++ class_text n.ipv6 (codes "arp ") n.arp
    ++ class_text (n.ipv6 + n.arp) (codes "other ") n.other

-- what the class is called: `not-ip` where IPv6 packets are read, too
abbrev pub class_name : Bool → List ℕ
class_name false = codes "not-ipv4"
class_name true = codes "not-ip"

-- the networks of its packets: where IPv6 packets are read, it has none of them
abbrev pub unread_networks : Bool → OtherCounts → OtherCounts
unread_networks false n = n
unread_networks true n = record n { ipv6 = 0 }

-- the beginning of its object, in which the IPv6 packets are counted if they aren't read
abbrev pub class_head : Bool → OtherCounts → List ℕ
class_head false n = codes "{\"type\":\"not_ipv4\",\"ipv6\":" ++ decimal n.ipv6
class_head true n = codes "{\"type\":\"not_ip\""

-- the line in a form: in JSON an object of all counts (RFC 8259, 4)
abbrev pub networks_in : Bool → Form → OtherCounts → List ℕ
networks_in reads (Text times) n = class_name reads ++ networks_text (unread_networks reads n) ++ codes "\n"
networks_in reads (Json times) n =
    class_head reads n ++ codes ",\"arp\":" ++ decimal n.arp ++ codes ",\"other\":" ++ decimal n.other ++ codes "}\n"

-- there is none if each packet is read, or of no network that is known
abbrev pub networks_line : Bool → Form → OtherCounts → List ℕ
networks_line reads form n =
    if sum_of_networks (unread_networks reads n) == 0 then [] else networks_in reads form n

-- nor if no packets were counted
abbrev pub networks_line_if : Bool → Form → Option OtherCounts → List ℕ
networks_line_if reads form None = []
networks_line_if reads form (Some n) = networks_line reads form n

-- and if all was done, or all except for files that were left out
abbrev pub networks_told : Bool → Form → Outcome → DroppedInfo → List ℕ
networks_told reads form outcomes.Done left = networks_line_if reads form left.not_ipv4
networks_told reads form outcomes.Differ left = []
networks_told reads form outcomes.NotWhole left = networks_line_if reads form left.not_ipv4
networks_told reads form (outcomes.Line fault) left = []
networks_told reads form (outcomes.Fault fault) left = []
networks_told reads form (outcomes.Open file) left = []
networks_told reads form outcomes.List left = []
networks_told reads form (outcomes.ListLine line) left = []
networks_told reads form outcomes.Create left = []
