-- What `capt list --class` prints: behind the line of each packet what it is by itself.
use Rattle.std.specs.Prelude.{ℕ, List, Bool, true, false, take}
use Rattle.cap_bytes.specs.declared.faults.Tail.{Tail}
use Rattle.cap_print.specs.Facts.{line_in}
use Rattle.cap_print.specs.declared.forms.Form.{Form}
use Rattle.cap_source.specs.Items.{file_items}
use Rattle.cap_source.specs.declared.packets.Meta.{Meta}
use Rattle.cap_talks.specs.table.Descriptions.{describe_for, description_fields}
use Rattle.cap_commands.specs.ListText.{facts_before, list_lines, packet_line}

-- the line of the packet number n in a form, with at most `shown` of its captured bytes, the first of them, and what it
-- is by itself, by all of its captured bytes, where IPv6 packets are read or not
abbrev pub classed_line : Bool → Form → ℕ → ℕ → Meta → List ℕ → List ℕ
classed_line reads form shown n meta bytes =
    line_in form (facts_before (description_fields (describe_for reads meta bytes)) n meta (take shown bytes))

-- the line of a packet, with what it is by itself if that is asked for
abbrev pub packet_line_by : Bool → Bool → Form → ℕ → ℕ → Meta → List ℕ → List ℕ
packet_line_by false reads = packet_line
packet_line_by true reads = classed_line reads

-- what `list` prints in a form of a file with those bytes, with at most `shown` bytes of each packet, and with what
-- each is by itself if that is asked for
abbrev pub list_by : Bool → Bool → Form → ℕ → Tail → List ℕ → List ℕ
list_by classed reads form shown tail bytes =
    list_lines (packet_line_by classed reads form shown) 1 (file_items tail 1 bytes)
