-- A packet's line, in the two parts in which it is written if it shows many bytes.
use Rattle.std.specs.Prelude.{ℕ, List, [], ◌++◌, codes}
use Rattle.hex.specs.Hex.{encode_lower}
use Rattle.cap_print.specs.Facts.{begin_in, close_in, end_in, fields_in, name_in}
use Rattle.cap_print.specs.declared.forms.Form.{Form}
use Rattle.cap_print.specs.inner.Parts.{quote_in}
use Rattle.cap_source.specs.declared.packets.Meta.{Meta}
use Rattle.cap_talks.specs.table.Descriptions.{description_fields}
use Rattle.cap_commands.specs.ListText.{facts_showing, packet_fields}
use Rattle.cap_commands.specs.declared.lines.Behind.{Behind}
use Rattle.cap_commands.specs.declared.lines.Behind.TheVariants as behind

-- how the line of a packet ends in a form: behind its bytes; or in JSON, if its object ends the one that it stands in,
-- with both; or with what the packet is by itself
abbrev pub behind_in : Form → Behind → List ℕ
behind_in form behind.LineEnd = end_in form
behind_in form behind.ObjectEnd = close_in form (end_in form)
behind_in form (behind.Described description) = fields_in form (description_fields description) (end_in form)

-- the line of the packet number n in a form, with these of its bytes, and that behind them
abbrev pub packet_text : Form → Behind → ℕ → Meta → List ℕ → List ℕ
packet_text form end n meta shown = begin_in form (codes "packet")
    (fields_in form (facts_showing n meta shown).fields (behind_in form end))

-- the line of the packet number n in a form, up to the digits of its bytes
abbrev pub packet_head : Form → ℕ → Meta → List ℕ
packet_head form n meta = begin_in form (codes "packet")
    (fields_in form (packet_fields n meta) (name_in form (codes " data ") (codes "data") (quote_in form [])))

-- the rest of a packet's line in a form: the bytes that it shows as digits, and its end
abbrev pub packet_rest : Form → Behind → List ℕ → List ℕ
packet_rest form end shown = encode_lower shown ++ quote_in form (behind_in form end)
