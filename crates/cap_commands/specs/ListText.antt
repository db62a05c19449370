-- What `capt list` prints.
use Rattle.std.specs.Prelude.{ℕ, ◌+◌, List, [], ◌∷◌, ◌++◌, codes, take, Option, Some, None}
use Rattle.cap_bytes.specs.declared.faults.Refusal.{Refusal}
use Rattle.cap_bytes.specs.declared.faults.Tail.{Tail}
use Rattle.cap_source.specs.Feed.{Item, packet, refused}
use Rattle.cap_source.specs.Items.{file_items}
use Rattle.cap_source.specs.declared.packets.Meta.{Meta}
use Rattle.cap_time.specs.Stamp.{time_in}
use Rattle.cap_time.specs.Time.{Printed, printed_form}
use Rattle.cap_time.specs.declared.resolutions.Interface.{Interface}
use Rattle.cap_source.specs.Feed.{refusal_of}
use Rattle.cap_print.specs.Facts.{Facts, Field, hex, line_in, moment, named, number, one}
use Rattle.cap_print.specs.declared.forms.Form.{Form}
use Rattle.cap_print.specs.declared.forms.Form.TheVariants.{Json, Text}
use Rattle.cap_print.specs.declared.forms.TimeForm.TheVariants.{Exact}

-- a time in the form of its own interface, if there is one
abbrev pub printed_in : Option ℕ → Interface → Option Printed
printed_in None interface = None
printed_in (Some units) interface = Some (printed_form (time_in units interface))

-- the fields of the packet number n, without its bytes
abbrev pub packet_fields : ℕ → Meta → List Field
packet_fields n meta =
    one (record { label = codes " "; key = codes "n"; value = number n })
    ∷ one (named (codes "offset") (number meta.offset))
    ∷ one (named (codes "time") (moment (printed_in meta.units meta.interface)))
    ∷ one (named (codes "captured") (number meta.captured))
    ∷ one (named (codes "original") (number meta.original))
    ∷ one (named (codes "link") (number meta.interface.link))
    ∷ []

-- the facts of the packet number n, with these of its captured bytes, and then these fields
abbrev pub facts_before : List Field → ℕ → Meta → List ℕ → Facts
facts_before behind n meta shown = record {
  kind = codes "packet";
  fields = packet_fields n meta ++ one (named (codes "data") (hex shown)) ∷ behind;
}

-- the facts of the packet number n, with these of its captured bytes
abbrev pub facts_showing : ℕ → Meta → List ℕ → Facts
facts_showing n meta shown = facts_before [] n meta shown

-- the line of the packet number n in a form, with at most `shown` of its captured bytes, the first of them
abbrev pub packet_line : Form → ℕ → ℕ → Meta → List ℕ → List ℕ
packet_line form shown n meta bytes = line_in form (facts_showing n meta (take shown bytes))

-- the lines of the packets of a list, numbered from n on; `line` gives the line of each
unfoldable pub list_lines : (ℕ → Meta → List ℕ → List ℕ) → ℕ → List Item → List ℕ
list_lines line n [] = []
list_lines line n (packet meta frame ∷ items) = line n meta frame ++ list_lines line (n + 1) items
list_lines line n (refused refusal ∷ items) = []

-- what `list` prints in a form of a file with those bytes, with at most `shown` bytes of each packet
abbrev pub list_in : Form → ℕ → Tail → List ℕ → List ℕ
list_in form shown tail bytes = list_lines (packet_line form shown) 1 (file_items tail 1 bytes)

-- what it prints in text, with at most 16 bytes of each packet
abbrev pub list_text : Tail → List ℕ → List ℕ
list_text = list_in (Text Exact) 16

-- what it prints in JSON
abbrev pub list_json : ℕ → Tail → List ℕ → List ℕ
list_json = list_in (Json Exact)

-- the refusal that ends `list` of a file with those bytes in either form, if there is one
abbrev pub list_refusal : Tail → List ℕ → Option Refusal
list_refusal tail bytes = refusal_of (file_items tail 1 bytes)
