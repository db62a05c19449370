-- The lines of conversations, as `report` prints them.
use Rattle.std.specs.Prelude.{ℕ, ◌/◌, ◌%◌, ◌^◌, ◌==◌, List, [], ◌∷◌, ◌++◌, codes, decimal, Option, Some, None}
use Rattle.std.specs.Prelude.{option_map, slice_get, if◌then◌else◌}
use Rattle.std.specs.Option.{option_map_or}
use Rattle.cap_print.specs.Facts.{Facts, Fact, Field, one, group, number, coded, word, moment, named, line_in}
use Rattle.cap_print.specs.declared.forms.Form.{Form}
use Rattle.cap_print.specs.declared.forms.Form.TheVariants.{Text}
use Rattle.cap_print.specs.declared.forms.TimeForm.TheVariants.{Exact}
use Rattle.cap_time.specs.Stamp.{printed_of}
use Rattle.cap_talks.specs.table.Conversations.{Conversation}
use Rattle.cap_talks.specs.declared.table.rows.TalkKey.{TalkKey}
use Rattle.cap_talks.specs.declared.table.rows.TalkRow.{TalkRow}
use Rattle.cap_print.specs.Addresses.{ipv6_text}
use Rattle.cap_talks.specs.declared.table.units.Address.{Address}
use Rattle.cap_talks.specs.declared.table.units.Address.TheVariants.{Ipv4, Ipv6}
use Rattle.cap_talks.specs.declared.table.units.Endpoint.{Endpoint}

-- a protocol by its number (IANA)
abbrev pub protocol_text : ℕ → List ℕ
protocol_text protocol =
    if protocol == 17 then codes "udp"
    else (if protocol == 6 then codes "tcp"
    else codes "p" ++ decimal protocol)

-- an IPv4 address as its four bytes, the highest first
abbrev pub ipv4_text : ℕ → List ℕ
ipv4_text address =
    decimal (address / 2 ^ 24) ++ codes "." ++ decimal (address / 2 ^ 16 % 256) ++ codes "."
    ++ decimal (address / 2 ^ 8 % 256)
    ++ codes "." ++ decimal (address % 256)

-- an address of either network (RFC 5952, 4)
abbrev pub address_text : Address → List ℕ
address_text (Ipv4 address) = ipv4_text address
address_text (Ipv6 address) = ipv6_text address

-- what stands in text before an address, and between it and its port: an IPv6 address that has a port stands in
-- brackets (RFC 5952, 6)
abbrev pub label_before : Address → Option ℕ → List ℕ
label_before (Ipv6 address) (Some port) = codes " ["
label_before _ _ = codes " "

abbrev pub address_label : Endpoint → List ℕ
address_label at = label_before at.address at.port

abbrev pub port_label : Address → List ℕ
port_label (Ipv4 address) = codes ":"
port_label (Ipv6 address) = codes "]:"

-- a port after a colon, if there is one
abbrev pub port_facts : Address → Option ℕ → List Fact
port_facts address None = []
port_facts address (Some port) =
    record { label = port_label address; key = codes "port"; value = number port } ∷ []

-- an end as `a.b.c.d:port` or `a.b.c.d`, or of IPv6 as `[a::b]:port` or `a::b`, with its name in JSON
abbrev pub end_field : List ℕ → Endpoint → Field
end_field key at =
    group key
    (record { label = address_label at; key = codes "address"; value = word (Some (address_text at.address)) })
    (port_facts at.address at.port)

-- what went one way: packets and bytes, with what stands before it in text, and its name in JSON
abbrev pub traffic_field : List ℕ → List ℕ → ℕ → ℕ → Field
traffic_field label key frames bytes =
    group key (record { label = label; key = codes "packets"; value = number frames })
    (record { label = codes " "; key = codes "bytes"; value = number bytes } ∷ [])

-- what names a conversation: its protocol, and its two ends, the lesser first
abbrev pub talk_fields : TalkKey → List Field
talk_fields key =
    one (record {
      label = codes " ";
      key = codes "protocol";
      value = coded (protocol_text key.protocol) key.protocol;
    })
    ∷ end_field (codes "a") key.lesser ∷ end_field (codes "b") key.greater ∷ []

-- the line of a conversation
abbrev pub talk_facts : TalkKey → TalkRow → Facts
talk_facts key row =
    record {
      kind = codes "talk";
      fields =
          talk_fields key
          ++ traffic_field (codes " forward ") (codes "forward") row.forward_frames row.forward_bytes
          ∷ traffic_field (codes " backward ") (codes "backward") row.backward_frames row.backward_bytes
          ∷ one (named (codes "first") (moment (option_map printed_of row.first)))
          ∷ one (named (codes "last") (moment (option_map printed_of row.last)))
          ∷ [];
    }

-- the lines of all of them, in a form, by the place of the first unit of each
abbrev pub talk_texts_in : Form → List Conversation → List ℕ
talk_texts_in form [] = []
talk_texts_in form (talk ∷ talks) = line_in form (talk_facts talk.0 talk.1) ++ talk_texts_in form talks

-- the same in text
abbrev pub talk_texts : List Conversation → List ℕ
talk_texts talks = talk_texts_in (Text Exact) talks

-- the line of that at a place, in a form
abbrev pub line_at_in : Form → List Conversation → ℕ → List ℕ
line_at_in form talks place = option_map_or (λ talk. line_in form (talk_facts talk.0 talk.1)) (slice_get talks place) []

-- the line that says how many they are
abbrev pub talks_facts : ℕ → Facts
talks_facts count =
    record {
      kind = codes "talks";
      fields = one (record { label = codes " "; key = codes "talks"; value = number count }) ∷ [];
    }

-- the same in text
abbrev pub talks_text : ℕ → List ℕ
talks_text count = line_in (Text Exact) (talks_facts count)
