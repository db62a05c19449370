-- What the blocks of a pcapng file say, and the first rule that their bodies break (draft-ietf-opsawg-pcapng, 4.1 to
-- 4.4 and Appendix A).
use Rattle.std.specs.Prelude.{◌==◌, ◌||◌, ◌*◌, ◌+◌, ◌^◌, nat_lt, ℕ, if◌then◌else◌, List, length, drop, slice_get}
use Rattle.std.specs.Prelude.{Option, Some, None, Result, Ok, Err}
use Rattle.cap_bytes.specs.Number.{number}
use Rattle.cap_bytes.specs.declared.faults.Rule.{Rule}
use Rattle.cap_bytes.specs.declared.faults.Rule.TheVariants as rules
use Rattle.cap_bytes.specs.declared.numbers.Order.{Order}
use Rattle.cap_time.specs.declared.resolutions.Interface.{Interface}
use Rattle.cap_blocks.specs.Grammar.{section_kind, interface_kind, obsolete_kind, simple_kind, enhanced_kind}
use Rattle.cap_source.specs.TimeBases.{interface_in, is_named}
use Rattle.cap_source.specs.declared.contents.BlockContent.{BlockContent}
use Rattle.cap_source.specs.declared.contents.BlockContent.TheVariants as contents
use Rattle.cap_source.specs.declared.contents.BlockPacket.{BlockPacket}

-- A packet whose captured bytes are within the limit and within a body of that size, or the first rule
-- that it breaks.
unfoldable pub fitting : BlockPacket → ℕ → Result BlockPacket Rule
fitting packet size =
    if nat_lt 262144 packet.captured then Err rules.PacketLong else
    if nat_lt size (packet.place + packet.captured) then Err rules.Captured else Ok packet

-- a packet of the section's interface of a number, if it has that
abbrev pub of_interface : Option Interface → (Interface → Result BlockPacket Rule) → Result BlockPacket Rule
of_interface None packet = Err rules.InterfaceUnknown
of_interface (Some interface) packet = packet interface

-- The packet of an enhanced or an obsolete packet block of that interface.
-- draft-ietf-opsawg-pcapng, 4.3 and Appendix A.
unfoldable pub timed_in : List Interface → ℕ → Order → List ℕ → Result BlockPacket Rule
timed_in interfaces number_of order body =
    of_interface (slice_get interfaces number_of) (λ interface.
    fitting (record {
      number = number_of;
      interface = interface;
      units = Some (number order 4 (drop 4 body) * 2 ^ 32 + number order 4 (drop 8 body));
      captured = number order 4 (drop 12 body);
      original = number order 4 (drop 16 body);
      place = 20;
    }) (length body))

-- how many bytes are captured of a simple packet: the original or the lesser of it and a snaplen that isn't 0
abbrev pub simple_captured : ℕ → ℕ → ℕ
simple_captured snaplen original = if (snaplen == 0) || nat_lt original snaplen then original else snaplen

-- The packet of a simple packet block, which is of interface 0 and has no time.
-- draft-ietf-opsawg-pcapng, 4.4.
unfoldable pub simple_in : List Interface → Order → List ℕ → Result BlockPacket Rule
simple_in interfaces order body =
    of_interface (slice_get interfaces 0) (λ interface.
    fitting (record {
      number = 0;
      interface = interface;
      units = None;
      captured = simple_captured interface.snaplen (number order 4 body);
      original = number order 4 body;
      place = 4;
    }) (length body))

abbrev pub of_body : {A : Type 0} → (A → BlockContent) → Result A Rule → Result BlockContent Rule
of_body content (Ok x) = Ok (content x)
of_body content (Err rule) = Err rule

-- what an interface block says that gives that interface
abbrev pub described : Order → List ℕ → Interface → BlockContent
described order body interface = contents.Interface (record { interface = interface; is_named = is_named order body })

-- What a block says in a section with these interfaces, or the first rule that its body breaks.
unfoldable pub content_in : List Interface → ℕ → Order → List ℕ → Result BlockContent Rule
content_in interfaces kind order body =
    if kind == section_kind then Ok contents.Section else
    if kind == interface_kind then of_body (described order body) (interface_in (length interfaces) order body) else
    if kind == enhanced_kind then of_body contents.Packet (timed_in interfaces (number order 4 body) order body) else
    if kind == obsolete_kind then of_body contents.Packet (timed_in interfaces (number order 2 body) order body) else
    if kind == simple_kind then of_body contents.Packet (simple_in interfaces order body) else
    Ok (contents.Other kind)
