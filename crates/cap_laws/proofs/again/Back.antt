-- Written pcapng blocks, read back.
use Rattle.std.proofs.Common.{◌≡◌, false, ℕ, ◌+◌, ◌*◌, ◌^◌, ◌≤◌, ◌<◌, slice_get, List, length, drop, Some, Ok, refl, ap}
use Rattle.std.proofs.Common.{◌∙◌}
use Rattle.std.proofs.Common.{arith}
use Rattle.std.specs.Prelude.{FitsSigned}
use Rattle.std.specs.Int.{w64}
use Rattle.cap_blocks.proofs.Again.{packet_again-law}
use Rattle.cap_blocks.proofs.Parts.{length-packet_body}
use Rattle.cap_blocks.specs.Grammar.{interface_kind, enhanced_kind, section_kind, interface_body, packet_body}
use Rattle.cap_bytes.specs.Number.{number}
use Rattle.cap_bytes.specs.declared.numbers.Order.{Order}
use Rattle.cap_source.proofs.Written.{interface_in-written, is_named-written}
use Rattle.cap_source.specs.Contents.{fitting, timed_in, of_body, described, content_in}
use Rattle.cap_source.specs.declared.contents.BlockContent.TheVariants as contents
use Rattle.cap_source.specs.declared.contents.InterfaceDescription.{InterfaceDescription}
use Rattle.cap_source.specs.declared.contents.BlockPacket.{BlockPacket}
use Rattle.cap_time.specs.declared.resolutions.Interface.{Interface}
use Rattle.cap_write.specs.Numbering.{Numbered}
use Rattle.cap_laws.specs.again.Laws.{NumbersFit}

-- A packet with these fields is one that is read: within the limit, and within its body.
fitting-whole : (p : BlockPacket) (size : ℕ) → p.captured ≤ 262144 → p.place + p.captured ≤ size → fitting p size ≡ Ok p
unfolding fitting
fitting-whole p size few within = grind arith

-- a packet by its fields
abbrev pub packet_of : ℕ → Interface → ℕ → ℕ → ℕ → BlockPacket
packet_of number_of interface units captured original =
    record {
      number = number_of;
      interface = interface;
      units = Some units;
      captured = captured;
      original = original;
      place = 20;
    }

timed_in-fields : (interfaces : List Interface) (order : Order) (body : List ℕ) (k units captured original : ℕ)
    (i : Interface)
    → slice_get interfaces k ≡ Some i
    → number order 4 (drop 4 body) * 2 ^ 32 + number order 4 (drop 8 body) ≡ units
    → number order 4 (drop 12 body) ≡ captured → number order 4 (drop 16 body) ≡ original
    → captured ≤ 262144 → 20 + captured ≤ length body
    → timed_in interfaces k order body ≡ Ok (packet_of k i units captured original)
unfolding timed_in
timed_in-fields interfaces order body k units captured original i known u c o few within =
    grind (arith, drop, fitting-whole)

-- the packet of a written packet block
pub timed_in-written : (interfaces : List Interface) (order : Order) (n : Numbered)
    → slice_get interfaces n.number ≡ Some n.interface → n.number < 2 ^ 32 → NumbersFit n
    → timed_in interfaces (number order 4 (packet_body order n.number n.units n.original n.frame)) order
    (packet_body order n.number n.units n.original n.frame)
    ≡ Ok (packet_of n.number n.interface n.units (length n.frame) n.original)
timed_in-written interfaces order n known few fits =
    let body = packet_body order n.number n.units n.original n.frame in
    let again = packet_again-law order n.number n.units n.original n.frame few fits.units fits.original fits.frame in
    ap (λ k. timed_in interfaces k order body) again.1
    ∙ timed_in-fields interfaces order body n.number n.units
    (length n.frame) n.original n.interface known again.2 again.3 again.4 fits.frame
    (omega (arith, length-packet_body order n.number n.units n.original n.frame))

-- what a written block says
pub content_in-section : (interfaces : List Interface) (order : Order) (body : List ℕ)
    → content_in interfaces section_kind order body ≡ Ok contents.Section
unfolding content_in
content_in-section interfaces order body = refl

-- a written interface block tells of that interface, and has no name
abbrev pub unnamed : Interface → InterfaceDescription
unnamed i = record { interface = i; is_named = false }

pub content_in-interface : (interfaces : List Interface) (order : Order) (i : Interface) → length interfaces < 1024
    → i.link < 2 ^ 16 → i.snaplen < 2 ^ 32 → FitsSigned w64 i.offset
    → content_in interfaces interface_kind order (interface_body order i) ≡ Ok (contents.Interface (unnamed i))
unfolding content_in
content_in-interface interfaces order i few link snaplen fits =
    ap (of_body (described order (interface_body order i)))
    (interface_in-written (length interfaces) order i few link snaplen fits)
    ∙ ap (λ named. Ok (contents.Interface (record { interface = i; is_named = named })))
    (is_named-written order i link snaplen)

pub content_in-packet : (interfaces : List Interface) (order : Order) (n : Numbered)
    → slice_get interfaces n.number ≡ Some n.interface → n.number < 2 ^ 32 → NumbersFit n
    → content_in interfaces enhanced_kind order (packet_body order n.number n.units n.original n.frame)
    ≡ Ok (contents.Packet (packet_of n.number n.interface n.units (length n.frame) n.original))
unfolding content_in
content_in-packet interfaces order n known few fits = search (timed_in-written)
