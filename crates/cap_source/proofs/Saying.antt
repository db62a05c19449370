-- What is true of the interfaces and of the packets that blocks say.
use Rattle.std.proofs.Common.{◌≡◌, ◌*◌, ℕ, ◌+◌, ◌^◌, ◌≤◌, drop, slice_get, List, length, Bool, Some, None, Result, Ok}
use Rattle.std.proofs.Common.{IfOk, arith, if◌then◌else◌}
use Rattle.cap_bytes.specs.Number.{number}
use Rattle.cap_bytes.specs.declared.faults.Rule.{Rule}
use Rattle.cap_bytes.specs.declared.numbers.Order.{Order}
use Rattle.cap_source.specs.TimeBases.{interface_in}
use Rattle.cap_source.specs.Contents.{fitting, timed_in, simple_in, simple_captured, of_interface, of_body, described}
use Rattle.cap_source.specs.Contents.{content_in}
use Rattle.cap_source.specs.declared.contents.BlockContent.{BlockContent}
use Rattle.cap_source.specs.declared.contents.BlockContent.TheVariants as contents
use Rattle.cap_source.specs.declared.contents.BlockPacket.{BlockPacket}
use Rattle.cap_time.specs.declared.resolutions.Interface.{Interface}

-- the packet of an enhanced or an obsolete packet block, and that of a simple one
abbrev pub timed_packet : ℕ → Order → List ℕ → Interface → BlockPacket
timed_packet k order body interface =
    record {
      number = k;
      interface = interface;
      units = Some (number order 4 (drop 4 body) * 2 ^ 32 + number order 4 (drop 8 body));
      captured = number order 4 (drop 12 body);
      original = number order 4 (drop 16 body);
      place = 20;
    }

abbrev pub simple_packet : Order → List ℕ → Interface → BlockPacket
simple_packet order body interface =
    record {
      number = 0;
      interface = interface;
      units = None;
      captured = simple_captured interface.snaplen (number order 4 body);
      original = number order 4 body;
      place = 4;
    }

-- What is true of a packet of each interface of a number, whose captured bytes are within the limit.
abbrev pub OfFound : (BlockPacket → Type 0) → List Interface → ℕ → (Interface → BlockPacket) → Type 0
OfFound Holds interfaces k p = (i : Interface) → slice_get interfaces k ≡ Some i → (p i).captured ≤ 262144 → Holds (p i)

module _ (Holds : BlockPacket → Type 0) where
  fitting-holds : (p : BlockPacket) (size : ℕ) → (p.captured ≤ 262144 → Holds p) → IfOk (fitting p size) Holds
  unfolding fitting
  fitting-holds p size each = grind arith

  found-holds : (interfaces : List Interface) (k : ℕ) (p : Interface → BlockPacket) (size : ℕ)
      → OfFound Holds interfaces k p
      → IfOk (of_interface (slice_get interfaces k) (λ i. fitting (p i) size)) Holds
  found-holds interfaces k p size each = grind (arith, slice_get, fitting-holds)

  pub timed-holds : (interfaces : List Interface) (k : ℕ) (order : Order) (body : List ℕ)
      → OfFound Holds interfaces k (timed_packet k order body) → IfOk (timed_in interfaces k order body) Holds
  unfolding timed_in
  timed-holds interfaces k order body each = found-holds interfaces k (timed_packet k order body) (length body) each

  pub simple-holds : (interfaces : List Interface) (order : Order) (body : List ℕ)
      → OfFound Holds interfaces 0 (simple_packet order body) → IfOk (simple_in interfaces order body) Holds
  unfolding simple_in
  simple-holds interfaces order body each = found-holds interfaces 0 (simple_packet order body) (length body) each

module _ (OfInterface : Interface → Type 0) (OfPacket : BlockPacket → Type 0) where
  -- the one of an interface block, the other of a packet's
  abbrev pub OfContent : BlockContent → Type 0
  OfContent contents.Section = Unit {0}
  OfContent (contents.Interface described) = OfInterface described.interface
  OfContent (contents.Packet p) = OfPacket p
  OfContent (contents.Other kind) = Unit {0}

  by_kind : (a b c d e : Bool) (kind : ℕ) (order : Order) (body : List ℕ) (i : Result Interface Rule)
      (x y z : Result BlockPacket Rule)
      → IfOk i OfInterface → IfOk x OfPacket → IfOk y OfPacket → IfOk z OfPacket
      → IfOk (if a then Ok contents.Section else if b then of_body (described order body) i else
      if c then of_body contents.Packet x else if d then of_body contents.Packet y else if e then of_body
      contents.Packet z else Ok (contents.Other kind)) OfContent
  by_kind a b c d e kind order body i x y z f p q r = grind arith

  pub content-holds : (interfaces : List Interface) (kind : ℕ) (order : Order) (body : List ℕ)
      → IfOk (interface_in (length interfaces) order body) OfInterface
      → ((k : ℕ) → OfFound OfPacket interfaces k (timed_packet k order body))
      → OfFound OfPacket interfaces 0 (simple_packet order body)
      → IfOk (content_in interfaces kind order body) OfContent
  unfolding content_in
  content-holds interfaces kind order body interface timed simple = search (by_kind, timed-holds, simple-holds)
