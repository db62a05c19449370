-- What `diff` says of two lists of packets, and of a capture and what is written of it.
use Rattle.std.proofs.Common.{◌≡◌, ℕ, ◌+◌, Bool, true, false, not, List, [], ◌∷◌, length, Option, Some}
use Rattle.std.proofs.Common.{None, Equal, refl, sym, ap, ◌∙◌, subst, arith}
use Rattle.std.proofs.lemmas.Bool.{false≢true}
use Rattle.std.proofs.lemmas.Bool.Decides.{Decides-eqb}
use Rattle.std.proofs.lemmas.Slice.Eq.{bytes_eq-Decides}
use Rattle.std.specs.Bool.{Decides}
use Rattle.std.specs.Cmp.{Equal-is}
use Rattle.std.specs.List.{AllZip}
use Rattle.std.specs.Prelude.{◌==◌, ◌||◌, if◌then◌else◌}
use Rattle.std.specs.Str.{bytes_eq}
use Rattle.cap_source.specs.Feed.{Item, packet}
use Rattle.cap_source.specs.Times.{meta_time}
use Rattle.cap_source.specs.declared.packets.Meta.{Meta}
use Rattle.cap_time.specs.Clock.{clock_cmp}
use Rattle.cap_time.specs.Stamp.{stamp_cmp}
use Rattle.cap_time.specs.declared.stamps.Stamp.{Stamp}
use Rattle.cap_commands.specs.DiffText.{Comparison, compared, differences_of, do_differ, is_same, is_same_time}
use Rattle.cap_commands.specs.DiffText.{nothing_ignored, other_packet, same_packets}
use Rattle.cap_source.specs.Items.{file_first, file_items}
use Rattle.cap_commands.specs.declared.counting.OutputFormat.TheVariants.{Pcap, Pcapng}
use Rattle.cap_merge.specs.inner.Clocks.{clock_total}
use Rattle.cap_time.specs.Stamp.{stamp_in}
use Rattle.cap_write.specs.Pcap.{first_in_unit, pcap_bytes}
use Rattle.cap_write.specs.Texts.{first_origins, pcapng_bytes}
use Rattle.std.specs.Cmp.{tied_itself}
use Rattle.std.specs.Option.{option_map}
use Rattle.cap_laws.proofs.Twins.{TwinItems, twins}
use Rattle.cap_laws.specs.Diffs.{SameAsConverted, SameExactly}
use Rattle.cap_laws.specs.again.Laws.{IsSamePacket, PcapAgain, PcapngAgain, SamePackets}

-- the test of two times is that of their order
pub time-law : (a b : Option Stamp) → Decides (is_same_time a b) (clock_cmp a b ≡ Equal)
time-law None None = (λ e. refl, λ e. refl)
time-law None (Some t) = (λ e. absurd (false≢true e), λ e. absurd (cc))
time-law (Some s) None = (λ e. absurd (false≢true e), λ e. absurd (cc))
time-law (Some s) (Some t) = Equal-is (stamp_cmp s t)

-- five tests pass if none fails
record Passes (a b c d e : Bool) : Type 0 where
  pub first : a ≡ true
  pub second : b ≡ true
  pub third : c ≡ true
  pub fourth : d ≡ true
  pub fifth : e ≡ true

passed : (a b c d e : Bool) → (not a || not b || not c || not d || not e) ≡ false → Passes a b c d e
passed true true true true true h = record { first = refl; second = refl; third = refl; fourth = refl; fifth = refl }
passed a b c d e h = grind arith

-- two packets do not differ if they are the same
pub unlike : (m o : Meta) (f g : List ℕ) → IsSamePacket m o f g
    → do_differ (differences_of (record { meta = m; frame = f }) (record { meta = o; frame = g }))
    ≡ false
unlike m o f g same =
    let link = (Decides-eqb m.interface.link o.interface.link).1 same.link in
    let time = (time-law (meta_time m) (meta_time o)).1 same.time in
    let captured = (Decides-eqb m.captured o.captured).1 same.captured in
    let original = (Decides-eqb m.original o.original).1 same.original in
    let bytes = (bytes_eq-Decides f g).1 same.frame in
    rw (link, time, captured, original, bytes) refl

-- and are the same if they do not differ
pub like : (m o : Meta) (f g : List ℕ)
    → do_differ (differences_of (record { meta = m; frame = f }) (record { meta = o; frame = g }))
    ≡ false
    → IsSamePacket m o f g
like m o f g h =
    let p = passed (m.interface.link == o.interface.link) (is_same_time (meta_time m) (meta_time o))
    (m.captured == o.captured) (m.original == o.original) (bytes_eq f g) h in
    record {
      link = (Decides-eqb m.interface.link o.interface.link).0 p.first;
      time = (time-law (meta_time m) (meta_time o)).0 p.second;
      captured = (Decides-eqb m.captured o.captured).0 p.third;
      original = (Decides-eqb m.original o.original).0 p.fourth;
      frame = (bytes_eq-Decides f g).0 p.fifth;
    }

pub chosen_by : (b : Bool) (c d : Comparison) → b ≡ false → (if b then c else d) ≡ d
chosen_by b c d e = rw e refl

-- lists of packets that are the same, one by one, are as many packets that are the same
compared-same : (n : ℕ) (xs ys : List Item) → AllZip SamePackets xs ys
    → compared nothing_ignored n xs ys ≡ same_packets (n + length xs)
unfolding compared
compared-same n [] [] all = ap same_packets (omega arith)
compared-same n (packet m f ∷ xs) (packet o g ∷ ys) all =
    chosen_by _ _ (compared nothing_ignored (n + 1) xs ys) (unlike m o f g all.0)
    ∙ (compared-same (n + 1) xs ys all.1 ∙ ap same_packets (omega arith))
compared-same n xs ys all = grind arith

as-many : (xs ys : List Item) → AllZip SamePackets xs ys → compared nothing_ignored 0 xs ys ≡ same_packets (length xs)
as-many xs ys all = compared-same 0 xs ys all ∙ ap same_packets (omega arith)

pub same_by : (b : Bool) (c d : Comparison) → is_same c ≡ false → is_same (if b then c else d) ≡ true
    → (b ≡ false) × (is_same d ≡ true)
same_by true c d other is = absurd (false≢true (sym other ∙ is))
same_by false c d other is = (refl, is)

-- lists that are the same are of packets that are the same, one by one
same-compared : (n : ℕ) (xs ys : List Item) → is_same (compared nothing_ignored n xs ys) ≡ true
    → AllZip SamePackets xs ys
unfolding compared
same-compared n [] [] is = tt
same-compared n (packet m f ∷ xs) (packet o g ∷ ys) is =
    let split = same_by
    (do_differ (differences_of (record { meta = m; frame = f }) (record { meta = o; frame = g })))
    (other_packet (n + 1) (Some (record { meta = m; frame = f })) (Some (record { meta = o; frame = g })))
    (compared nothing_ignored (n + 1) xs ys) refl is in
    (like m o f g split.0, same-compared (n + 1) xs ys split.1)
same-compared n xs ys is = grind arith

pub same-exactly : SameExactly
same-exactly tail first second = (
  same-compared 0 (file_items tail 1 first) (file_items tail 2 second),
  λ all. ap is_same (as-many (file_items tail 1 first) (file_items tail 2 second) all),
)

-- packets of which the same is written as pcapng are the same
twin-same : (a b : Item) → TwinItems a b → SamePackets a b
twin-same (packet m f) (packet o g) twin = record {
  link = ap (λ i. i.link) twin.interface;
  time =
      tied (meta_time m) (meta_time o) (λ i. option_map (λ units. stamp_in units (twin.interface i)) (twin.units i));
  captured = twin.captured;
  original = twin.original;
  frame = twin.frame;
} where
  tied : (a b : Option Stamp) → a ≡ b → clock_cmp a b ≡ Equal
  tied a b e = subst (λ (t : Option Stamp). clock_cmp a t ≡ Equal) e (tied_itself clock_total a)
twin-same a b twin = grind arith

twins-same : (xs ys : List Item) → AllZip TwinItems xs ys → AllZip SamePackets xs ys
twins-same [] [] all = tt
twins-same (x ∷ xs) (y ∷ ys) all = (twin-same x y all.0, twins-same xs ys all.1)
twins-same xs ys all = grind arith

pub same-as-converted : PcapAgain → PcapngAgain → SameAsConverted
same-as-converted pcap_law pcapng_law (Pcap unit) order tail bytes are none short =
    let items = file_items tail 1 bytes in
    let text = pcap_bytes order (first_in_unit unit (file_first tail 1 bytes)) items in
    as-many items (file_items tail 2 text) ((pcap_law order unit tail tail 1 2 bytes are).1 none short)
same-as-converted pcap_law pcapng_law Pcapng order tail bytes are none short =
    let items = file_items tail 1 bytes in
    let first = file_first tail 1 bytes in
    let text = pcapng_bytes order 1 first items in
    let again = pcapng_law order tail tail 1 2 bytes are short in
    as-many items (file_items tail 2 text)
    (twins-same items (file_items tail 2 text)
    (twins (first_origins 1 first) (first_origins 2 first) items (file_items tail 2 text) none again.1
    (sym again.0)))
