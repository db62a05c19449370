-- What `diff` says of two captures, and of a capture and what `convert` writes of it.
use Rattle.std.specs.Prelude.{◌≡◌, ℕ, ◌≤◌, ◌^◌, List, length, None, IsFalse, IsTrue, ◌↔◌}
use Rattle.std.specs.List.{AllZip}
use Rattle.std.specs.declared.cmp.Ordering.TheVariants.{Equal}
use Rattle.cap_blocks.specs.Split.{AreBytes}
use Rattle.cap_bytes.specs.declared.faults.Tail.{Tail}
use Rattle.cap_bytes.specs.declared.numbers.Order.{Order}
use Rattle.cap_line.specs.declared.jobs.Ignored.{Ignored}
use Rattle.cap_source.specs.Feed.{Item, packet, refused}
use Rattle.cap_source.specs.Items.{file_items}
use Rattle.cap_source.specs.Times.{meta_time}
use Rattle.cap_source.specs.declared.packets.Meta.{Meta}
use Rattle.cap_time.specs.Clock.{clock_cmp}
use Rattle.cap_commands.specs.declared.counting.OutputFormat.{OutputFormat}
use Rattle.cap_commands.specs.Converted.{convert_refusal, convert_text}
use Rattle.cap_commands.specs.DiffText.{comparison_of, is_same, nothing_ignored, same_packets}
use Rattle.cap_laws.specs.again.Laws.{SamePackets}

-- Two captures are the same exactly if neither is refused and they have as many packets, of which those of one place
-- have the same link type, exact time, captured and original length and captured bytes.
abbrev pub SameExactly : Type 0
SameExactly =
    (tail : Tail) (first second : List ℕ)
    → IsTrue (is_same (comparison_of nothing_ignored tail first second))
    ↔ AllZip SamePackets (file_items tail 1 first) (file_items tail 2 second)

-- Two packets are the same apart from what is ignored: their times, link types or original lengths.
pub record IsSameBut (ignored : Ignored) (meta again : Meta) (bytes bytes_again : List ℕ) : Type 0 where
  pub link : IsFalse ignored.link → meta.interface.link ≡ again.interface.link
  pub time : IsFalse ignored.time → clock_cmp (meta_time meta) (meta_time again) ≡ Equal
  pub captured : meta.captured ≡ again.captured
  pub original : IsFalse ignored.original → meta.original ≡ again.original
  pub frame : bytes ≡ bytes_again

abbrev pub SameBut : Ignored → Item → Item → Type 0
SameBut ignored (packet meta frame) (packet again frame_again) = IsSameBut ignored meta again frame frame_again
SameBut ignored (packet meta frame) (refused refusal) = ⊥
SameBut ignored (refused refusal) again = ⊥

-- If something is ignored, two captures are the same exactly if neither is refused and they have as many packets, of
-- which those of one place are the same apart from that. So captures whose packets are the same apart from their times
-- are the same if times are ignored.
abbrev pub SameButIgnored : Type 0
SameButIgnored =
    (ignored : Ignored) (tail : Tail) (first second : List ℕ)
    → IsTrue (is_same (comparison_of ignored tail first second))
    ↔ AllZip (SameBut ignored) (file_items tail 1 first) (file_items tail 2 second)

-- A capture and what `convert` writes of it, in either format and byte order and in any unit, have the same packets, as
-- many as the capture has, if nothing is refused and at most 2^40 bytes are written.
abbrev pub SameAsConverted : Type 0
SameAsConverted =
    (format : OutputFormat) (order : Order) (tail : Tail) (bytes : List ℕ) → AreBytes bytes
    → convert_refusal format tail bytes ≡ None → length (convert_text format order tail bytes) ≤ 2 ^ 40
    → comparison_of nothing_ignored tail bytes (convert_text format order tail bytes)
    ≡ same_packets (length (file_items tail 1 bytes))
