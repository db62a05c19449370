-- What is counted of the packets of one file.
use Rattle.std.specs.Prelude.{ℕ, Bool, true, false, not, ◌+◌, nat_lt, List, [], ◌∷◌, length, Option, Some, None}
use Rattle.std.specs.Prelude.{if◌then◌else◌, option_map}
use Rattle.std.specs.Option.{option_map_or}
use Rattle.std.specs.Ordering.{is_lt}
use Rattle.cap_time.specs.Clock.{earlier, later}
use Rattle.cap_source.specs.Feed.{Item, packet, refused}
use Rattle.cap_source.specs.Times.{meta_time}
use Rattle.cap_source.specs.declared.packets.Meta.{Meta}
use Rattle.cap_time.specs.Stamp.{stamp_cmp}
use Rattle.cap_time.specs.declared.stamps.Stamp.{Stamp}
use Rattle.cap_talks.specs.declared.counts.counts.Counts.{Counts}

-- the packets of a list, those before a refusal
unfoldable pub packets_of : List Item → List Meta
packets_of [] = []
packets_of (packet meta frame ∷ items) = meta ∷ packets_of items
packets_of (refused refusal ∷ items) = []

-- the least and the greatest time of some packets: of equal ones that of the packet which stands first
abbrev pub least_time : List Meta → Option Stamp
least_time [] = None
least_time (meta ∷ metas) = earlier (meta_time meta) (least_time metas)

abbrev pub greatest_time : List Meta → Option Stamp
greatest_time [] = None
greatest_time (meta ∷ metas) = later (meta_time meta) (greatest_time metas)

-- two times are there, the second not before the first, or neither is
abbrev pub are_in_order : Option Stamp → Option Stamp → Bool
are_in_order None None = true
are_in_order None (Some last) = false
are_in_order (Some first) None = false
are_in_order (Some first) (Some last) = not (is_lt (stamp_cmp last first))

-- the sum of their original lengths
abbrev pub original_bytes : List Meta → ℕ
original_bytes [] = 0
original_bytes (meta ∷ metas) = meta.original + original_bytes metas

-- of how many of them fewer bytes were captured than they had
abbrev pub truncated_packets : List Meta → ℕ
truncated_packets [] = 0
truncated_packets (meta ∷ metas) = (if nat_lt meta.captured meta.original then 1 else 0) + truncated_packets metas

-- the last of them
abbrev pub last_packet : List Meta → Option Meta
last_packet [] = None
last_packet (meta ∷ []) = Some meta
last_packet (meta ∷ next ∷ metas) = last_packet (next ∷ metas)

-- What is counted of some packets of a file: how many there are, their bytes, the truncated ones, the least and the
-- greatest time; and of the last of them the file's format, and how many blocks were skipped before it.
unfoldable pub counted : List Meta → Counts
counted metas =
    record {
      format = option_map (λ meta. meta.format) (last_packet metas);
      packets = length metas;
      bytes = original_bytes metas;
      truncated = truncated_packets metas;
      skipped = option_map_or (λ meta. meta.skipped) (last_packet metas) 0;
      first = least_time metas;
      last = greatest_time metas;
    }

-- the same with one packet more
abbrev pub with_packet : Counts → Meta → Counts
with_packet counts meta =
    record {
      format = Some meta.format;
      packets = counts.packets + 1;
      bytes = counts.bytes + meta.original;
      truncated = counts.truncated + (if nat_lt meta.captured meta.original then 1 else 0);
      skipped = meta.skipped;
      first = earlier counts.first (meta_time meta);
      last = later counts.last (meta_time meta);
    }
