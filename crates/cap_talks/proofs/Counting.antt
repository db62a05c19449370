-- The packets of a file, counted one by one.
use Rattle.std.proofs.Common.{◌≡◌, ◌+◌, cond, nat_lt, List, [], ◌∷◌, ◌++◌, arith, Some, option_map, length-append, true}
use Rattle.std.specs.Option.{option_map_or}
use Rattle.cap_source.specs.declared.packets.Meta.{Meta}
use Rattle.cap_talks.specs.counts.Counting.{are_in_order, original_bytes, truncated_packets, last_packet, counted}
use Rattle.cap_talks.specs.counts.Counting.{with_packet}
use Rattle.cap_talks.proofs.Times.{least-more, greatest-more, times-in_order}

bytes-more : (metas : List Meta) (meta : Meta)
    → original_bytes (metas ++ meta ∷ []) ≡ original_bytes metas + meta.original
bytes-more [] meta = omega arith
bytes-more (m ∷ metas) meta = omega (arith, bytes-more metas meta)

truncated-more : (metas : List Meta) (meta : Meta)
    → truncated_packets (metas ++ meta ∷ []) ≡ truncated_packets metas + cond (nat_lt meta.captured meta.original) 1 0
truncated-more [] meta = omega arith
truncated-more (m ∷ metas) meta = omega (arith, truncated-more metas meta)

last-more : (metas : List Meta) (meta : Meta) → last_packet (metas ++ meta ∷ []) ≡ Some meta
last-more (m ∷ n ∷ metas) meta = last-more (n ∷ metas) meta
last-more metas meta = cc

-- one packet more
pub counted-more : (metas : List Meta) (meta : Meta) → counted (metas ++ meta ∷ []) ≡ with_packet (counted metas) meta
unfolding counted
counted-more metas meta = λ i. record {
  format = option_map (λ m. m.format) (last-more metas meta i);
  packets = length-append metas (meta ∷ []) i;
  bytes = bytes-more metas meta i;
  truncated = truncated-more metas meta i;
  skipped = option_map_or (λ m. m.skipped) (last-more metas meta i) 0;
  first = least-more metas meta i;
  last = greatest-more metas meta i;
}

-- the first time of some packets isn't after the last one
pub counted-in_order : (metas : List Meta) → are_in_order (counted metas).first (counted metas).last ≡ true
unfolding counted
counted-in_order metas = times-in_order metas
