-- What the fields of the spare buffers say.
use Rattle.std.specs.Prelude.{◌<◌, ◌≤◌, All, length, map, min, vec_capacity}
use Rattle.cap_join.specs.declared.buffer_pools.BufferPool.TheInside.{Inside}
use Rattle.cap_join.specs.inner.BufferPool.{SpareState, spare_limit}

abbrev pub spares_view : Inside → SpareState
spares_view s = record {
  lengths = map (λ b. length b.items) s.buffers.items;
  places =
      min (vec_capacity s.buffers) spare_limit;
}

-- None is empty, and none is longer than a group's may be.
pub record IsSoundSpares (s : Inside) : Type 0 where
  pub few : length s.buffers.items ≤ spare_limit
  pub short : All (λ n. (0 < n) × (n ≤ 65520)) (spares_view s).lengths
