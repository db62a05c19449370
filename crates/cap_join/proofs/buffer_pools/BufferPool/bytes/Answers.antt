use Rattle.std.proofs.Common.{arith, ℕ, Vec, Global, length}
use Rattle.std.proofs.lemmas.List.{length-map}
use Rattle.cap_join.specs.inner.BufferPoolView.{spares_view}
use Rattle.cap_join.proofs.Sparing.{sum-short}
use Rattle.cap_join.proofs.buffer_pools.BufferPool.bytes.Goals as goal

pub bytes_of-requires : goal.bytes_of-requires
bytes_of-requires c =
    let s = c.self.inside in
    omega (
      arith,
      sum-short (spares_view s).lengths c.self.invariant.short,
      c.self.invariant.few,
      length-map s.buffers.items (λ (b : Vec ℕ Global). length b.items),
    )

pub returns-clause-bound : goal.returns-clause-bound
returns-clause-bound c =
    let s = c.self.inside in
    omega (
      arith,
      c.bytes_of.ensures,
      sum-short (spares_view s).lengths c.self.invariant.short,
      c.self.invariant.few,
      length-map s.buffers.items (λ (b : Vec ℕ Global). length b.items),
    )
