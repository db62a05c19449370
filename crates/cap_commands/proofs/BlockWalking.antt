-- Going through the blocks of a file.
use Rattle.std.proofs.Common.{◌≡◌, ℕ, ◌≤◌, List, ◌∷◌, [], Bool, IsTrue, Option, Some, None, Result, Ok, Err, refl, sym}
use Rattle.std.proofs.Common.{◌∙◌, subst, arith}
use Rattle.std.specs.Prelude.{IfSome, IfNone, IsSome}
use Rattle.cap_blocks.specs.inner.Reader.{GivesBlock, GivesNextBlock}
use Rattle.cap_blocks.specs.declared.blocks.Block.{Block}
use Rattle.cap_bytes.specs.Device.{Writer}
use Rattle.cap_bytes.specs.inner.Reader.{GivesStop, ReaderState}
use Rattle.cap_bytes.specs.inner.Reader as readers
use Rattle.cap_bytes.specs.declared.faults.Fault.{Fault}
use Rattle.cap_bytes.specs.declared.faults.Fault.TheVariants.{Refused, Read, Write, Memory}
use Rattle.cap_bytes.specs.declared.faults.Rule.{Rule}
use Rattle.cap_bytes.specs.declared.numbers.Order.{Order}
use Rattle.cap_bytes.specs.declared.stops.Stop.{Stop}
use Rattle.cap_source.specs.ReadFaults.{FailsOf}
use Rattle.cap_commands.proofs.BlockListing.{Printing}
use Rattle.cap_commands.specs.inner.BlockWalk.{BlockWalkLasts, WalksBlocks}

lasts-trans : (old mid new : ReaderState Order) → BlockWalkLasts old mid → BlockWalkLasts mid new
    → BlockWalkLasts old new
lasts-trans old mid new a b = record { broken = b.broken ∙ a.broken; failed = b.failed ∙ a.failed }

-- what ended the blocks comes, now or again
lasts-stop : (inside : Bool) (fault : Option Rule) (stop : Stop) (old new : ReaderState Order)
    → GivesStop inside fault stop old new → BlockWalkLasts old new
lasts-stop inside fault stop old new g = by old.stop g.again g.first
  where
    by : (o : Option Stop) → IfSome o (λ first. (stop ≡ first) × (new ≡ old))
        → IfNone o (readers.ReaderStops inside fault stop old new) → BlockWalkLasts old new
    by None again first = record { broken = first.goes.after ∙ sym first.goes.before; failed = first.goes.failed }
    by (Some s) again first = subst (BlockWalkLasts old) (sym again.1) (record { broken = refl; failed = refl })

module _ (line_of : ℕ → Block → List ℕ) (old mid new : ReaderState Order) (fo fm : Bool) (from m : Writer) (n : ℕ)
    (p : Printing line_of old mid fo fm from m n) where
  pub walks-fault : (fault : Fault) → GivesNextBlock mid (Err fault) new
      → WalksBlocks {A = Unit {0}} old (Err fault) new
  walks-fault (Refused refusal) g = (g.stop_is, lasts-trans old mid new p.lasts (lasts-stop _ _ _ mid new g))
  walks-fault (Read file offset) g = record {
    of = g.file_is ∙ p.file;
    again = subst (λ b. IfSome b (λ first. offset ≡ first)) p.lasts.broken g.again;
    first = by old.broken mid.broken p.lasts.broken g.first;
    broken = g.after;
    failed = g.failed;
    can_fail = p.can_fail g.can_fail;
  }
    where
      by : (a b : Option ℕ) → b ≡ a → IfNone b (offset ≡ mid.offset) → IfNone a (old.offset ≤ offset)
      by None None is first = omega (arith, p.offset, first)
      by None (Some y) is first = absurd (clash is)
        where
          clash : Some y ≡ None → ⊥
          clash e = cc
      by (Some x) b is first = tt
  walks-fault Write g = absurd g
  walks-fault Memory g = (
    g.0.stop,
    lasts-trans old mid new p.lasts (record {
      broken = g.0.goes.after
          ∙ sym g.0.goes.before;
      failed = g.0.goes.failed;
    }),
  )

  some : (o : Option Stop) (s : Stop) → o ≡ Some s → IsSome o
  some o s is = grind arith

  pub walks-end : GivesNextBlock mid (Ok None) new → IsSome new.stop × BlockWalkLasts old new
  walks-end g = (some new.stop g.0 g.2.stop_is, lasts-trans old mid new p.lasts (lasts-stop _ _ _ mid new g.2))

  pub lasts-given : (block : Block) → GivesBlock mid block new → BlockWalkLasts old new
  lasts-given block g =
      lasts-trans old mid new p.lasts (record {
        broken = g.gives.goes.after
            ∙ sym g.gives.goes.before;
        failed = g.gives.goes.failed;
      })

-- A failed read is of the only file.
pub fails-walked : {A : Type 0} (old new : ReaderState Order) (can_fail : Bool) (result : Result A Fault)
    → WalksBlocks old result new → old.file ≡ 1
    → (IsTrue old.can_fail → IsTrue can_fail) → FailsOf (can_fail ∷ []) result
fails-walked old new can_fail (Ok u) w is can = tt
fails-walked old new can_fail (Err (Refused r)) w is can = tt
fails-walked old new can_fail (Err (Read file offset)) w is can =
    let only : file ≡ 1 = w.of ∙ is in (omega arith, rw only (can w.can_fail))
fails-walked old new can_fail (Err Write) w is can = tt
fails-walked old new can_fail (Err Memory) w is can = tt
