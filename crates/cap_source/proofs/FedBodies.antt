-- The body of a block, and what it says.
use Rattle.std.proofs.Common.{◌≡◌, ℕ, ◌+◌, ◌-◌, ◌≤◌, List, length, take, drop, Ok, Err, Some, sym, ap, ◌∙◌}
use Rattle.std.proofs.Common.{arith}
use Rattle.std.proofs.Common.{length-drop}
use Rattle.std.specs.Prelude.{Result}
use Rattle.std.proofs.lemmas.List.{drop-take, length-take-le}
use Rattle.cap_blocks.specs.Split.{body_in}
use Rattle.cap_blocks.specs.declared.blocks.Block.{Block}
use Rattle.cap_bytes.specs.declared.faults.Rule.{Rule}
use Rattle.cap_source.proofs.Blocks.{IsFit}
use Rattle.cap_source.specs.declared.contents.BlockContent.{BlockContent}
use Rattle.cap_source.specs.declared.contents.BlockContent.TheVariants as contents
use Rattle.cap_source.specs.Fed.{PushView}
use Rattle.cap_source.specs.Items.{SectionProgress}
use Rattle.cap_source.specs.declared.fed.Stage.TheVariants.{Blocks}
use Rattle.cap_source.specs.inner.FedSteps.{SaysWithin, behind_block}

pub body-is : (total : ℕ) (b : List ℕ) → 12 ≤ total → drop 8 (take (total - 4) b) ≡ body_in total b
body-is total b least =
    ap (λ (n : ℕ). drop 8 (take n b)) (sum total least) ∙ drop-take 8 (total - 12) b
  where
    sum : (total : ℕ) → 12 ≤ total → total - 4 ≡ 8 + (total - 12)
    sum total least = omega arith

pub body-size : (total : ℕ) (b : List ℕ) → 12 ≤ total → total ≤ length b → length (body_in total b) + 12 ≡ total
body-size total b least whole =
    omega (arith, least, length-take-le (total - 12) (drop 8 b) (omega (arith, whole, least, length-drop 8 b)))

pub says-within : (few : ℕ) (block : Block) (body : List ℕ) (said : Result BlockContent Rule)
    → length body + 12 ≡ block.total
    → IsFit few body said → SaysWithin block said
says-within few block body (Ok contents.Section) size fit = tt
says-within few block body (Ok (contents.Interface described)) size fit = tt
says-within few block body (Ok (contents.Packet p)) size fit = omega (arith, fit.0)
says-within few block body (Ok (contents.Other kind)) size fit = tt
says-within few block body (Err rule) size fit = tt

-- it goes on behind a block
pub behind-is : (old : PushView) (block : Block) (progress : SectionProgress) (n o : ℕ) → block.offset ≡ o
    → n ≡ block.total
    → record {
      file = old.file;
      tail = old.tail;
      ended = old.ended;
      offset = o + n;
      stage = Blocks (Some block.order);
      progress = progress;
    } ≡ behind_block old block progress
behind-is old block progress n o begins is = λ i. record {
  file = old.file;
  tail = old.tail;
  ended = old.ended;
  offset = sym begins i + is i;
  stage = Blocks (Some block.order);
  progress = progress;
}
