-- Packets that run backward, counted.
use Rattle.std.proofs.Common.{◌≡◌, ◌∙◌, ◌+◌, ◌^◌, ◌-◌, ℕ, Bool, Option, Some, None, ap}
use Rattle.std.specs.Prelude.{min}
use Rattle.cap_merge.specs.Backward.{backward_after, backward_step}
use Rattle.cap_source.specs.Feed.{IfPacket}
use Rattle.cap_source.specs.Times.{meta_time}
use Rattle.cap_source.specs.declared.feeds.Head.{Head}
use Rattle.cap_source.specs.declared.feeds.Head.TheVariants as heads
use Rattle.cap_time.specs.declared.stamps.Stamp.{Stamp}

-- one packet more
pub counted-more : (known : Option Head) (counts : Bool) (count step sum : ℕ) (clock : Option Stamp)
    → IfPacket known (λ meta. step ≡ backward_step counts clock (meta_time meta))
    → sum ≡ min (count + step) (2 ^ 64 - 1)
    → IfPacket known (λ meta. sum ≡ backward_after counts count clock (meta_time meta))
counted-more None counts count step sum clock one is = tt
counted-more (Some (heads.Packet meta)) counts count step sum clock one is =
    is ∙ ap (λ n. min (count + n) (2 ^ 64 - 1)) one
counted-more (Some (heads.Refused refusal)) counts count step sum clock one is = tt
counted-more (Some heads.End) counts count step sum clock one is = tt
