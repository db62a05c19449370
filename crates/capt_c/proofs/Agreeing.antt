-- What is known to come next is what is answered.
use Rattle.std.proofs.Common.{Some, None, ap}
use Rattle.std.specs.Prelude.{◌≡◌, Option, IfSome}
use Rattle.cap_source.specs.declared.feeds.Head.{Head}
use Rattle.capt_c.specs.Packets.{AgreesWithKnown, head_answer}

pub agrees-known : (P : Head → Type 0) (known : Option Head) (head : Head)
    → IfSome known (λ first. (head ≡ first) × P first) → AgreesWithKnown known (head_answer head)
agrees-known P None head again = tt
agrees-known P (Some first) head again = ap head_answer again.0
