-- Whether a packet comes next that is shown already.
use Rattle.std.proofs.Common.{◌≡◌, IsTrue, Bool, true, false, Option, Some, None, is_some, refl, sym, ap, subst, ◌∙◌}
use Rattle.std.proofs.Common.{inl, inr, arith}
use Rattle.cap_source.specs.Feed.{Knows, ShowsPacket}
use Rattle.cap_source.specs.inner.FileState.{FileState, file_feed, head_of, is_packet, is_unbroken, FileLearns}
use Rattle.cap_source.specs.inner.FileState.{LearnsOr}
use Rattle.cap_source.specs.inner.FileState.{ShowsNext}
use Rattle.cap_source.specs.inner.FileState.{TakesShown}
use Rattle.cap_source.specs.declared.readers.Peeked.{Peeked}
use Rattle.cap_source.specs.declared.readers.Peeked.TheVariants as peeks

-- it is known already
pub shows-known : (old : FileState) (known : Option Peeked) (shown : Bool) → IsTrue (is_some known)
    → shown ≡ is_packet known → ShowsNext old known shown old known
shows-known old None shown is e = grind arith
shows-known old (Some (peeks.Packet meta place)) shown is e =
    subst (λ (b : Bool). ShowsNext old (Some (peeks.Packet meta place)) b old (Some (peeks.Packet meta place))) (sym e)
    (meta, place, refl, (refl, refl))
shows-known old (Some (peeks.Refused refusal ending)) shown is e =
    subst (λ (b : Bool). ShowsNext old (Some (peeks.Refused refusal ending)) b old
    (Some (peeks.Refused refusal ending))) (sym e) (inl (refl, refl))
shows-known old (Some (peeks.End ending)) shown is e =
    subst (λ (b : Bool). ShowsNext old (Some (peeks.End ending)) b old (Some (peeks.End ending))) (sym e)
    (inl (refl, refl))

-- it is learned
pub shows-learned : (old new : FileState) (known after : Option Peeked) (shown : Bool) → is_some known ≡ false
    → TakesShown old true after new → shown ≡ is_packet after
    → ShowsNext old known shown new after
shows-learned old new (Some next) after shown is h e = grind arith
shows-learned old new None after shown is h e =
    subst (λ (a : Option Peeked). ShowsNext old None shown new a) (sym h.1) (by h.0 h.2 (e ∙ ap is_packet h.1))
  where
    by : (next : Peeked) → FileLearns old next new → shown ≡ is_packet (Some next)
        → ShowsNext old None shown new (Some next)
    by (peeks.Packet meta place) l s = subst (λ (b : Bool). ShowsNext old None b new (Some (peeks.Packet meta place)))
        (sym s) (meta, place, refl, l)
    by (peeks.Refused refusal ending) l s =
        subst (λ (b : Bool). ShowsNext old None b new (Some (peeks.Refused refusal ending))) (sym s)
        (inr (peeks.Refused refusal ending, refl, l))
    by (peeks.End ending) l s = subst (λ (b : Bool). ShowsNext old None b new (Some (peeks.End ending))) (sym s)
        (inr (peeks.End ending, refl, l))

knows-learned : (old new : FileState) (known after : Option Peeked) (next : Peeked)
    → IsTrue (is_unbroken known old.broken)
    → after ≡ Some next → LearnsOr old known next new
    → Knows (file_feed old known) (head_of next) (file_feed new after)
knows-learned old new None after next whole is l = grind arith
knows-learned old new (Some k) after next whole is l = grind arith

-- the same of the file as a feed
pub shows-packet : (old new : FileState) (known after : Option Peeked) (shown : Bool)
    → IsTrue (is_unbroken known old.broken)
    → ShowsNext old known shown new after
    → ShowsPacket (file_feed old known) shown (file_feed new after)
shows-packet old new known after true whole h =
    (h.0, knows-learned old new known after (peeks.Packet h.0 h.1) whole h.2 h.3)
shows-packet old new known after false whole (inl h) = inl (λ i. file_feed (h.0 i) (h.1 i))
shows-packet old new known after false whole (inr h) =
    inr (head_of h.0, knows-learned old new known after h.0 whole h.1 h.2)
