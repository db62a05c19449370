-- The packets of a feed, written one by one in the form of pcapng.
use Rattle.std.proofs.Common.{◌≡◌, ℕ, ◌≤◌, ◌<◌, ◌==◌, List, Bool, IsTrue, false, Some, None, refl, arith}
use Rattle.std.proofs.Common.{length-append}
use Rattle.std.proofs.lemmas.Bool.{eq-eqb, ne_eqb}
use Rattle.cap_bytes.specs.Device.{Writer}
use Rattle.cap_bytes.specs.declared.faults.Rule.{Rule}
use Rattle.cap_bytes.specs.declared.numbers.Order.{Order}
use Rattle.cap_source.proofs.Onward.{Went}
use Rattle.cap_source.proofs.Walking.{Plan, IsPlan, GoesOn, GivesUp, Walking}
use Rattle.cap_source.specs.Feed.{Feed}
use Rattle.cap_source.specs.inner.Walk.{SameEndings}
use Rattle.cap_source.specs.declared.packets.Meta.{Meta}
use Rattle.cap_write.proofs.Places.{position_or_len-none, position_or_len-some}
use Rattle.cap_write.specs.Numbering.{Origins, own, shared, count_of, numbered_of, numbered, with_origin, write_fault}
use Rattle.cap_write.specs.Numbering.{refusal_at, refusal_in}
use Rattle.cap_write.specs.Texts.{packets_bytes, count_after, text_behind, one_bytes}

eqb-false : (a b : ℕ) → a < b → (a == b) ≡ false
eqb-false a b h = ne_eqb a b (λ e. omega (arith, h, e))

-- How many interfaces are described after a packet is how many are used then.
pub count_after-is : (origins : Origins) (meta : Meta) (frame : List ℕ)
    → count_after (count_of origins) (numbered_of origins meta frame) ≡ count_of (with_origin origins meta)
count_after-is (own origins) meta frame =
    grind (arith, eqb-false, position_or_len-some, eq-eqb, position_or_len-none, length-append)
count_after-is (shared descriptions) meta frame =
    grind (arith, eqb-false, position_or_len-some, eq-eqb, position_or_len-none, length-append)

-- what is written after those interfaces were described
abbrev pub plan_of : Order → Origins → Plan
plan_of order origins = record { text = text_behind order origins; refusal = refusal_in origins }

pub plan_of-is : (order : Order) (origins : Origins) → IsPlan (plan_of order origins)
unfolding numbered packets_bytes refusal_in
plan_of-is order origins = grind arith

-- a packet that isn't refused
pub plan_of-next : (order : Order) (origins : Origins) (meta : Meta) (frame : List ℕ)
    → write_fault origins meta ≡ None
    → GoesOn (plan_of order origins) meta frame (one_bytes order origins meta frame)
    (plan_of order (with_origin origins meta))
unfolding numbered packets_bytes refusal_in
plan_of-next order origins meta frame none =
    record { text = λ items. rw (none, count_after-is origins meta frame) refl; refusal = λ items. rw none refl }

-- a packet that is
pub plan_of-refused : (order : Order) (origins : Origins) (meta : Meta) (frame : List ℕ) (rule : Rule)
    → write_fault origins meta ≡ Some rule
    → GivesUp (plan_of order origins) meta frame (refusal_at meta rule)
unfolding numbered packets_bytes refusal_in
plan_of-refused order origins meta frame rule is = grind arith

-- The packets so far of a feed that was `old` are written by a writer that was `from`.
pub record Feeding (order : Order) (old new : Feed) (origins_old origins : Origins) (failed_old failed_new : Bool)
    (from to : Writer) : Type 0 where
  pub limit : count_of origins ≤ 1024
  pub went : Went old new
  pub ends : IsTrue old.told → SameEndings old new
  pub walk : Walking (plan_of order origins_old) (plan_of order origins) old new failed_old failed_new from to
