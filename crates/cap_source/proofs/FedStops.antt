-- A capture that is fed stops where its bytes break a rule, whatever is fed later.
use Rattle.std.proofs.Common.{◌≡◌, ℕ, ◌<◌, ◌^◌, ◌==◌, ◌&&◌, not, Bool, true, false, List, ◌++◌, length}
use Rattle.std.proofs.Common.{Option}
use Rattle.std.proofs.Common.{Some, refl, sym, ap, ◌∙◌, subst, arith, append-nil, length-append}
use Rattle.std.specs.Prelude.{Result}
use Rattle.std.proofs.lemmas.Bool.Decides.{nat_tests}
use Rattle.cap_bytes.proofs.Items.{stop_by-sized, stop_where-fault}
use Rattle.cap_bytes.specs.Items.{stop_by, stop_where}
use Rattle.cap_bytes.specs.declared.faults.Fault.{Fault}
use Rattle.cap_bytes.specs.declared.faults.Rule.{Rule}
use Rattle.cap_bytes.specs.declared.faults.Rule.TheVariants.{Cut}
use Rattle.cap_bytes.specs.declared.faults.Tail.{Tail}
use Rattle.cap_bytes.specs.declared.stops.Stop.{Stop}
use Rattle.cap_bytes.specs.declared.stops.Stop.TheVariants as stops
use Rattle.cap_source.specs.Fed.{FedRest, PushView, MayBeFed, rest_after, rest_of_stop}
use Rattle.cap_source.specs.Items.{items_of_stop}
use Rattle.cap_source.specs.declared.fed.PushEvent.{PushEvent}
use Rattle.cap_source.specs.inner.FedSteps.{AreShort, BreaksBy, BreaksIf, BreaksOff, PushKeeps}
use Rattle.cap_source.specs.declared.fed.Stage.TheVariants.{Stopped}
use Rattle.cap_source.specs.inner.FedSteps.{IsSoundPush, IsToldStop, StepsFed, StopsFed, format_at, is_cut_rule}

-- what is cut short gives no packet
pub stop_by-short : (inside : Bool) (tail : Tail) (file offset size : ℕ)
    → AreShort (items_of_stop (stop_by inside tail file offset size Cut))
stop_by-short inside tail file offset size = grind arith

pub stop-none : (inside : Bool) (tail : Tail) (file offset : ℕ) (bytes : List ℕ) (fault : Option Rule)
    → (inside && (length bytes == 0)) ≡ true → stop_where inside tail file offset bytes fault ≡ Some stops.End
unfolding stop_where
stop-none inside tail file offset bytes fault none = rw none refl

-- it stops for good
module _ (old : PushView) (b : List ℕ) (result : Result PushEvent Fault) (new : PushView) where
  stopped-by : (stop : Stop)
      → ((later : List ℕ) → MayBeFed old later
      → rest_after old (b ++ later) ≡ rest_of_stop (format_at old.stage) old.progress stop)
      → new ≡ record old { stage = Stopped (format_at old.stage) stop } → IsToldStop stop result
      → StepsFed old b result new
  stopped-by stops.End every is told = rw (told, is) (every, record { items = refl; still = λ rest. refl }, refl)
  stopped-by (stops.Cut rest) every is told =
      rw (told, is) (every, record { items = refl; still = λ rest. refl }, refl)
  stopped-by (stops.Refused refusal) every is told =
      rw (told, is) (every, record { items = refl; still = λ rest. refl }, refl)

  pub stopped-as : (stop : Stop)
      → ((later : List ℕ) → MayBeFed old later
      → rest_after old (b ++ later) ≡ rest_of_stop (format_at old.stage) old.progress stop)
      → StopsFed old stop result new → StepsFed old b result new
  stopped-as stop every h = stopped-by stop every h.0 h.1

-- some bytes that break a rule, by what ends the capture there
module _ (old : PushView) (b : List ℕ) (rule : Rule) (stop : Stop)
    (here : rest_after old b ≡ rest_of_stop (format_at old.stage) old.progress stop)
    (more : (rule ≡ Cut → ⊥) → (later : List ℕ) → rest_after old (b ++ later)
    ≡ rest_of_stop (format_at old.stage) old.progress stop)
    (short : rule ≡ Cut → AreShort (items_of_stop stop))
    (few : rule ≡ Cut → length b < 2 ^ 19) where
  every-by : (ended : Bool) → old.ended ≡ ended → (not ended && is_cut_rule rule) ≡ false
      → (later : List ℕ) → MayBeFed old later → rest_after old (b ++ later)
      ≡ rest_of_stop (format_at old.stage) old.progress stop
  every-by true e sure later may =
      ap (λ (l : List ℕ). rest_after old (b ++ l)) (may e) ∙ (ap (rest_after old) (append-nil b) ∙ here)
  every-by false e sure later may = more (other rule sure) later
    where
      other : (r : Rule) → is_cut_rule r ≡ false → r ≡ Cut → ⊥
      other r sure cut = grind arith

  broken-if : (wanted : Bool) (result : Result PushEvent Fault) (new : PushView)
      → (not old.ended && is_cut_rule rule) ≡ wanted → BreaksIf wanted old stop result new → StepsFed old b result new
  broken-if true result new e h =
      subst (λ (r : Result PushEvent Fault). StepsFed old b r new) (sym h.0) (
        open_still old.ended (is_cut_rule rule) e,
        subst AreShort (ap (λ (r : FedRest). r.items) (sym here))
            (short (cut rule (right old.ended (is_cut_rule rule) e))),
        λ later. ap (λ (c : PushView). rest_after c (b ++ later)) (sym h.1),
        few (cut rule (right old.ended (is_cut_rule rule) e)),
      )
    where
      open_still : (x y : Bool) → (not x && y) ≡ true → x ≡ false
      open_still x y e = grind arith

      right : (x y : Bool) → (not x && y) ≡ true → y ≡ true
      right x y e = grind arith

      cut : (r : Rule) → is_cut_rule r ≡ true → r ≡ Cut
      cut r e = grind arith
  broken-if false result new e h = stopped-as old b result new stop (every-by old.ended refl e) h

  pub broken-by : (result : Result PushEvent Fault) (new : PushView) → BreaksBy old rule stop result new
      → StepsFed old b result new
  broken-by result new h = broken-if (not old.ended && is_cut_rule rule) result new refl h

-- the same where a header, a record or a block may begin
module _ (old : PushView) (inside : Bool) (faulty : List ℕ → Option Rule) (b : List ℕ) (rule : Rule)
    (at : (w : List ℕ) (stop : Stop) → stop_where inside old.tail old.file old.offset w (faulty w) ≡ Some stop
    → rest_after old w ≡ rest_of_stop (format_at old.stage) old.progress stop)
    (is : faulty b ≡ Some rule)
    (more : (rule ≡ Cut → ⊥) → (later : List ℕ) → faulty (b ++ later) ≡ Some rule)
    (some : (rule ≡ Cut → ⊥) → 0 < length b)
    (few : rule ≡ Cut → length b < 2 ^ 19) where
  stop-at : (stop : Stop) → stop_where inside old.tail old.file old.offset b (Some rule) ≡ Some stop
      → rest_after old b ≡ rest_of_stop (format_at old.stage) old.progress stop
  stop-at stop e = at b stop (ap (stop_where inside old.tail old.file old.offset b) is ∙ e)

  short-by : (none : Bool) (stop : Stop) → (inside && (length b == 0)) ≡ none
      → stop_where inside old.tail old.file old.offset b (Some rule) ≡ Some stop → rule ≡ Cut
      → AreShort (items_of_stop stop)
  short-by true stop e w cut =
      let same : Some stop ≡ Some stops.End =
      sym w ∙ stop-none inside old.tail old.file old.offset b (Some rule) e in
      let end : stop ≡ stops.End = cc in
      subst (λ (s : Stop). AreShort (items_of_stop s)) (sym end) tt
  short-by false stop e w cut =
      let same : Some stop ≡ Some (stop_by inside old.tail old.file old.offset (length b) rule) =
      sym w ∙ stop_where-fault inside old.tail old.file old.offset b (Some rule) rule e refl in
      let by : stop ≡ stop_by inside old.tail old.file old.offset (length b) rule = cc in
      subst (λ (s : Stop). AreShort (items_of_stop s)) (sym by)
      (subst (λ (r : Rule). AreShort (items_of_stop (stop_by inside old.tail old.file old.offset (length b) r)))
      (sym cut) (stop_by-short inside old.tail old.file old.offset (length b)))

  not-empty : (xs : List ℕ) → 0 < length xs → (inside && (length xs == 0)) ≡ false
  not-empty xs some = grind (arith, nat_tests)

  same-stop : (later : List ℕ) (stop : Stop) → (rule ≡ Cut → ⊥)
      → stop_where inside old.tail old.file old.offset b (Some rule) ≡ Some stop
      → stop_where inside old.tail old.file old.offset (b ++ later) (faulty (b ++ later)) ≡ Some stop
  same-stop later stop other e =
      let here = not-empty b (some other) in
      let there = not-empty (b ++ later) (omega (arith, some other, length-append b later)) in
      ap (stop_where inside old.tail old.file old.offset (b ++ later)) (more other later)
      ∙ (stop_where-fault inside old.tail old.file old.offset (b ++ later) (Some rule) rule there refl
      ∙ (ap Some (stop_by-sized inside old.tail old.file old.offset (length (b ++ later)) (length b) rule
      (λ cut. absurd (other cut)))
      ∙ sym (stop_where-fault inside old.tail old.file old.offset b (Some rule) rule here refl) ∙ e))

  pub broken : (result : Result PushEvent Fault) (new : PushView) → BreaksOff old inside b rule result new
      → StepsFed old b result new
  broken result new h =
      broken-by old b rule h.0 (stop-at h.0 h.1)
      (λ other later. at (b ++ later) h.0 (same-stop later h.0 other h.1))
      (short-by (inside && (length b == 0)) h.0 refl h.1) few result new h.2

-- what stays
kept-if : (wanted : Bool) (old : PushView) (stop : Stop) (result : Result PushEvent Fault) (new : PushView)
    → BreaksIf wanted old stop result new → PushKeeps old new
kept-if true old stop result new h = grind arith
kept-if false old stop result new h = grind arith

pub broken-by-keeps : (old : PushView) (rule : Rule) (stop : Stop) (result : Result PushEvent Fault)
    (new : PushView)
    → BreaksBy old rule stop result new → PushKeeps old new
broken-by-keeps old rule stop result new h = kept-if (not old.ended && is_cut_rule rule) old stop result new h

pub broken-keeps : (old : PushView) (inside : Bool) (b : List ℕ) (rule : Rule) (result : Result PushEvent Fault)
    (new : PushView) → BreaksOff old inside b rule result new → PushKeeps old new
broken-keeps old inside b rule result new h = broken-by-keeps old rule h.0 result new h.2

sound-if : (wanted : Bool) (old : PushView) (stop : Stop) (result : Result PushEvent Fault) (new : PushView)
    → IsSoundPush old → BreaksIf wanted old stop result new → IsSoundPush new
sound-if true old stop result new s h = subst IsSoundPush (sym h.1) s
sound-if false old stop result new s h =
    subst IsSoundPush (sym h.0)
    (record { limit = s.limit; uncounted = s.uncounted; counted = s.counted; stage = tt })

pub broken-by-sound : (old : PushView) (rule : Rule) (stop : Stop) (result : Result PushEvent Fault)
    (new : PushView) → IsSoundPush old → BreaksBy old rule stop result new → IsSoundPush new
broken-by-sound old rule stop result new s h = sound-if (not old.ended && is_cut_rule rule) old stop result new s h

pub broken-sound : (old : PushView) (inside : Bool) (b : List ℕ) (rule : Rule) (result : Result PushEvent Fault)
    (new : PushView) → IsSoundPush old → BreaksOff old inside b rule result new → IsSoundPush new
broken-sound old inside b rule result new s h = broken-by-sound old rule h.0 result new s h.2
