-- What a capture that is fed gives next, by what looking on at its bytes found.
use Rattle.std.proofs.Common.{◌≡◌, ℕ, ◌<◌, ◌^◌, length, List, [], ◌++◌, false, Ok, sym, ap, ◌∙◌, subst, append-nil}
use Rattle.std.proofs.Common.{true≢false}
use Rattle.cap_source.specs.Fed.{FedRest, PushView, MayBeFed, rest_after}
use Rattle.cap_source.specs.declared.fed.PushEvent.TheVariants as steps
use Rattle.cap_source.specs.inner.FedSteps.{AreShort, LooksFed}

-- bytes may still be fed
not-ended : (old : PushView) → old.ended ≡ false → (later : List ℕ) → MayBeFed old later
not-ended old going later ended = absurd (true≢false (sym ended ∙ going))

-- more are wanted, and the bytes to come may have been moved
pub wants-more : (old : PushView) (bytes : List ℕ) (new : PushView) (rest moved : List ℕ)
    → LooksFed old bytes (Ok steps.Short) new rest → moved ≡ rest
    → (old.ended ≡ false) × AreShort (rest_after old (bytes ++ [])).items
    × ((later : List ℕ) → rest_after old (bytes ++ later) ≡ rest_after new (moved ++ later))
    × (length rest < 2 ^ 19)
wants-more old bytes new rest moved looks same =
    let going : old.ended ≡ false = sym looks.keeps.ended ∙ looks.steps.0 in (
      going,
      subst AreShort (ap (λ (r : FedRest). r.items) (ap (rest_after looks.reached) (sym (append-nil rest))
          ∙ sym (looks.follows [] (not-ended old going [])))) looks.steps.1,
      λ later. looks.follows later (not-ended old going later) ∙ looks.steps.2 later
          ∙ ap (λ (xs : List ℕ). rest_after new (xs ++ later)) (sym same),
      looks.steps.3,
    )
