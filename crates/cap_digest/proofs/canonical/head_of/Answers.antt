use Rattle.std.proofs.Common.{FitsSigned, rules, refl, ap, ◌∙◌, Option, ℤ}
use Rattle.std.specs.Option.{option_map}
use Rattle.std.proofs.lemmas.Int.{to_z-of_z}
use Rattle.std.specs.Int.{to_be_bytes, w64, w128, cast_unsigned}
use Rattle.cap_digest.specs.Canonical.{canonical_form}
use Rattle.cap_bytes.specs.Number.{bytes_of}
use Rattle.cap_time.specs.Stamp.{printed_of}
use Rattle.cap_time.specs.declared.stamps.Stamp.{Stamp}
use Rattle.cap_digest.proofs.Heads.{six-put}
use Rattle.cap_digest.proofs.canonical.head_of.Goals as goal

pub returns : goal.returns
unfolding bytes_of
returns c =
    let e = c.canonical_form-seconds.ensures in
    let time = c.time.ensures.time in
    let seconds = e.seconds
    ∙ ap (λ (t : Option Stamp). (canonical_form (option_map printed_of t)).seconds) time in
    let numerator = e.numerator
    ∙ ap (λ (t : Option Stamp). (canonical_form (option_map printed_of t)).numerator) time in
    let denominator = e.denominator
    ∙ ap (λ (t : Option Stamp). (canonical_form (option_map printed_of t)).denominator) time in
    let fits : FitsSigned w128 c.canonical_form-seconds.result.0 = search rules in
    six-put _ _ _ _ _ _ _ _ _ _ _ _ _ _ _ _ _ _
    c.put.ensures c.to_be_bytes.ensures refl
    c.put-2.ensures c.to_be_bytes-2.ensures refl
    c.put-3.ensures c.to_be_bytes-3.ensures refl
    c.put-4.ensures (c.to_be_bytes-4.ensures ∙ ap (λ (z : ℤ). to_be_bytes w128 (cast_unsigned w128 z))
    (to_z-of_z w128 c.canonical_form-seconds.result.0 fits ∙ seconds)) refl
    c.put-5.ensures (c.to_be_bytes-5.ensures ∙ ap (to_be_bytes w64) numerator) refl
    c.put-6.ensures (c.to_be_bytes-6.ensures ∙ ap (to_be_bytes w64) denominator) refl
    (search rules)
