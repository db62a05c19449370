-- A tagged frame carries what comes after its tags.
use Rattle.std.specs.List.{AllByRecursion}
use Rattle.std.proofs.Common.{◌≡◌, ◌≤◌, ◌/◌, ◌%◌, ◌∙◌, ℕ, Bool, true, false, List, [], ◌∷◌, ◌++◌, length, drop, ap, sym}
use Rattle.std.proofs.Common.{arith, length-append, refl, Some}
use Rattle.std.proofs.Math.Seq.{drop-append_seam}
use Rattle.std.proofs.lemmas.List.Elements.{recursion_from_All}
use Rattle.cap_bytes.specs.Number.{number}
use Rattle.cap_bytes.specs.declared.numbers.Order.TheVariants.{Big}
use Rattle.cap_link.specs.Tags.{announced, carried, is_tag, payload}
use Rattle.cap_link.specs.Links.{announced_in, ethernet, is_captured_whole, network_of, typed}
use Rattle.cap_link.specs.inner.Tagged.{Tag, tagged, TagsLaw}
use Rattle.cap_link.proofs.TagSteps.{announced-tag, announced-last}

-- two bytes of a number spell it
pub number-two : (n : ℕ) (rest : List ℕ) → number Big 2 (n / 256 ∷ n % 256 ∷ rest) ≡ n
unfolding number
number-two n rest = omega arith

pub length-tagged : (tags : List Tag) (kind : ℕ) (bytes : List ℕ) → 2 ≤ length (tagged tags kind bytes)
unfolding tagged
length-tagged [] kind bytes = omega arith
length-tagged (tag ∷ tags) kind bytes = omega arith

-- past any number of tags
pub announced-tagged : (tags : List Tag) (kind : ℕ) (bytes : List ℕ)
    → AllByRecursion (λ tag. is_tag tag.protocol ≡ true) tags → is_tag kind ≡ false
    → announced (number Big 2 (tagged tags kind bytes)) (drop 2 (tagged tags kind bytes))
    ≡ Some (record { kind = kind; bytes = bytes })
unfolding tagged
announced-tagged [] kind bytes all none = rw number-two (announced-last kind bytes none)
announced-tagged (tag ∷ tags) kind bytes all none =
    grind (arith, announced-tagged tags kind bytes all.1 none, length-tagged, number-two, announced-tag)

-- an Ethernet header, by what comes after its addresses
pub typed-behind : (whole : Bool) (frame rest : List ℕ) → drop 12 frame ≡ rest → 14 ≤ length frame
    → typed whole ethernet frame ≡ carried whole (announced (number Big 2 rest) (drop 2 rest))
unfolding typed announced_in
typed-behind whole frame rest behind long = grind arith

carried-some : (whole : Bool) (kind : ℕ) (bytes : List ℕ)
    → carried whole (Some (record { kind = kind; bytes = bytes })) ≡ payload kind bytes
unfolding carried
carried-some whole kind bytes = refl

pub tags-law : TagsLaw
unfolding network_of
tags-law addresses tags kind bytes original twelve all none =
    let rest = tagged tags kind bytes in
    let frame = addresses ++ rest in
    let whole = is_captured_whole frame original in
    let behind : drop 12 frame ≡ rest = ap (λ n. drop n frame) (sym twelve) ∙ drop-append_seam addresses rest in
    let long : 14 ≤ length frame = omega (arith, length-append addresses rest, length-tagged tags kind bytes) in
    typed-behind whole frame rest behind long
    ∙ (ap (carried whole) (announced-tagged tags kind bytes
    (recursion_from_All (λ tag. is_tag tag.protocol ≡ true) tags all) none) ∙ carried-some whole kind bytes)
