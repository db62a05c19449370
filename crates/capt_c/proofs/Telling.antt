-- One packet more was told, at the end or in front.
use Rattle.std.proofs.Common.{◌≡◌, ◌+◌, ℕ, suc, List, [], ◌∷◌, ◌++◌, length, slice_set, take, drop, refl, sym, ◌∙◌}
use Rattle.std.proofs.Common.{ap, arith, drop-drop}
use Rattle.std.proofs.lemmas.List.{drop-set-lt}
use Rattle.cap_source.specs.Feed.{Item, packet}
use Rattle.cap_source.specs.declared.packets.Meta.{Meta}
use Rattle.capt_c.specs.Packets.{ShowsFields, Told}
use Rattle.capt_c.specs.declared.packets.CPacket.{CPacket}

pub Told-more : (old : List Item) (ps : List CPacket) (now : List Item) → Told old ps now
    → (meta : Meta) (frame : List ℕ) (rest : List Item) (p : CPacket)
    → now ≡ packet meta frame ∷ rest → ShowsFields meta p → Told old (ps ++ p ∷ []) rest
Told-more old [] now told meta frame rest p next shows = (meta, frame, rest, sym told ∙ next, shows, refl)
Told-more old (q ∷ ps) now told meta frame rest p next shows =
    (told.0, told.1, told.2, told.3, told.4, Told-more told.2 ps now told.5 meta frame rest p next shows)

pub Told-first : (old mid new : List Item) (fs : List CPacket) (p : CPacket) (others : List CPacket) (k : ℕ)
    → length fs ≡ 1 → (meta : Meta) → ShowsFields meta p → (frame : List ℕ)
    → old ≡ packet meta frame ∷ mid → Told mid (take k others) new
    → Told old (take (k + 1) (slice_set fs 0 p ++ others)) new
Told-first old mid new [] p others k one meta shows frame first told = absurd (omega (arith, one))
Told-first old mid new (q ∷ []) p others k one meta shows frame first told =
    let next : k + 1 ≡ suc k = omega arith in rw next (meta, frame, mid, first, shows, told)
Told-first old mid new (q ∷ r ∷ fs) p others k one meta shows frame first told = absurd (omega (arith, one))

-- the packets behind those that were told stay
pub others-kept : (now was : List CPacket) (k : ℕ) (p : CPacket) → drop k now ≡ drop k was
    → drop (k + 1) (slice_set now k p) ≡ drop (k + 1) was
others-kept now was k p same =
    drop-set-lt (k + 1) now k p (omega arith) ∙ (sym (drop-drop 1 k now) ∙ (ap (drop 1) same ∙ drop-drop 1 k was))

pub others-behind : (firsts others was new : List CPacket) (p : CPacket) (k : ℕ) → length firsts ≡ 1
    → was ≡ firsts ++ others → drop k new ≡ drop k others
    → drop (k + 1) (slice_set firsts 0 p ++ new) ≡ drop (k + 1) was
others-behind [] others was new p k one is same = absurd (omega (arith, one))
others-behind (q ∷ []) others was new p k one is same =
    let next : k + 1 ≡ suc k = omega arith in rw (next, is) same
others-behind (q ∷ r ∷ firsts) others was new p k one is same = absurd (omega (arith, one))
