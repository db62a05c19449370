use Rattle.std.proofs.Common.{◌≡◌, ◌+◌, ◌++◌, ◌∷◌, [], List, length, map, sym, ap, ◌∙◌, subst, arith, refl}
use Rattle.std.proofs.Common.{length-append}
use Rattle.std.specs.List.{range_with_len}
use Rattle.std.proofs.lemmas.List.{length-map, map-append}
use Rattle.std.proofs.lemmas.List.FromFn.{map-range_with_len_more}
use Rattle.cap_source.specs.Feed.{Feed}
use Rattle.cap_source.specs.declared.listed.Listed.{Listed}
use Rattle.cap_merge.specs.Parts.{AreNumberedFeeds}
use Rattle.cap_tests.proofs.merge.many_of.Invariants.{feed_of}
use Rattle.cap_tests.proofs.merge.many_of.Goals as goal

numbered : (fs : List Feed) (x : Feed) → x.files ≡ (1 + length fs) ∷ [] → AreNumberedFeeds fs
    → AreNumberedFeeds (fs ++ (x ∷ []))
numbered fs x e h =
    let more : length fs + 1 ≡ length (fs ++ (x ∷ [])) = omega (arith, length-append fs (x ∷ [])) in
    map-append (λ (f : Feed). f.files) fs (x ∷ [])
    ∙ (λ i. h i ++ (e i ∷ []))
    ∙ sym (map-range_with_len_more (λ n. n ∷ []) 1 (length fs) (1 + length fs) refl)
    ∙ ap (λ n. map (λ k. k ∷ []) (range_with_len 1 n)) more

numbered_more : (feeds items : List Listed) (x : Listed) → items ≡ feeds ++ (x ∷ [])
    → (feed_of x).files ≡ (1 + length feeds) ∷ [] → AreNumberedFeeds (map feed_of feeds)
    → AreNumberedFeeds (map feed_of items)
numbered_more feeds items x is e h =
    subst AreNumberedFeeds (sym (ap (map feed_of) is ∙ map-append feed_of feeds (x ∷ [])))
    (numbered (map feed_of feeds) (feed_of x) (e ∙ ap (λ n. (1 + n) ∷ []) (sym (length-map feeds feed_of))) h)

pub loop-side-preserved : goal.loop-side-preserved
loop-side-preserved g c =
    let i = c.loop-side.invariant in
    let x = c.make_listed.result in
    let items : c.push.new.self.items ≡ c.loop-side.feeds.items ++ (x ∷ []) =
    rw c.expect.ensures at c.push.ensures.items in
    let more = ap length items ∙ length-append c.loop-side.feeds.items (x ∷ []) in (
      omega (arith, i.0, more),
      omega (arith, i.1, more),
      numbered_more c.loop-side.feeds.items c.push.new.self.items x items
          (c.make_listed.ensures ∙ ap (λ n. n ∷ []) i.0) i.2,
    )
