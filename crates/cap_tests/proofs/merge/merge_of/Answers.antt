use Rattle.std.proofs.Common.{◌≡◌, ◌++◌, ◌∷◌, [], drop, refl, sym, subst, List}
use Rattle.cap_source.specs.Feed.{Feed, HasFile}
use Rattle.cap_source.specs.inner.Listed.{list_feed}
use Rattle.cap_merge.specs.Parts.{merged_feed, new_parts}
use Rattle.cap_tests.proofs.merge.merge_of.Goals as goal

two_files : (one two : Feed) → one.files ≡ 1 ∷ [] → two.files ≡ 2 ∷ []
    → HasFile (merged_feed (new_parts (one ∷ (two ∷ [])))).files 2
unfolding merged_feed
two_files one two e f = subst (λ (fs : List _). HasFile (one.files ++ (fs ++ [])) 2) (sym f)
    (subst (λ (fs : List _). HasFile (fs ++ (2 ∷ [])) 2) (sym e) refl)

pub returns : goal.returns
returns c =
    let a = c.args.first in
    let b = c.args.second in
    rw (c.new.ensures.parts, c.in_ok-push-2.ensures.items, c.in_ok-push.ensures.items, c.new-feeds.ensures.items)
    (two_files (list_feed a.file a.interface a.end a.place (drop a.place a.times.items) a.next)
    (list_feed b.file b.interface b.end b.place (drop b.place b.times.items) b.next)
    c.requires.first c.requires.second)
