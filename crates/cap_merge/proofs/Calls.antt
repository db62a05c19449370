-- What the calls of a merge keep, over the lists of its lanes and feeds.
use Rattle.std.proofs.lemmas.Grind.{common_steps}
use Rattle.std.proofs.Common.{ℕ, ◌≡◌, true, List, ◌∷◌, length, sym, arith, Result, Err, suc}
use Rattle.std.specs.Prelude.{map, IsTrue, is_some}
use Rattle.std.specs.List.{AllByRecursion, list_all, range_with_len, flat_map}
use Rattle.std.proofs.lemmas.List.{length-map}
use Rattle.cap_bytes.specs.declared.faults.Fault.{Fault}
use Rattle.cap_source.specs.Feed.{Feed, IsFeed, FeedKeeps}
use Rattle.cap_merge.specs.declared.lanes.Lane.{Lane}
use Rattle.cap_merge.specs.Parts.{Part, parts, AreNumberedFeeds, LanesAgree, HasReached, are_known, run_of, merged_feed}
use Rattle.cap_merge.specs.Parts.{KeepsRun}
use Rattle.cap_merge.specs.inner.Merge.{LearnsAll, StopsAt, AsksAll}
use Rattle.cap_merge.specs.inner.Sound.{IsSoundPart, sound-parts, lawful-each, AreFrom, numbered-from}
use Rattle.cap_merge.proofs.Moving.{Each, Kept, ComesAlike, learns-each, stops-each, alike-itself, alike-learns_by}
use Rattle.cap_merge.proofs.Moving.{alike-waits, run-alike, keeps-each}
use Rattle.cap_merge.proofs.Heads.{asked-keeps, asked-sound, known_all, never}

files_kept : {F : Type 0} (f : F → Feed) (ls ms : List Lane) (fs ys : List F) → length ls ≡ length fs
    → length ms ≡ length ls → length ys ≡ length fs
    → Each Kept (parts ls (map f fs)) (parts ms (map f ys))
    → map (λ (x : Feed). x.files) (map f ys) ≡ map (λ (x : Feed). x.files) (map f fs)
files_kept f (l ∷ ls) (m ∷ ms) (x ∷ xs) (y ∷ ys) a b d k =
    λ i. k.0.files i ∷ files_kept f ls ms xs ys (omega arith) (omega arith) (omega arith) k.1 i
files_kept f ls ms fs ys a b d e = grind (arith, common_steps)

pub numbered-kept : {F : Type 0} (f : F → Feed) (ls ms : List Lane) (fs ys : List F) → length ls ≡ length fs
    → length ms ≡ length ls → length ys ≡ length fs
    → Each Kept (parts ls (map f fs)) (parts ms (map f ys)) → AreNumberedFeeds (map f fs) → AreNumberedFeeds (map f ys)
numbered-kept f ls ms fs ys a b d k n = grind (arith, files_kept, length-map)

pub asked-numbered : {F : Type 0} (f : F → Feed) → ((x : F) → IsFeed (f x))
    → (ls ms : List Lane) (fs ys : List F) {T : Type 0} (result : Result T Fault)
    → length ls ≡ length fs → length ms ≡ length ls → length ys ≡ length fs
    → AsksAll (parts ls (map f fs)) result (parts ms (map f ys))
    → AreNumberedFeeds (map f fs) → AreNumberedFeeds (map f ys)
asked-numbered f law ls ms fs ys result a b d h = grind (arith, numbered-kept, asked-keeps, parts, lawful-each)

pub asked-sound-each : {F : Type 0} (f : F → Feed) → ((x : F) → IsFeed (f x))
    → (ls ms : List Lane) (fs ys : List F) {T : Type 0} (result : Result T Fault)
    → AsksAll (parts ls (map f fs)) result (parts ms (map f ys)) → HasReached (parts ls (map f fs))
    → AllByRecursion IsSoundPart (parts ms (map f ys))
asked-sound-each f law ls ms fs ys result h reached = grind (arith, asked-sound, parts, lawful-each, sound-parts)

pub asked-keeps-all : {T : Type 0} (ps qs : List Part) (result : Result T Fault) → AsksAll ps result qs
    → AllByRecursion (λ q. IsFeed q.feed) qs → FeedKeeps (merged_feed ps) (merged_feed qs)
asked-keeps-all ps qs result h f = keeps-each ps qs (asked-keeps ps qs result h f)

pub told_all : (ps : List Part) → IsTrue (merged_feed ps).told → list_all (λ p. p.feed.told) ps ≡ true
unfolding merged_feed
told_all ps t = t

pub run-asked : (ps qs : List Part) → LearnsAll ps qs → AllByRecursion (λ q. IsFeed q.feed) qs
    → IsTrue (merged_feed ps).told → run_of qs ≡ run_of ps
run-asked ps qs l f t = run-alike ps qs (learns-each ComesAlike (λ p q g. alike-learns_by p q p.lane.head g) ps qs f l)
    (told_all ps t)

pub run-stopped : (ps qs : List Part) (fault : Fault) → StopsAt fault ps qs → AllByRecursion (λ q. IsFeed q.feed) qs
    → IsTrue (merged_feed ps).told → KeepsRun ps (Err fault) qs
run-stopped ps qs fault s f t =
    grind (arith, never, run-alike, stops-each, alike-itself, alike-learns_by, alike-waits, told_all)

-- all lanes are known after all feeds were asked
known_lanes : (ls : List Lane) (fs : List Feed) → LanesAgree ls fs → are_known (parts ls fs) ≡ true
    → list_all (λ l. is_some l.next) ls ≡ true
known_lanes (l ∷ ls) (x ∷ fs) a k = grind (arith, known_lanes ls fs)
known_lanes ls fs a k = grind arith

pub asked-known : (ps : List Part) (ms : List Lane) (fs : List Feed) → LanesAgree ms fs → LearnsAll ps (parts ms fs)
    → list_all (λ l. is_some l.next) ms ≡ true
asked-known ps ms fs a h = known_lanes ms fs a (known_all ps (parts ms fs) h)

count_files : {F : Type 0} (f : F → Feed) (n : ℕ) (ls : List Lane) (fs : List F) → length ls ≡ length fs
    → AreFrom n (parts ls (map f fs))
    → length (flat_map (λ p. p.feed.files) (parts ls (map f fs))) ≡ length fs
count_files f n (l ∷ ls) (x ∷ xs) e a = cc (count_files f (suc n) ls xs (omega arith) a.1)
count_files f n ls fs e a = grind arith

-- there is a file for each feed
number_files : {F : Type 0} (f : F → Feed) (n : ℕ) (ls : List Lane) (fs : List F) → length ls ≡ length fs
    → AreFrom n (parts ls (map f fs))
    → flat_map (λ p. p.feed.files) (parts ls (map f fs)) ≡ range_with_len n (length fs)
number_files f n (l ∷ ls) (x ∷ xs) e a = grind (arith, number_files f (suc n) ls xs (omega arith) a.1)
number_files f n ls fs e a = grind arith

-- the files are numbered from 1 on
pub files-numbered : {F : Type 0} (f : F → Feed) (ls : List Lane) (fs : List F) → length ls ≡ length fs
    → AreNumberedFeeds (map f fs)
    → (merged_feed (parts ls (map f fs))).files ≡ range_with_len 1 (length fs)
unfolding merged_feed
files-numbered f ls fs e n = number_files f 1 ls fs e (numbered-from f ls fs e n)

pub files-counted : {F : Type 0} (f : F → Feed) (ls : List Lane) (fs : List F) → length ls ≡ length fs
    → AreNumberedFeeds (map f fs)
    → length fs ≡ length (merged_feed (parts ls (map f fs))).files
unfolding merged_feed
files-counted f ls fs e n = sym (count_files f 1 ls fs e (numbered-from f ls fs e n))
