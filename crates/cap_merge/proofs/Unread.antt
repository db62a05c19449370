-- The feeds of a merge before anything is read.
use Rattle.std.proofs.Common.{◌≡◌, ℕ, zero, suc, ◌+◌, ◌-◌, ◌≤◌, ◌<◌, get_or, true, false, if◌then◌else◌, List, [], ◌∷◌}
use Rattle.std.proofs.Common.{◌++◌, length, map, Bool, ◌&&◌, IsTrue, None, Result, refl, sym, ap, ◌∙◌, subst, arith}
use Rattle.std.specs.List.{flat_map, list_all, range_with_len}
use Rattle.std.proofs.lemmas.Bool.Decides.{nat_tests}
use Rattle.std.proofs.lemmas.List.{length-map}
use Rattle.cap_bytes.specs.declared.faults.Fault.{Fault}
use Rattle.cap_bytes.specs.declared.faults.Tail.{Tail}
use Rattle.cap_merge.proofs.Numbers.{numbers-within}
use Rattle.cap_merge.specs.Files.{items_of_files, run_of_files, clocked_run, counted_endings, counted_endings_from}
use Rattle.cap_merge.specs.Parts.{Part, new_parts, item_time, is_refusal, merged_feed, run_of, known_of, broken_of}
use Rattle.cap_merge.specs.Parts.{endings_of, feeds_can_fail, has_file, AreNumberedFeeds}
use Rattle.cap_merge.specs.inner.Readers.{ReaderFacts, IsUnread, AreUnread, IsCountedRun}
use Rattle.cap_merge.specs.Run.{opened_track, run}
use Rattle.cap_source.specs.Feed.{Feed}
use Rattle.cap_source.specs.ReadFaults.{FailsOf}
use Rattle.cap_source.specs.inner.Walk.{Walks}

module _ (comments : Bool) where
  -- one more feed after some
  pub AreUnread-more : (tail : Tail) (file : ℕ) (readers : List ReaderFacts) (feeds : List Feed) (reader : ReaderFacts)
      (feed : Feed)
      → AreUnread comments tail file readers feeds → IsUnread comments tail (file + length readers) reader feed
      → AreUnread comments tail file (readers ++ reader ∷ []) (feeds ++ feed ∷ [])
  AreUnread-more tail file (r ∷ rs) (f ∷ fs) reader feed a is =
      grind (arith, AreUnread-more tail (file + 1) rs fs reader feed a.1)
  AreUnread-more tail file readers feeds reader feed a is = grind arith

  pub AreUnread-length : (tail : Tail) (file : ℕ) (readers : List ReaderFacts) (feeds : List Feed)
      → AreUnread comments tail file readers feeds
      → length feeds ≡ length readers
  AreUnread-length tail file (r ∷ rs) (f ∷ fs) a = omega (arith, AreUnread-length tail (file + 1) rs fs a.1)
  AreUnread-length tail file readers feeds a = grind arith

  numbered_from : (tail : Tail) (file : ℕ) (readers : List ReaderFacts) (feeds : List Feed)
      → AreUnread comments tail file readers feeds
      → map (λ f. f.files) feeds ≡ map (λ n. n ∷ []) (range_with_len file (length feeds))
  numbered_from tail file (r ∷ rs) (f ∷ fs) a = cc (numbered_from tail (file + 1) rs fs a.1)
  numbered_from tail file readers feeds a = grind arith

  pub AreUnread-numbered : (tail : Tail) (readers : List ReaderFacts) (feeds : List Feed)
      → AreUnread comments tail 1 readers feeds
      → AreNumberedFeeds feeds
  AreUnread-numbered tail readers feeds a = numbered_from tail 1 readers feeds a

  tracks_are : (tail : Tail) (file : ℕ) (readers : List ReaderFacts) (feeds : List Feed)
      → AreUnread comments tail file readers feeds
      → map (λ f. opened_track f.items) feeds ≡ map opened_track (items_of_files tail file (map (λ r. r.bytes) readers))
  tracks_are tail file (r ∷ rs) (f ∷ fs) a = cc (tracks_are tail (file + 1) rs fs a.1)
  tracks_are tail file readers feeds a = grind arith

  told_same : (tail : Tail) (file : ℕ) (readers : List ReaderFacts) (feeds : List Feed)
      → AreUnread comments tail file readers feeds
      → list_all (λ p. p.feed.told) (new_parts feeds) ≡ list_all (λ r. r.told) readers
  told_same tail file (r ∷ rs) (f ∷ fs) a = cc (told_same tail (file + 1) rs fs a.1)
  told_same tail file readers feeds a = grind arith

  own : (files : List ℕ) (file : ℕ) → files ≡ file ∷ [] → has_file files file ≡ true
  own files file is = rw is (grind (arith, nat_tests))

  other : (files : List ℕ) (file n : ℕ) → files ≡ file ∷ [] → file < n → has_file files n ≡ false
  other files file n is less = rw is (grind (arith, nat_tests))

  can_fail_same : (tail : Tail) (first place : ℕ) (readers : List ReaderFacts) (feeds : List Feed)
      → AreUnread comments tail first readers feeds
      → feeds_can_fail (new_parts feeds) (first + place) ≡ get_or (map (λ r. r.can_fail) readers) place false
  unfolding feeds_can_fail
  can_fail_same tail first zero (r ∷ rs) (f ∷ fs) a = here
    where
      here : (if has_file f.files (first + 0) then f.can_fail (first + 0)
          else feeds_can_fail (new_parts fs) (first + 0)) ≡ r.can_fail
      here =
          let same : first + 0 ≡ first = omega arith in
          rw (same, own f.files first a.0.files) a.0.can_fail
  can_fail_same tail first (suc place) (r ∷ rs) (f ∷ fs) a =
      let next : first + 1 + place ≡ first + suc place = omega arith in
      rw (other f.files first (first + suc place) a.0.files (omega arith))
      (ap (feeds_can_fail (new_parts fs)) (sym next)
      ∙ can_fail_same tail (first + 1) place rs fs a.1)
  can_fail_same tail first place readers feeds a = grind arith

  files_same : (tail : Tail) (file : ℕ) (readers : List ReaderFacts) (feeds : List Feed)
      → AreUnread comments tail file readers feeds
      → flat_map (λ p. p.feed.files) (new_parts feeds) ≡ range_with_len file (length readers)
  files_same tail file (r ∷ rs) (f ∷ fs) a = cc (files_same tail (file + 1) rs fs a.1)
  files_same tail file readers feeds a = grind arith

  -- how a file ends: as its own feed says
  endings_same : (tail : Tail) (first : ℕ) (readers : List ReaderFacts) (feeds : List Feed) (file : ℕ)
      → AreUnread comments tail first readers feeds
      → endings_of (new_parts feeds) file ≡ counted_endings_from comments tail first (map (λ r. r.bytes) readers) file
  unfolding endings_of
  endings_same tail first (r ∷ rs) (f ∷ fs) file a = grind (arith, endings_same tail (first + 1) rs fs file a.1)
  endings_same tail first readers feeds file a = grind arith

  unknown : (tail : Tail) (readers : List ReaderFacts) (feeds : List Feed) → 1 ≤ length readers
      → AreUnread comments tail 1 readers feeds
      → known_of (new_parts feeds) ≡ None
  unfolding known_of
  unknown tail [] feeds some a = absurd (omega arith)
  unknown tail (r ∷ rs) [] some a = absurd a
  unknown tail (r ∷ rs) (f ∷ fs) some a = refl

  whole : (tail : Tail) (file : ℕ) (readers : List ReaderFacts) (feeds : List Feed)
      → AreUnread comments tail file readers feeds
      → broken_of (new_parts feeds) ≡ None
  unfolding broken_of
  whole tail file [] [] a = refl
  whole tail file [] (f ∷ fs) a = absurd a
  whole tail file (r ∷ rs) [] a = absurd a
  whole tail file (r ∷ rs) (f ∷ fs) a = a.0.broken

  -- The files of readers as one feed, of which nothing was asked.
  pub IsCountedRun-feeds : (tail : Tail) (readers : List ReaderFacts) (feeds : List Feed) (ps : List Part)
      → 1 ≤ length readers
      → AreUnread comments tail 1 readers feeds
      → ps ≡ new_parts feeds → run_of ps ≡ run item_time is_refusal (map (λ f. opened_track f.items) feeds)
      → IsCountedRun comments tail readers ps
  unfolding merged_feed counted_endings
  IsCountedRun-feeds tail readers feeds ps some a is ran = record {
    files = ap (λ p. (merged_feed p).files) is ∙ files_same tail 1 readers feeds a;
    told = ap (λ p. (merged_feed p).told) is ∙ told_same tail 1 readers feeds a;
    run = ran ∙ ap (run item_time is_refusal) (tracks_are tail 1 readers feeds a);
    endings = λ file. ap (λ p. (merged_feed p).endings file) is ∙ endings_same tail 1 readers feeds file a;
    known = ap (λ p. (merged_feed p).known) is ∙ unknown tail readers feeds some a;
    broken = ap (λ p. (merged_feed p).broken) is ∙ whole tail 1 readers feeds a;
    can_fail = λ place. ap (λ p. (merged_feed p).can_fail (1 + place)) is ∙ can_fail_same tail 1 place readers feeds a;
  }

-- ---- the same over any readers, as a caller has them

list_all-map : {A B : Type 0} (f : A → B) (p : B → Bool) (xs : List A)
    → list_all p (map f xs) ≡ list_all (λ x. p (f x)) xs
list_all-map f p [] = refl
list_all-map f p (x ∷ xs) = ap (λ b. p (f x) && b) (list_all-map f p xs)

pub bytes-readers : {A : Type 0} (reader : A → ReaderFacts) (sources : List A)
    → map (λ r. r.bytes) (map reader sources) ≡ map (λ s. (reader s).bytes) sources
bytes-readers reader [] = refl
bytes-readers reader (s ∷ ss) = ap (λ l. (reader s).bytes ∷ l) (bytes-readers reader ss)

pub told-readers : {comments : Bool} {A : Type 0} (reader : A → ReaderFacts) (tail : Tail) (sources : List A)
    (ps : List Part)
    → IsCountedRun comments tail (map reader sources) ps
    → IsTrue (list_all (λ s. (reader s).told) sources) → IsTrue (merged_feed ps).told
told-readers reader tail sources ps u t = subst IsTrue (sym (u.told ∙ list_all-map reader (λ r. r.told) sources)) t

can_fail-sources : {A : Type 0} (reader : A → ReaderFacts) (sources : List A)
    → map (λ r. r.can_fail) (map reader sources) ≡ map (λ s. (reader s).can_fail) sources
can_fail-sources reader [] = refl
can_fail-sources reader (s ∷ ss) = ap (λ l. (reader s).can_fail ∷ l) (can_fail-sources reader ss)

pub can_fail-readers : {comments : Bool} {A : Type 0} (reader : A
    → ReaderFacts) (tail : Tail) (sources : List A) (ps : List Part) (file : ℕ)
    → IsCountedRun comments tail (map reader sources) ps
    → 1 ≤ file → IsTrue ((merged_feed ps).can_fail file)
    → IsTrue (get_or (map (λ s. (reader s).can_fail) sources) (file - 1) false)
can_fail-readers reader tail sources ps file u some can =
    let behind : 1 + (file - 1) ≡ file = omega arith in
    subst IsTrue (ap (merged_feed ps).can_fail (sym behind) ∙ u.can_fail (file - 1)
    ∙ ap (λ l. get_or l (file - 1) false) (can_fail-sources reader sources)) can

-- the items to come of the feed
pub run-items : {comments : Bool} {A : Type 0} (reader : A → ReaderFacts) (tail : Tail) (sources : List A)
    (ps : List Part)
    → IsCountedRun comments tail (map reader sources) ps
    → (merged_feed ps).items ≡ run_of_files tail (map (λ s. (reader s).bytes) sources)
unfolding merged_feed run_of_files
run-items reader tail sources ps u = ap (map (λ x. x.item)) (u.run
    ∙ ap (clocked_run tail) (bytes-readers reader sources))

-- A read that fails as files are gone through as one is told of one of them.
pub Fails-merged : {comments : Bool} {A B : Type 0} (reader : A
    → ReaderFacts) (tail : Tail) (sources : List A) (ps : List Part) (new : Feed)
    (result : Result B Fault)
    → IsCountedRun comments tail (map reader sources) ps → Walks (merged_feed ps) result new
    → FailsOf (map (λ s. (reader s).can_fail) sources) result
Fails-merged reader tail sources ps new result u w =
    let can = λ (file : ℕ). can_fail-readers reader tail sources ps file u in
    grind (arith, numbers-within, length-map, can)
