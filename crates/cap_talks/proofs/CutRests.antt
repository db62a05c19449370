-- The rests of files that were cut, by the places of their files.
use Rattle.std.proofs.Common.{◌≡◌, ◌<◌, ◌≤◌, ◌+◌, ◌-◌, ℕ, zero, suc, true, false, List, [], ◌∷◌, ◌++◌, length, map}
use Rattle.std.proofs.Common.{take, drop, get_or, slice_set, Option, Some, None, refl, sym, ap, ◌∙◌, arith}
use Rattle.std.proofs.Common.{take-append-drop}
use Rattle.std.specs.Prelude.{◌==◌, replicate, if◌then◌else◌}
use Rattle.std.specs.List.{range_with_len}
use Rattle.std.proofs.lemmas.List.{drop-drop, drop-replicate, drop-set-lt, map_more, take_all, take_more_set}
use Rattle.std.proofs.lemmas.List.FromFn.{map-range_with_len_more}
use Rattle.cap_bytes.specs.declared.faults.Tail.{Tail}
use Rattle.cap_bytes.specs.declared.stops.CutRest.{CutRest}
use Rattle.cap_merge.specs.Files.{counted_endings, endings_from, endings_of_files}
use Rattle.cap_source.specs.Items.{file_ending}
use Rattle.cap_source.specs.declared.feeds.FileEnd.{FileEnd}
use Rattle.cap_talks.specs.counts.FileLines.{counted_cuts, cut_of, ended_from}
use Rattle.cap_talks.specs.declared.counts.counts.Counts.{Counts}
use Rattle.cap_talks.specs.declared.counts.files.Counted.{Counted}
use Rattle.cap_talks.specs.talks.CutRests.{rests_by_place, rests_in}
use Rattle.cap_talks.specs.talks.Reading.{counted_files}

-- the rest of one more file is at its place, and the places behind it stay empty
pub record Placed (counted : List Counted) (n : ℕ) (places : List (Option CutRest)) : Type 0 where
  pub long : length places ≡ 32
  pub put : take n places ≡ map (λ it. cut_of it.ending) (take n counted)
  pub empty : drop n places ≡ replicate (32 - n) None

pub Placed-more : (counted : List Counted) (n : ℕ) (places : List (Option CutRest)) (it : Counted)
    (cut : Option CutRest) → it ≡ get_or counted n it → n < length counted → length counted ≤ 32
    → cut ≡ cut_of it.ending → length (slice_set places n cut) ≡ 32 → Placed counted n places
    → Placed counted (n + 1) (slice_set places n cut)
Placed-more counted n places it cut at within few is long p = record {
  long = long;
  put =
      take_more_set places n cut (omega (arith, p.long))
      ∙ (ap (λ l. l ++ cut ∷ []) p.put ∙ (ap (λ c. map (λ it. cut_of it.ending) (take n counted) ++ c ∷ [])
      (is ∙ ap (λ i. cut_of i.ending) at) ∙ sym (map_more (λ it. cut_of it.ending) counted n it within)));
  empty =
      drop-set-lt (n + 1) places n cut (omega arith)
      ∙ (sym (drop-drop 1 n places) ∙ (ap (drop 1) p.empty ∙ (drop-replicate 1 (32 - n) None
      ∙ ap (λ k. replicate k None) (omega (arith, within, few)))));
}

-- all of them are
pub Placed-all : (counted : List Counted) (n : ℕ) (places : List (Option CutRest)) → n ≡ length counted
    → Placed counted n places → places ≡ counted_cuts counted
Placed-all counted n places is p =
    sym (take-append-drop n places) ∙ ((λ i. p.put i ++ p.empty i)
    ∙ ((λ i. map (λ it. cut_of it.ending) (take (is i) counted) ++ replicate (32 - is i) None)
    ∙ ap (λ l. map (λ it. cut_of it.ending) l ++ replicate (32 - length counted) None) (take_all (length counted)
    counted (omega arith))))

-- the rests are those of the files' numbers from 1 on
pub rests-range : (endings : ℕ → FileEnd) (n : ℕ)
    → rests_in endings n ≡ map (λ file. (endings file).ending.cut) (range_with_len 1 n)
rests-range endings zero = refl
rests-range endings (suc n) =
    let next : n + 1 ≡ suc n = omega arith in
    ap (λ l. l ++ (endings (suc n)).ending.cut ∷ []) (rests-range endings n)
    ∙ (sym (map-range_with_len_more (λ file. (endings file).ending.cut) 1 n (suc n) (omega arith))
    ∙ ap (λ m. map (λ file. (endings file).ending.cut) (range_with_len 1 m)) next)

-- of files whose endings are known
ended-range : (endings : ℕ → FileEnd) (file : ℕ) (all : List Counts)
    → map (λ it. cut_of it.ending) (ended_from (Some endings) file all)
    ≡ map (λ n. (endings n).ending.cut) (range_with_len file (length all))
ended-range endings file [] = refl
ended-range endings file (counts ∷ rest) = ap (λ l. (endings file).ending.cut ∷ l) (ended-range endings (file + 1) rest)

ended-count : (endings : Option (ℕ → FileEnd)) (file : ℕ) (all : List Counts)
    → length (ended_from endings file all) ≡ length all
ended-count endings file [] = refl
ended-count endings file (counts ∷ rest) = ap suc (ended-count endings (file + 1) rest)

pub ended-cuts : (endings : ℕ → FileEnd) (all : List Counts)
    → counted_cuts (ended_from (Some endings) 1 all) ≡ rests_by_place endings (length all)
ended-cuts endings all =
    (λ i. ended-range endings 1 all i ++ replicate (32 - ended-count (Some endings) 1 all i) None)
    ∙ ap (λ l. l ++ replicate (32 - length all) None) (sym (rests-range endings (length all)))

-- of files that are read one by one: the endings of those behind the first are the same without it
past-first : (tail : Tail) (first : ℕ) (bytes : List ℕ) (files : List (List ℕ)) (file n : ℕ) → first < file
    → map (λ m. (endings_from tail first (bytes ∷ files) m).ending.cut) (range_with_len file n)
    ≡ map (λ m. (endings_from tail (first + 1) files m).ending.cut) (range_with_len file n)
past-first tail first bytes files file zero behind = refl
past-first tail first bytes files file (suc n) behind =
    let other : (first == file) ≡ false = grind arith in
    (λ i. (if other i then file_ending tail first bytes else endings_from tail (first + 1) files file).ending.cut
    ∷ past-first tail first bytes files (file + 1) n (omega arith) i)

files-range : (tail : Tail) (first : ℕ) (files : List (List ℕ))
    → map (λ it. cut_of it.ending) (counted_files tail first files)
    ≡ map (λ n. (endings_from tail first files n).ending.cut) (range_with_len first (length files))
files-range tail first [] = refl
files-range tail first (bytes ∷ files) =
    let here : (first == first) ≡ true = grind arith in
    let behind = files-range tail (first + 1) files
    ∙ sym (past-first tail first bytes files (first + 1) (length files) (omega arith)) in
    (λ i. (if sym here i then file_ending tail first bytes else endings_from tail (first + 1) files first).ending.cut
    ∷ behind i)

files-count : (tail : Tail) (first : ℕ) (files : List (List ℕ))
    → length (counted_files tail first files) ≡ length files
files-count tail first [] = refl
files-count tail first (bytes ∷ files) = ap suc (files-count tail (first + 1) files)

endings-are : (tail : Tail) (files : List (List ℕ)) → endings_of_files tail files ≡ endings_from tail 1 files
unfolding counted_endings
endings-are tail files = refl

pub files-cuts : (tail : Tail) (files : List (List ℕ)) (all : List Counted) (count : ℕ)
    → all ≡ counted_files tail 1 files → count ≡ length files
    → counted_cuts all ≡ rests_by_place (endings_of_files tail files) count
files-cuts tail files all count is many =
    ap counted_cuts is
    ∙ ((λ i. files-range tail 1 files i ++ replicate (32 - files-count tail 1 files i) None)
    ∙ (sym (λ i. map (λ n. (endings-are tail files i n).ending.cut) (range_with_len 1 (many i))
    ++ replicate (32 - many i) None)
    ∙ ap (λ l. l ++ replicate (32 - count) None) (sym (rests-range (endings_of_files tail files) count))))
