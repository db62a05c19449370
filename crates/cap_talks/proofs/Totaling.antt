-- What is counted of each file and of all, packet by packet.
use Rattle.std.proofs.Common.{rules, ◌≡◌, ℕ, zero, suc, ◌+◌, ◌*◌, ◌^◌, ◌≤◌, ◌<◌, ◌==◌, Bool, true, false}
use Rattle.std.proofs.Common.{List, [], ◌∷◌, ◌++◌}
use Rattle.std.proofs.Common.{length, nat_lt, refl, ap, ◌∙◌, arith, append-nil, length-append, drop, take_at}
use Rattle.std.specs.Prelude.{replicate, slice_set, slice_index_or, if◌then◌else◌}
use Rattle.std.specs.Int.{from_bool}
use Rattle.std.specs.List.{AllByRecursion, refill}
use Rattle.std.proofs.lemmas.Bool.Decides.{nat_tests}
use Rattle.cap_source.specs.declared.packets.Meta.{Meta}
use Rattle.cap_talks.specs.counts.Counting.{counted, with_packet, are_in_order, original_bytes, truncated_packets}
use Rattle.cap_talks.specs.table.TakenText.{metas_of, taken_bytes, truncated_of}
use Rattle.cap_class.specs.Taken.{Taken}
use Rattle.cap_talks.specs.inner.table.Totals.{TotalsState, TotalsStand, IsSoundTotals, counts_from, is_room}
use Rattle.cap_talks.specs.declared.counts.counts.Counts.{Counts}
use Rattle.cap_talks.proofs.Counting.{counted-more, counted-in_order}

-- one if that is so, else zero
pub from-bool : (is_so : Bool) → from_bool is_so ≡ (if is_so then 1 else 0)
from-bool true = refl
from-bool false = refl

pub one-more : {A : Type 0} (n : ℕ) (x : A) → replicate n x ++ (x ∷ []) ≡ replicate (suc n) x
one-more zero x = refl
one-more (suc n) x = ap (λ l. x ∷ l) (one-more n x)

-- ---- of each file

-- the counts of the packet's own file, and of another
own : (xs : List Taken) (x : Taken) (file : ℕ) → (x.meta.file == file) ≡ true
    → counted (metas_of file (x ∷ xs)) ≡ with_packet (counted (metas_of file xs)) x.meta
own xs x file is = ap (λ (b : Bool). counted (metas_of file xs ++ (if b then x.meta ∷ [] else []))) is
    ∙ counted-more (metas_of file xs) x.meta

-- files of other numbers stay as they are
apart : (xs : List Taken) (x : Taken) (first count : ℕ) → x.meta.file < first
    → counts_from first count (x ∷ xs) ≡ counts_from first count xs
apart xs x first zero below = refl
apart xs x first (suc count) below = search (rules, apart xs x (first + 1) count (omega (arith, below)))

-- one packet more changes the counts of its file
pub counts-more : (xs : List Taken) (x : Taken) (first count place : ℕ) → x.meta.file ≡ first + place → place < count
    → counts_from first count (x ∷ xs)
    ≡ slice_set (counts_from first count xs) place
    (with_packet (slice_index_or (counts_from first count xs) place (counted [])) x.meta)
counts-more xs x first zero place is within = absurd (omega (arith, within))
counts-more xs x first (suc count) zero is within = grind (arith, nat_tests, is, own, apart)
counts-more xs x first (suc count) (suc place) is within =
    search (rules, counts-more xs x (first + 1) count place (omega (arith, is)) (omega (arith, within)))

pub counts-at : (xs : List Taken) (first count place : ℕ) → place < count
    → slice_index_or (counts_from first count xs) place (counted []) ≡ counted (metas_of (first + place) xs)
counts-at xs first (suc count) (suc place) within =
    grind (arith, counts-at xs (first + 1) count place (omega (arith, within)))
counts-at xs first count place within = grind arith

-- ---- all of them fit

abbrev AreShort : List Taken → Type 0
AreShort xs = AllByRecursion (λ x. x.meta.original < 2 ^ 32) xs

metas-few : (file : ℕ) (xs : List Taken) → length (metas_of file xs) ≤ length xs
metas-few file [] = omega arith
metas-few file (x ∷ xs) = grind (arith, metas-few file xs, length-append, append-nil)

sum-append : (ms bs : List Meta) → original_bytes (ms ++ bs) ≡ original_bytes ms + original_bytes bs
sum-append [] bs = omega arith
sum-append (m ∷ ms) bs = omega (arith, sum-append ms bs)

metas-short : (file : ℕ) (xs : List Taken) → AreShort xs → original_bytes (metas_of file xs) ≤ length xs * 2 ^ 32
metas-short file [] short = omega arith
metas-short file (x ∷ xs) short = grind (arith, metas-short file xs short.1, sum-append, append-nil)

truncated-few : (metas : List Meta) → truncated_packets metas ≤ length metas
truncated-few [] = omega arith
truncated-few (m ∷ metas) = grind (arith, truncated-few metas)

pub bytes-few : (xs : List Taken) → AreShort xs → taken_bytes xs ≤ length xs * 2 ^ 32
bytes-few [] short = omega arith
bytes-few (x ∷ xs) short = omega (arith, bytes-few xs short.1, short.0)

pub truncated-all : (xs : List Taken) → truncated_of xs ≤ length xs
truncated-all [] = omega arith
truncated-all (x ∷ xs) = grind (arith, truncated-all xs)

room_by : (counts : Counts) → counts.packets < 2 ^ 45 → counts.bytes ≤ 2 ^ 45 * 2 ^ 32 → counts.truncated < 2 ^ 45
    → are_in_order counts.first counts.last ≡ true → is_room counts ≡ true
room_by counts p b t order = grind (arith, nat_tests, p, b, t, order)

counted-fits : (metas : List Meta) → (length metas < 2 ^ 45) → original_bytes metas ≤ 2 ^ 45 * 2 ^ 32
    → truncated_packets metas < 2 ^ 45 → is_room (counted metas) ≡ true
unfolding counted
counted-fits metas p b t = room_by (counted metas) p b t (counted-in_order metas)

-- one packet more fits into the counts of its file
pub has-room : (t : TotalsState) → IsSoundTotals t → t.packets < 2 ^ 45 → (place : ℕ) → place < length t.files
    → is_room (slice_index_or t.files place (counted [])) ≡ true
has-room t s few place within = grind (arith, counts-at, counted-fits, metas-few, metas-short, truncated-few)

-- the totals with one packet more
pub stands-more : (t u : TotalsState) (x : Taken) (xs : List Taken) (place : ℕ) → x.meta.file ≡ 1 + place
    → place < length t.files
    → u.files ≡ slice_set t.files place (with_packet (slice_index_or t.files place (counted [])) x.meta)
    → length u.files ≡ length t.files
    → u.packets ≡ t.packets + 1 → u.bytes ≡ t.bytes + x.meta.original
    → u.truncated ≡ t.truncated + (if nat_lt (length x.frame) x.meta.original then 1 else 0)
    → TotalsStand t xs → TotalsStand u (x ∷ xs)
stands-more t u x xs place is within files len packets bytes truncated s = grind (arith, counts-more, nat_lt)

-- a list that was written whole through a slice of it
pub refilled : {A : Type 0} (xs ws : List A) → length ws ≡ length xs → refill (length xs) xs ws ≡ ws
refilled xs ws e = take_at ws (drop (length ws) xs) (length xs) e

pub sound-more : (t u : TotalsState) (x : Taken) → IsSoundTotals t
    → ((xs : List Taken) → TotalsStand t xs → TotalsStand u (x ∷ xs))
    → t.packets < 2 ^ 45 → u.packets ≡ t.packets + 1 → x.meta.original < 2 ^ 32 → length u.files ≡ length t.files
    → IsSoundTotals u
sound-more t u x s more few packets short files = grind arith

-- nothing was taken
none-counted : (first count : ℕ) → replicate count (counted []) ≡ counts_from first count []
none-counted first zero = refl
none-counted first (suc count) = ap (λ l. counted [] ∷ l) (none-counted (first + 1) count)

length-none : (count : ℕ) → length (replicate count (counted [])) ≡ count
length-none zero = refl
length-none (suc count) = ap suc (length-none count)

pub len-new : (files : List Counts) (count : ℕ) → files ≡ replicate count (counted []) → length files ≡ count
len-new files count is = ap length is ∙ length-none count

pub stands-new : (t : TotalsState) (count : ℕ) → t.files ≡ replicate count (counted []) → t.packets ≡ 0 → t.bytes ≡ 0
    → t.truncated ≡ 0 → TotalsStand t []
stands-new t count files packets bytes truncated = grind (arith, none-counted, len-new)
