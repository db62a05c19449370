-- What is counted of the packets that were taken: of each file, and of all.
use Rattle.std.specs.Prelude.{◌≡◌, ℕ, ◌+◌, ◌*◌, ◌^◌, ◌&&◌, ◌≤◌, ◌<◌, List, Bool, length, map, nat_lt}
use Rattle.std.specs.List.{AllByRecursion, range_with_len}
use Rattle.cap_talks.specs.counts.Counting.{counted, are_in_order}
use Rattle.cap_talks.specs.table.TakenText.{metas_of, taken_bytes, truncated_of}
use Rattle.cap_class.specs.Taken.{Taken}
use Rattle.cap_talks.specs.declared.counts.counts.Counts.{Counts}

-- The counts of each file, by number from 1; how many packets there are, their bytes, and how many are truncated.
pub record TotalsState : Type 0 where
  pub files : List Counts
  pub packets : ℕ
  pub bytes : ℕ
  pub truncated : ℕ

-- what is counted of each of `count` files, from the number `first` on
abbrev pub counts_from : ℕ → ℕ → List Taken → List Counts
counts_from first count xs = map (λ file. counted (metas_of file xs)) (range_with_len first count)

-- Totals stand for some packets, the latest first.
pub record TotalsStand (t : TotalsState) (xs : List Taken) : Type 0 where
  pub files : t.files ≡ counts_from 1 (length t.files) xs
  pub packets : t.packets ≡ length xs
  pub bytes : t.bytes ≡ taken_bytes xs
  pub truncated : t.truncated ≡ truncated_of xs

-- The numbers fit: the packets are at most 2^45, and each has fewer than 2^32 bytes.
pub record IsSoundTotals (t : TotalsState) : Type 0 where
  pub taken : List Taken
  pub stands : TotalsStand t taken
  pub few : t.packets ≤ 2 ^ 45
  pub short : AllByRecursion (λ x. x.meta.original < 2 ^ 32) taken
  pub files : length t.files ≤ 32

-- one packet more fits into the counts of a file, whose least and greatest time are in order
abbrev pub is_room : Counts → Bool
is_room counts =
    nat_lt counts.packets (2 ^ 45) && nat_lt counts.bytes (2 ^ 45 * 2 ^ 32 + 1) && nat_lt counts.truncated (2 ^ 45)
    && are_in_order counts.first counts.last
