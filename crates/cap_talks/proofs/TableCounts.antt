-- What a table tells as numbers is what it stands for.
use Rattle.std.proofs.Common.{◌≡◌, ◌<◌, ◌≤◌, ◌+◌, ◌-◌, ◌&&◌, ℕ, suc, Bool, true, false, List, length}
use Rattle.std.proofs.Common.{Option, Some, None, nat_le, slice_get, refl, sym, ap, subst, ◌∙◌, arith}
use Rattle.std.specs.Prelude.{if◌then◌else◌, option_map}
use Rattle.std.specs.List.{range_with_len}
use Rattle.std.proofs.lemmas.Bool.Decides.{nat_tests}
use Rattle.std.proofs.lemmas.Option.{slice_get-map, slice_get_within}
use Rattle.cap_class.specs.Taken.{Taken}
use Rattle.cap_source.specs.Feed.{HasFile}
use Rattle.cap_source.specs.declared.feeds.FileEnd.{FileEnd}
use Rattle.cap_talks.specs.counts.Counting.{counted}
use Rattle.cap_talks.specs.counts.FileLines.{ending_at}
use Rattle.cap_talks.specs.table.TableCounts.{file_counted, totals_for}
use Rattle.cap_talks.specs.table.TakenText.{metas_of}
use Rattle.cap_talks.specs.inner.table.Tallies.{TallyState, TallyStands}
use Rattle.cap_talks.specs.inner.table.Totals.{TotalsState, TotalsStand}
use Rattle.cap_talks.specs.declared.counts.counts.Counts.{Counts}
use Rattle.cap_talks.specs.declared.counts.files.Counted.{Counted}
use Rattle.cap_talks.specs.declared.table.tables.TableTotals.{TableTotals}
use Rattle.cap_talks.proofs.TableLines.{is-numbered}
use Rattle.cap_talks.proofs.Waiting.{given-up}

-- the counts of all packets
pub totals-are : (t : TotalsState) (u : TallyState) (xs : List Taken) (next : Option Taken)
    → TotalsStand t xs → TallyStands u xs next
    → ◌≡◌ {A = TableTotals} (record {
      packets = t.packets;
      bytes = t.bytes;
      truncated = t.truncated;
      classes = u.classes;
      joined = u.joined;
      given_up = u.joiner.given_up;
    }) (totals_for u.reads xs)
totals-are t u xs next s k = λ i. record {
  packets = s.packets i;
  bytes = s.bytes i;
  truncated = s.truncated i;
  classes = k.classes i;
  joined = k.joined i;
  given_up = given-up u xs next k i;
}

range-within : (first count place : ℕ) → place < count
    → slice_get (range_with_len first count) place ≡ Some (first + place)
range-within first (suc count) (suc place) within =
    range-within (first + 1) count place (omega (arith, within)) ∙ ap Some next
  where
    next : first + 1 + place ≡ first + suc place
    next = omega arith
range-within first count place within = grind arith

-- the place of a file that is there
pub place-within : (files : List Counts) (number : ℕ) (c : Counts)
    → (if nat_le 1 number then slice_get files (number - 1) else None) ≡ Some c
    → (1 ≤ number) × (number - 1 < length files) × (slice_get files (number - 1) ≡ Some c)
place-within files number c is = by (nat_le 1 number) refl is
  where
    by : (some : Bool) → nat_le 1 number ≡ some → (if some then slice_get files (number - 1) else None) ≡ Some c
        → (1 ≤ number) × (number - 1 < length files) × (slice_get files (number - 1) ≡ Some c)
    by true e is = (grind (arith, nat_tests), slice_get_within files (number - 1) c is, is)
    by false e is = absurd (none is)
      where
        none : ◌≡◌ {A = Option Counts} None (Some c) → ⊥
        none h = cc

-- its number is one of the table's
pub has-number : (count number : ℕ) → 1 ≤ number → number - 1 < count → HasFile (range_with_len 1 count) number
has-number count number some within =
    subst (HasFile (range_with_len 1 count)) (back number some) (is-numbered 1 count (number - 1) within)
  where
    back : (number : ℕ) → 1 ≤ number → 1 + (number - 1) ≡ number
    back number some = omega arith

-- the counts of a file that is there
pub file-told : (t : TotalsState) (xs : List Taken) (e : Option (ℕ → FileEnd)) (number : ℕ) (c : Counts)
    → TotalsStand t xs → (if nat_le 1 number then slice_get t.files (number - 1) else None) ≡ Some c
    → Some (record { counts = c; ending = ending_at e number }) ≡ file_counted (length t.files) e xs number
file-told t xs e number c s is =
    let p = place-within t.files number c is in
    let tell : ℕ → Counts = λ file. counted (metas_of file xs) in
    let there : slice_get t.files (number - 1) ≡ Some (tell number) =
    ap (λ (files : List Counts). slice_get files (number - 1)) s.files
    ∙ (slice_get-map tell (range_with_len 1 (length t.files)) (number - 1)
    ∙ (ap (option_map tell) (range-within 1 (length t.files) (number - 1) p.1)
    ∙ ap (λ (n : ℕ). Some (tell n)) (back number p.0))) in
    let same : c ≡ tell number = some-same c (tell number) (sym p.2 ∙ there) in
    let here : (nat_le 1 number && nat_le number (length t.files)) ≡ true =
    grind (arith, nat_tests, p.0, p.1) in
    rw here (ap tells same)
  where
    tells : Counts → Option Counted
    tells counts = Some (record { counts = counts; ending = ending_at e number })

    back : (number : ℕ) → 1 ≤ number → 1 + (number - 1) ≡ number
    back number some = omega arith

    some-same : (a b : Counts) → Some a ≡ Some b → a ≡ b
    some-same a b h = cc
