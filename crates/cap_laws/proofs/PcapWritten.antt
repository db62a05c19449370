-- The report over a file that is written as pcap.
use Rattle.std.proofs.Common.{arith, ◌≡◌, Bool, List, [], ◌∷◌, refl, sym, ap, subst, Option, None, Equal}
use Rattle.std.specs.List.{AllZip}
use Rattle.std.specs.Ordering.{is_lt}
use Rattle.std.specs.Prelude.{map, if◌then◌else◌}
use Rattle.cap_join.proofs.AlikeGroups.{cmp_same}
use Rattle.cap_merge.proofs.RunLaws.{ClocksAreTold, run-clocks}
use Rattle.cap_time.specs.Clock.{clock_cmp, later}
use Rattle.cap_merge.specs.Files.{clocked_run, run_of_lists}
use Rattle.cap_merge.specs.Parts.{item_time, is_refusal}
use Rattle.cap_merge.specs.Run.{Clocked, opened_track, run}
use Rattle.cap_source.specs.Feed.{Item, packet, refusal_of}
use Rattle.cap_source.specs.Items.{file_first, file_items}
use Rattle.cap_time.specs.declared.stamps.Stamp.{Stamp}
use Rattle.cap_write.specs.Pcap.{first_in_unit, pcap_bytes}
use Rattle.cap_laws.specs.again.Laws.{PcapAgain, SamePackets}
use Rattle.cap_laws.proofs.LikeReports.{LikeItems, RunsLike, same-but-forms}
use Rattle.cap_laws.proofs.OneFile.{run-one}
use Rattle.cap_laws.proofs.SameRun.{told_twice}
use Rattle.cap_laws.specs.Forms.{PcapReport}

-- neither of two lists of such packets has a refusal
never-first : (items again : List Item) → AllZip SamePackets items again → refusal_of items ≡ None
unfolding refusal_of
never-first (packet m f ∷ as_) (packet n g ∷ bs) h = never-first as_ bs h.1
never-first as_ bs h = grind arith

never-again : (items again : List Item) → AllZip SamePackets items again → refusal_of again ≡ None
unfolding refusal_of
never-again (packet m f ∷ as_) (packet n g ∷ bs) h = never-again as_ bs h.1
never-again as_ bs h = grind arith

-- ---- clocks

later_by : (t u x y : Option Stamp) (b c : Bool) → b ≡ c → clock_cmp t u ≡ Equal → clock_cmp x y ≡ Equal
    → clock_cmp (if b then x else t) (if c then y else u) ≡ Equal
later_by t u x y b c e h k = grind arith

later-same : (t u x y : Option Stamp) → clock_cmp t u ≡ Equal → clock_cmp x y ≡ Equal
    → clock_cmp (later t x) (later u y) ≡ Equal
later-same t u x y h k = later_by t u x y (is_lt (clock_cmp t x)) (is_lt (clock_cmp u y))
    (ap is_lt (cmp_same t u x y h k)) h k

times : (a b : Item) → SamePackets a b → clock_cmp (item_time a) (item_time b) ≡ Equal
times a b h = grind arith

items-like : (c d : Option Stamp) (a b : Item) → clock_cmp c d ≡ Equal → SamePackets a b → LikeItems c d a b
items-like c d a b e h = grind arith

runs-like : (t u : Option Stamp) (as_ bs : List (Clocked Item)) → clock_cmp t u ≡ Equal → ClocksAreTold item_time t as_
    → ClocksAreTold item_time u bs
    → AllZip SamePackets (map (λ x. x.item) as_) (map (λ x. x.item) bs) → RunsLike as_ bs
runs-like t u (a ∷ as_) (b ∷ bs) e h k w = search (
  runs-like (later t (item_time a.item)) (later u (item_time b.item)) as_ bs,
  later-same,
  times,
  told_twice,
  items-like,
)
runs-like t u as_ bs e h k w = grind arith

pub pcap-report : PcapAgain → PcapReport
pcap-report again-law order unit tail tail_again bytes are none short =
    let items = file_items tail 1 bytes in
    let again = file_items tail_again 1 (pcap_bytes order (first_in_unit unit (file_first tail 1 bytes)) items) in
    let same = (again-law order unit tail tail_again 1 1 bytes are).1 none short in
    let one : run_of_lists (items ∷ []) ≡ items = run-one items (never-first items again same) in
    let other : run_of_lists (again ∷ []) ≡ again = run-one again (never-again items again same) in
    let both : AllZip SamePackets (run_of_lists (items ∷ [])) (run_of_lists (again ∷ [])) =
    subst (λ (xs : List Item). AllZip SamePackets xs (run_of_lists (again ∷ []))) (sym one)
    (subst (λ (ys : List Item). AllZip SamePackets items ys) (sym other) same) in
    same-but-forms (clocked_run tail (bytes ∷ [])) (run item_time is_refusal (map opened_track (again ∷ [])))
    (runs-like None None (run item_time is_refusal (map opened_track (items ∷ [])))
    (run item_time is_refusal (map opened_track (again ∷ []))) refl
    (run-clocks item_time is_refusal (items ∷ [])) (run-clocks item_time is_refusal (again ∷ [])) both)
