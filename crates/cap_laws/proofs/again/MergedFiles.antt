-- The run of any files, written and read again.
use Rattle.std.proofs.Common.{◌==◌, ℕ, ◌+◌, ◌≤◌, map, List, [], ◌∷◌, Bool, ◌∙◌, arith, if◌then◌else◌}
use Rattle.std.specs.List.{AllByRecursion}
use Rattle.cap_blocks.specs.Split.{AreBytes}
use Rattle.cap_bytes.specs.declared.faults.Tail.{Tail}
use Rattle.cap_merge.specs.Parts.{item_time, is_refusal}
use Rattle.cap_merge.specs.Run.{Clocked, opened_track, merged, through_first}
use Rattle.cap_source.proofs.Fields.{fields_fit-law}
use Rattle.cap_source.proofs.Frames.{frames_fit-law}
use Rattle.cap_source.specs.Feed.{Item, packet, refused}
use Rattle.cap_source.specs.inner.Fields.{HasFrame, ItemFits}
use Rattle.cap_source.specs.Items.{file_items}
use Rattle.cap_time.specs.declared.resolutions.Interface.{Interface}
use Rattle.cap_write.specs.Numbering.{Origin, own, shared}
use Rattle.cap_merge.specs.Files.{items_of_files, run_of_files}
use Rattle.cap_laws.proofs.again.Alike.{merge-all}
use Rattle.cap_laws.proofs.again.Instances.{one_interface-law}
use Rattle.cap_laws.proofs.again.Measured.{numbered-measured}
use Rattle.cap_laws.proofs.again.Renumbered.{merged_again-law, sharing_again-law}
use Rattle.cap_laws.specs.again.Laws.{AllAlike, HasFields, AllHave}
use Rattle.cap_laws.specs.again.Rounds.{MergeLaw, SharingLaw}

-- A packet has the interface of its origin, its fields fit, and its file has at least that number.
abbrev IsOfFile : ℕ → (Origin → Interface) → Item → Type 0
IsOfFile least given (packet meta frame) = (least ≤ meta.file) × HasFields given meta frame
IsOfFile least given (refused refusal) = Unit {0}

-- the interfaces of some files by their origins
pub given_from : Tail → ℕ → List (List ℕ) → Origin → Interface
given_from tail file [] origin = (one_interface-law tail 0 []).0 0
given_from tail file (bytes ∷ files) origin =
    if origin.0 == file then (one_interface-law tail file bytes).0 origin.1 else given_from tail (file + 1) files origin

-- what one file gives
of_one : (tail : Tail) (file : ℕ) (bytes : List ℕ) (files : List (List ℕ)) (items : List Item)
    → AllAlike file (one_interface-law tail file bytes).0 items → AllByRecursion ItemFits items
    → AllByRecursion (IsOfFile file (given_from tail file (bytes ∷ files))) items
unfolding given_from
of_one tail file bytes files [] alike fit = tt
of_one tail file bytes files (refused refusal ∷ items) alike fit = (tt, of_one tail file bytes files items alike fit.1)
of_one tail file bytes files (packet meta frame ∷ items) alike fit =
    grind (arith, of_one tail file bytes files items alike.2 fit.1)

-- and those after it
raised : (tail : Tail) (file : ℕ) (bytes : List ℕ) (files : List (List ℕ)) (x : Item)
    → IsOfFile (file + 1) (given_from tail (file + 1) files) x → IsOfFile file (given_from tail file (bytes ∷ files)) x
unfolding given_from
raised tail file bytes files x is = grind arith

each : {A : Type 0} (P Q : A → Type 0) → ((x : A) → P x → Q x) → (xs : List A) → AllByRecursion P xs
    → AllByRecursion Q xs
each P Q f [] h = tt
each P Q f (x ∷ xs) h = (f x h.0, each P Q f xs h.1)

of_all : (tail : Tail) (file : ℕ) (files : List (List ℕ)) → AllByRecursion AreBytes files
    → AllByRecursion (AllByRecursion (IsOfFile file (given_from tail file files))) (items_of_files tail file files)
of_all tail file [] are = tt
of_all tail file (bytes ∷ files) are = (
  of_one tail file bytes files (file_items tail file bytes) (one_interface-law tail file bytes).1
      (fields_fit-law tail file bytes are.0),
  each (AllByRecursion (IsOfFile (file + 1) (given_from tail (file + 1) files)))
      (AllByRecursion (IsOfFile file (given_from tail file (bytes ∷ files))))
      (λ xs h. each (IsOfFile (file + 1) (given_from tail (file + 1) files))
      (IsOfFile file (given_from tail file (bytes ∷ files))) (raised tail file bytes files) xs h)
      (items_of_files tail (file + 1) files) (of_all tail (file + 1) files are.1),
)

-- what is true of all merged items is true of those of the run
front : (Q : Item → Type 0) (ends : Clocked Item → Bool) (xs : List (Clocked Item))
    → AllByRecursion Q (map (λ x. x.item) xs)
    → AllByRecursion Q (map (λ x. x.item) (through_first ends xs))
front Q ends [] h = tt
front Q ends (x ∷ xs) h = grind (arith, front Q ends xs h.1)

all_have : (least : ℕ) (given : Origin → Interface) (items : List Item) → AllByRecursion (IsOfFile least given) items
    → AllHave given items
all_have least given (packet meta frame ∷ items) h = (h.0.1, all_have least given items h.1)
all_have least given items h = cc

all_frames : (tail : Tail) (file : ℕ) (files : List (List ℕ))
    → AllByRecursion (AllByRecursion HasFrame) (items_of_files tail file files)
all_frames tail file [] = tt
all_frames tail file (bytes ∷ files) = (frames_fit-law tail file bytes, all_frames tail (file + 1) files)

-- the packets of a run have the interfaces of their origins, and their fields fit
pub run-has : (tail : Tail) (files : List (List ℕ)) → AllByRecursion AreBytes files
    → AllHave (given_from tail 1 files) (run_of_files tail files)
unfolding run_of_files
run-has tail files are =
    let given = given_from tail 1 files in
    let lists = items_of_files tail 1 files in
    let ends : Clocked Item → Bool = λ x. is_refusal x.item in
    let all = merged item_time (map opened_track lists) in
    all_have 1 given (run_of_files tail files) (front (IsOfFile 1 given) ends all
    (merge-all (IsOfFile 1 given) item_time lists (of_all tail 1 files are)))

-- and they have as many captured bytes as are told
run-frames : (tail : Tail) (files : List (List ℕ)) → AllByRecursion HasFrame (run_of_files tail files)
unfolding run_of_files
run-frames tail files =
    let lists = items_of_files tail 1 files in
    front HasFrame (λ x. is_refusal x.item) (merged item_time (map opened_track lists))
    (merge-all HasFrame item_time lists (all_frames tail 1 files))

pub merge-law : MergeLaw
merge-law order tail tail_again file_again files are limit =
    let items = run_of_files tail files in
    let law = merged_again-law order tail_again file_again (given_from tail 1 files) items (run-has tail files are)
    limit in
    (law.0 ∙ numbered-measured (own []) items (run-frames tail files), law.1, law.2, law.3)

pub sharing-law : SharingLaw
sharing-law order tail tail_again file_again files are limit =
    let items = run_of_files tail files in
    let law = sharing_again-law order tail_again file_again (given_from tail 1 files) items (run-has tail files are)
    limit in
    (law.0 ∙ numbered-measured (shared []) items (run-frames tail files), law.1, law.2, law.3)
