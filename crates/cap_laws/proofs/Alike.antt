-- Runs whose packets have clocks of the same times, and the same interfaces, units, lengths and bytes, have the same
-- report, but for the lines of the files: what is reported of files and of places in them may differ.
use Rattle.std.proofs.Common.{arith, ◌≡◌, ℕ, ◌+◌, Bool, true, false, List, [], ◌∷◌, ◌++◌, length, refl, ◌∙◌, ap, Option}
use Rattle.std.proofs.lemmas.List.Elements.{length_all_zip}
use Rattle.std.specs.List.{AllZip}
use Rattle.std.specs.Prelude.{nat_lt, if◌then◌else◌}
use Rattle.cap_join.proofs.EqualClocks.{same-groups}
use Rattle.cap_join.specs.Completed.{if_complete}
use Rattle.cap_join.specs.inner.EqualClocks.{IsSameClock, IsSameEvent}
use Rattle.cap_join.specs.Fragments.{Piece}
use Rattle.cap_join.specs.History.{Event}
use Rattle.cap_join.specs.Joiners.{open_limit}
use Rattle.cap_join.specs.declared.datagrams.Stamped.{Stamped}
use Rattle.cap_merge.specs.inner.Clocks.{clock_total}
use Rattle.cap_merge.specs.Run.{Clocked}
use Rattle.cap_source.specs.Feed.{Item, packet, refused}
use Rattle.cap_class.specs.Classes.{class_by, classes, classes_in, groups_of}
use Rattle.cap_talks.specs.table.CountedUnits.{first_unit, unit_by, unit_at, unit_seen, listed}
use Rattle.cap_class.specs.Runs.{with_item, taken_after}
use Rattle.cap_print.specs.declared.forms.Form.TheVariants.{Text}
use Rattle.cap_print.specs.declared.forms.TimeForm.TheVariants.{Exact}
use Rattle.cap_talks.specs.table.TakenText.{taken_bytes, truncated_of}
use Rattle.cap_class.specs.Taken.{Taken, Classification, plain, datagram, fragment, classify, events_classified}
use Rattle.cap_class.specs.Taken.{events_of, stamped_of}
use Rattle.cap_time.specs.declared.stamps.Stamp.{Stamp}
use Rattle.cap_laws.proofs.LikeReports.{LikeItems, RunsLike, refusals-like}
use Rattle.cap_laws.specs.Reports.{SameReport}
use Rattle.cap_class.specs.Ipv6.{class_seen, classes_seen, ipv6_read, report_classes}
use Rattle.cap_talks.specs.table.CountedUnits.{unit_for, units_for}
use Rattle.cap_talks.specs.table.TakenText.{body_for, counts_text_for}

-- Two packets are alike.
pub record IsAlike (x y : Taken) : Type 0 where
  pub clock : IsSameClock x.clock y.clock
  pub interface : x.meta.interface ≡ y.meta.interface
  pub units : x.meta.units ≡ y.meta.units
  pub captured : x.meta.captured ≡ y.meta.captured
  pub original : x.meta.original ≡ y.meta.original
  pub frame : x.frame ≡ y.frame

abbrev AreAlike : List Taken → List Taken → Type 0
AreAlike = AllZip IsAlike

-- two items of runs, which have those clocks, are packets that are alike
abbrev pub AlikeItems : Option Stamp → Option Stamp → Item → Item → Type 0
AlikeItems c d (packet m f) (packet n g) = IsAlike (record { clock = c; meta = m; frame = f })
    (record { clock = d; meta = n; frame = g })
AlikeItems c d (packet m f) (refused r) = ⊥
AlikeItems c d (refused q) (packet n g) = ⊥
AlikeItems c d (refused q) (refused r) = ⊥

abbrev pub RunsAlike : List (Clocked Item) → List (Clocked Item) → Type 0
RunsAlike = AllZip (λ a b. AlikeItems a.clock b.clock a.item b.item)

-- ---- what each packet is

alike-length : (xs ys : List Taken) → AreAlike xs ys → length xs ≡ length ys
alike-length = length_all_zip IsAlike

alike-classify : (n m : ℕ) (x y : Taken) → n ≡ m → IsAlike x y → classify n x ≡ classify m y
unfolding classify
alike-classify n m x y e h = grind arith

-- ---- the groups of fragments

events-with : (l : Classification) (c d : Option Stamp) (es fs : List Event) → IsSameClock c d
    → AllZip IsSameEvent es fs
    → AllZip IsSameEvent (events_classified l c es) (events_classified l d fs)
events-with l c d es fs e h = grind arith

alike-events : (xs ys : List Taken) → AreAlike xs ys → AllZip IsSameEvent (events_of xs) (events_of ys)
unfolding events_of
alike-events (x ∷ xs) (y ∷ ys) h = grind (arith, alike-events xs ys h.1, alike-classify, alike-length, events-with)
alike-events xs ys h = grind arith

alike-groups : (xs ys : List Taken) → AreAlike xs ys → groups_of xs ≡ groups_of ys
alike-groups xs ys h = (same-groups open_limit (events_of xs) (events_of ys) (alike-events xs ys h)).completed

-- ---- classes and units

alike-classes_in : (groups : List (List Piece)) (xs ys : List Taken) → AreAlike xs ys
    → classes_in groups xs ≡ classes_in groups ys
alike-classes_in groups (x ∷ xs) (y ∷ ys) h = grind
    (arith, alike-classes_in groups xs ys h.1, alike-classify, alike-length)
alike-classes_in groups xs ys h = grind arith

alike-classes : (xs ys : List Taken) → AreAlike xs ys → classes xs ≡ classes ys
unfolding classes
alike-classes xs ys h = ap (λ groups. classes_in groups xs) (alike-groups xs ys h)
    ∙ alike-classes_in (groups_of ys) xs ys h

unit-by : (l : Classification) (s : Stamped) (c d : Option Stamp) (es fs : List Event) → IsSameClock c d
    → AllZip IsSameEvent es fs
    → unit_by l s c es ≡ unit_by l s d fs
unit-by (plain k) s c d es fs e h = refl
unit-by (datagram header captured) s c d es fs e h = refl
unit-by (fragment p) s c d es fs e h = ap (λ (ps : List Piece). first_unit (if_complete ps))
    ((same-groups open_limit es fs h).joined c d p e)

alike-unit : (xs ys : List Taken) (x y : Taken) → AreAlike xs ys → IsAlike x y → unit_at xs x ≡ unit_at ys y
unfolding unit_at
alike-unit xs ys x y h k = grind (arith, alike-length, unit-by, alike-events, alike-classify)

-- ---- where IPv6 packets are read

alike-read : (x y : Taken) → IsAlike x y → ipv6_read x.meta x.frame ≡ ipv6_read y.meta y.frame
unfolding ipv6_read
alike-read x y h = grind arith

alike-seen : (groups : List (List Piece)) (xs ys : List Taken) → AreAlike xs ys
    → classes_seen groups xs ≡ classes_seen groups ys
alike-seen groups (x ∷ xs) (y ∷ ys) h =
    λ i. class_seen (alike-read x y h.0 i)
    (class_by groups (alike-classify (length xs) (length ys) x y (alike-length xs ys h.1) h.0 i))
    ∷ alike-seen groups xs ys h.1 i
alike-seen groups xs ys h = grind arith

alike-classes_for : (reads : Bool) (xs ys : List Taken) → AreAlike xs ys
    → report_classes reads xs ≡ report_classes reads ys
unfolding report_classes
alike-classes_for false xs ys h = alike-classes xs ys h
alike-classes_for true xs ys h =
    ap (λ groups. classes_seen groups xs) (alike-groups xs ys h) ∙ alike-seen (groups_of ys) xs ys h

alike-stamped : (n m : ℕ) (x y : Taken) → n ≡ m → IsAlike x y → stamped_of n x.meta ≡ stamped_of m y.meta
alike-stamped n m x y e h = grind arith

alike-unit_for : (reads : Bool) (xs ys : List Taken) (x y : Taken) → AreAlike xs ys → IsAlike x y
    → unit_for reads xs x ≡ unit_for reads ys y
unfolding unit_for
alike-unit_for false xs ys x y h k = alike-unit xs ys x y h k
alike-unit_for true xs ys x y h k =
    λ i. unit_seen (alike-read x y k i) (alike-stamped (length xs) (length ys) x y (alike-length xs ys h) k i)
    (alike-unit xs ys x y h k i)

alike-units : (reads : Bool) (xs ys : List Taken) → AreAlike xs ys → units_for reads xs ≡ units_for reads ys
unfolding units_for
alike-units reads (x ∷ xs) (y ∷ ys) h =
    λ i. alike-units reads xs ys h.1 i ++ listed (alike-unit_for reads xs ys x y h.1 h.0 i)
alike-units reads xs ys h = grind arith

-- ---- the lines

alike-bytes : (xs ys : List Taken) → AreAlike xs ys → taken_bytes xs ≡ taken_bytes ys
alike-bytes (x ∷ xs) (y ∷ ys) h = λ i. alike-bytes xs ys h.1 i + h.0.original i
alike-bytes xs ys h = grind arith

alike-truncated : (xs ys : List Taken) → AreAlike xs ys → truncated_of xs ≡ truncated_of ys
alike-truncated (x ∷ xs) (y ∷ ys) h = λ i. alike-truncated xs ys h.1 i +
    (if nat_lt (length (h.0.frame i)) (h.0.original i) then 1 else 0)
alike-truncated xs ys h = grind arith

alike-body : (reads : Bool) (xs ys : List Taken) → AreAlike xs ys
    → body_for reads (Text Exact) xs ≡ body_for reads (Text Exact) ys
unfolding body_for counts_text_for
alike-body reads xs ys h =
    let n = alike-length xs ys h in
    let b = alike-bytes xs ys h in
    let t = alike-truncated xs ys h in
    let k = alike-classes_for reads xs ys h in
    let g = alike-groups xs ys h in
    let up = (same-groups open_limit (events_of xs) (events_of ys) (alike-events xs ys h)).given_up in
    let u = alike-units reads xs ys h in
    cc

-- ---- runs

with_alike : (c d : Option Stamp) (a b : Item) (xs ys : List Taken) → AlikeItems c d a b → AreAlike xs ys
    → AreAlike (with_item c a xs) (with_item d b ys)
with_alike c d a b xs ys h k = grind arith

taken-alike : (as_ bs : List (Clocked Item)) (xs ys : List Taken) → RunsAlike as_ bs → AreAlike xs ys
    → AreAlike (taken_after xs as_) (taken_after ys bs)
unfolding taken_after
taken-alike (a ∷ as_) (b ∷ bs) xs ys h k = grind (
  arith,
  taken-alike as_ bs (with_item a.clock a.item xs) (with_item b.clock b.item ys) h.1
      (with_alike a.clock b.clock a.item b.item xs ys h.0 k),
)
taken-alike as_ bs xs ys h k = grind arith

-- such packets are like each other also if times may take other forms, on which refusals do not depend
like-items : (c d : Option Stamp) (a b : Item) → AlikeItems c d a b → LikeItems c d a b
like-items c d a b h = grind (arith, clock_total)

runs-like : (as_ bs : List (Clocked Item)) → RunsAlike as_ bs → RunsLike as_ bs
runs-like (a ∷ as_) (b ∷ bs) h = (like-items a.clock b.clock a.item b.item h.0, runs-like as_ bs h.1)
runs-like as_ bs h = grind arith

pub same-report : (run again : List (Clocked Item)) → RunsAlike again run → SameReport run again
same-report run again h =
    let taken = taken-alike again run [] [] h tt in
    record {
      lines = λ reads. alike-body reads (taken_after [] again) (taken_after [] run) taken;
      refused = λ reads. refusals-like reads again run [] [] (runs-like again run h) tt;
    }
