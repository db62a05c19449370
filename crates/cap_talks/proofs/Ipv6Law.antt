-- A report that reads IPv6 packets.
use Rattle.std.proofs.Common.{◌≡◌, true, false, List, [], ◌∷◌, ◌++◌, length, refl, ap, arith}
use Rattle.std.specs.List.{AllByRecursion}
use Rattle.cap_class.proofs.Seen.{report-none, report-sum}
use Rattle.cap_class.specs.Ipv6.{report_classes}
use Rattle.cap_class.specs.Taken.{Taken, stamped_of}
use Rattle.cap_merge.specs.Run.{Clocked}
use Rattle.cap_print.specs.declared.forms.Form.{Form}
use Rattle.cap_source.specs.Feed.{Item, packet, refused}
use Rattle.cap_talks.specs.inner.table.Ipv6Law.{CarriesNone, Ipv6Law, ItemCarriesNone}
use Rattle.cap_talks.specs.table.Conversations.{rows_of, same_talk}
use Rattle.cap_talks.specs.table.CountedUnits.{counted_units, given_up_in, is_limit_by, joined_in, unit_at, unit_for}
use Rattle.cap_talks.specs.table.CountedUnits.{unit_seen, units_for}
use Rattle.cap_talks.specs.table.TakenText.{body_for, counts_for, counts_text_for}
use Rattle.cap_talks.specs.table.TalkLines.{talk_texts_in}
use Rattle.cap_talks.specs.table.Units.{version_of}
use Rattle.cap_talks.specs.talks.ReportText.{refusal_for}
use Rattle.cap_talks.specs.declared.table.rows.TalkKey.{TalkKey}

unit-none : (x : Taken) (xs : List Taken) → CarriesNone x → unit_for true xs x ≡ unit_for false xs x
unfolding unit_for
unit-none x xs none = ap (λ o. unit_seen o (stamped_of (length xs) x.meta) (unit_at xs x)) none

units-none : (xs : List Taken) → AllByRecursion CarriesNone xs → units_for true xs ≡ units_for false xs
unfolding units_for
units-none [] none = refl
units-none (x ∷ xs) none = grind (arith, unit-none x xs none.0, units-none xs none.1)

without : (form : Form) (xs : List Taken) → AllByRecursion CarriesNone xs
    → body_for true form xs
    ≡ counts_for true form xs (report_classes false xs) (counted_units xs) (joined_in xs) (given_up_in xs)
    ++ talk_texts_in form (rows_of (counted_units xs))
unfolding body_for counts_text_for
without form xs none = λ i.
    counts_for true form xs (report-none xs none i) (units-none xs none i) (joined_in xs) (given_up_in xs)
    ++ talk_texts_in form (rows_of (units-none xs none i))

apart : (a b : TalkKey) → version_of a.lesser.address ≡ 4 → version_of b.lesser.address ≡ 6 → same_talk a b ≡ false
apart a b four six = grind (arith, four, six)

limit-none : (x : Taken) (xs : List Taken) → AllByRecursion CarriesNone xs → CarriesNone x
    → is_limit_by (units_for true xs) (unit_for true xs x) ≡ is_limit_by (units_for false xs) (unit_for false xs x)
limit-none x xs before none = λ i. is_limit_by (units-none xs before i) (unit-none x xs none i)

refusal-same : (xs : List Taken) (run : List (Clocked Item)) → AllByRecursion CarriesNone xs
    → AllByRecursion (λ it. ItemCarriesNone it.item) run → refusal_for true xs run ≡ refusal_for false xs run
unfolding refusal_for
refusal-same xs [] before none = refl
refusal-same xs (it ∷ run) before none =
    by it.item refl none.0 (λ ys all. refusal-same ys run all none.1)
  where
    by : (item : Item) → it.item ≡ item → ItemCarriesNone item
        → ((ys : List Taken) → AllByRecursion CarriesNone ys → refusal_for true ys run ≡ refusal_for false ys run)
        → refusal_for true xs (it ∷ run) ≡ refusal_for false xs (it ∷ run)
    by (packet meta frame) is none on = grind (
      arith,
      is,
      limit-none (record { clock = it.clock; meta = meta; frame = frame }) xs before none,
      on (record { clock = it.clock; meta = meta; frame = frame } ∷ xs) (none, before),
    )
    by (refused refusal) is none on = grind (arith, is, on xs before)

pub ipv6-law : Ipv6Law
unfolding report_classes
ipv6-law = record {
  sum = report-sum;
  apart = apart;
  without = without;
  refusal = λ run none. refusal-same [] run tt none;
}
