-- What holds of a report that reads IPv6 packets.
use Rattle.std.specs.Prelude.{◌≡◌, List, ◌++◌, Bool, true, false, None, length, ⊤}
use Rattle.std.specs.List.{AllByRecursion}
use Rattle.cap_class.specs.Classes.{classes}
use Rattle.cap_class.specs.Counting.{counts_of, sum_of}
use Rattle.cap_class.specs.Ipv6.{ipv6_read, report_classes}
use Rattle.cap_class.specs.Taken.{Taken}
use Rattle.cap_merge.specs.Run.{Clocked}
use Rattle.cap_print.specs.declared.forms.Form.{Form}
use Rattle.cap_source.specs.Feed.{Item, packet, refused}
use Rattle.cap_talks.specs.table.Conversations.{rows_of, same_talk}
use Rattle.cap_talks.specs.table.CountedUnits.{counted_units, given_up_in, joined_in}
use Rattle.cap_talks.specs.table.TakenText.{body_for, counts_for}
use Rattle.cap_talks.specs.table.TalkLines.{talk_texts_in}
use Rattle.cap_talks.specs.table.Units.{version_of}
use Rattle.cap_talks.specs.talks.ReportText.{report_refusal, report_refusal_for}
use Rattle.cap_talks.specs.declared.table.rows.TalkKey.{TalkKey}

-- a packet carries no IPv6 packet
abbrev pub CarriesNone : Taken → Type 0
CarriesNone x = ipv6_read x.meta x.frame ≡ None

abbrev pub ItemCarriesNone : Item → Type 0
ItemCarriesNone (packet meta frame) = ipv6_read meta frame ≡ None
ItemCarriesNone (refused refusal) = ⊤

-- Each packet has one class, and the seven counts add up to the number of packets. Conversations of the two networks
-- never meet. If no packet carries an IPv6 packet, the report that reads them is the other one with another name of a
-- class, and so is its refusal.
pub record Ipv6Law : Type 0 where
  pub sum : (reads : Bool) (xs : List Taken) → sum_of (counts_of (report_classes reads xs)) ≡ length xs
  pub apart : (a b : TalkKey) → version_of a.lesser.address ≡ 4 → version_of b.lesser.address ≡ 6
      → same_talk a b ≡ false
  pub without : (form : Form) (xs : List Taken) → AllByRecursion CarriesNone xs
      → body_for true form xs
      ≡ counts_for true form xs (classes xs) (counted_units xs) (joined_in xs) (given_up_in xs)
      ++ talk_texts_in form (rows_of (counted_units xs))
  pub refusal : (run : List (Clocked Item)) → AllByRecursion (λ it. ItemCarriesNone it.item) run
      → report_refusal_for true run ≡ report_refusal run
