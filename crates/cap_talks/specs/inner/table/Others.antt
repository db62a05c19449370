-- The counts of networks other than IPv4, packet by packet, and what comes next of a table.
use Rattle.std.specs.Prelude.{◌≡◌, ◌+◌, ◌⊎◌, IsTrue, Option, Some, None, Result, Ok, Err}
use Rattle.cap_bytes.specs.declared.faults.Fault.{Fault}
use Rattle.cap_link.specs.declared.networks.OtherNetwork.{OtherNetwork}
use Rattle.cap_link.specs.declared.networks.OtherNetwork.TheVariants.{Ipv6, Arp, Other}
use Rattle.cap_merge.specs.Parts.{merged_feed}
use Rattle.cap_source.specs.Feed.{FeedGoes}
use Rattle.cap_source.specs.declared.feeds.Head.TheVariants as heads
use Rattle.cap_class.specs.Taken.{Taken}
use Rattle.cap_talks.specs.inner.table.Stepping.{KeepsTableRun, TableState, TableStays, TableSteps, next_taken}
use Rattle.cap_talks.specs.table.OtherNetworks.{other_network_at}
use Rattle.cap_talks.specs.declared.table.others.OtherCounts.{OtherCounts}

-- the counts with one packet more, of that network
abbrev pub with_network : Option OtherNetwork → OtherCounts → OtherCounts
with_network None counts = counts
with_network (Some Ipv6) counts = record counts { ipv6 = counts.ipv6 + 1 }
with_network (Some Arp) counts = record counts { arp = counts.arp + 1 }
with_network (Some Other) counts = record counts { other = counts.other + 1 }

-- a packet comes next, and that is its network
pub record ComesOf (network : Option OtherNetwork) (t : TableState) : Type 0 where
  pub item : Taken
  pub next : next_taken t.parts ≡ Some item
  pub is : network ≡ other_network_at item

-- What comes next was looked for: a packet of that network, or the end. Nothing was taken.
pub record LooksAhead (network : Option OtherNetwork) (old new : TableState) : Type 0 where
  pub known : ComesOf network new ⊎ ((merged_feed new.parts).known ≡ Some heads.End)
  pub same : IsTrue (merged_feed old.parts).told → KeepsTableRun old new
  pub goes : FeedGoes (merged_feed old.parts) (merged_feed new.parts)
  pub stays : TableStays old new

-- a look for what comes next faults as a step does
abbrev pub SeesNext : TableState → Result (Option OtherNetwork) Fault → TableState → Type 0
SeesNext old (Ok network) new = LooksAhead network old new
SeesNext old (Err fault) new = TableSteps old (Err fault) new
