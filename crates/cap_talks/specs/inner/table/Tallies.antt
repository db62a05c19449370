-- What a tally keeps, and what it stands for.
use Rattle.std.specs.Prelude.{◌≡◌, ℕ, List, ◌∷◌, ◌++◌, ◌+◌, ◌*◌, ◌≤◌, ◌^◌, Bool, true, false, length, Option, Some}
use Rattle.std.specs.Prelude.{None, Result, Ok, Err, ⊤, if◌then◌else◌}
use Rattle.cap_join.specs.ByteMap.{completes}
use Rattle.cap_join.specs.Fragments.{Piece}
use Rattle.cap_join.specs.inner.Groups.{IsDatagramOf}
use Rattle.cap_join.specs.History.{joined_pieces, open_groups_after}
use Rattle.cap_join.specs.Joiners.{JoinerState, open_limit}
use Rattle.cap_join.specs.Joiners as joiners
use Rattle.cap_join.specs.declared.datagrams.Datagram.{Datagram}
use Rattle.cap_join.specs.inner.Fitting.{FitsDatagram}
use Rattle.cap_print.specs.Facts.{line_in}
use Rattle.cap_print.specs.declared.forms.Form.{Form}
use Rattle.cap_talks.specs.table.Conversations.{Conversation}
use Rattle.cap_talks.specs.table.Rows.{TalksState, frames_in, bytes_in}
use Rattle.cap_talks.specs.table.Rows as talks
use Rattle.cap_class.specs.Ipv6.{report_classes}
use Rattle.cap_class.specs.Counting.{counts_of, is_class}
use Rattle.cap_talks.specs.table.TakenText.{frames_facts_for, joined_facts}
use Rattle.cap_talks.specs.table.TalkLines.{talk_texts_in, talks_facts}
use Rattle.cap_class.specs.Taken.{Taken, fragment, classify, events_of}
use Rattle.cap_talks.specs.table.CountedUnits.{is_limit_for, joined_in, units_for}
use Rattle.cap_class.specs.declared.classes.Class.{Class}
use Rattle.cap_class.specs.declared.classes.Class.TheVariants as class
use Rattle.cap_class.specs.declared.counts.ClassCounts.{ClassCounts}
use Rattle.cap_talks.specs.declared.table.conversations.ConversationsFault.{ConversationsFault}
use Rattle.cap_talks.specs.declared.table.conversations.ConversationsFault.TheVariants as faults

-- Whether IPv6 packets are read, how many packets were taken, how many of each class there are, how many joined
-- datagrams count, the conversations, the joiner, and a joined datagram that waits for its conversation.
pub record TallyState : Type 0 where
  pub reads : Bool
  pub place : ℕ
  pub classes : ClassCounts
  pub joined : ℕ
  pub talks : TalksState
  pub joiner : JoinerState
  pub waiting : Option Datagram

-- A joiner stands for the events of some packets and of the next one, which completed the datagram that waits.
pub record WaitsFor (d : Datagram) (joiner : JoinerState) (xs : List Taken) (next : Option Taken) : Type 0 where
  pub packet : Taken
  pub is_next : next ≡ Some packet
  pub piece : Piece
  pub is_fragment : classify (length xs) packet ≡ fragment piece
  pub stands : joiners.JoinerStandsFor joiner (events_of (packet ∷ xs))
  pub whole : completes (joined_pieces packet.clock piece (open_groups_after open_limit (events_of xs))) ≡ true
  pub datagram : IsDatagramOf d (joined_pieces packet.clock piece (open_groups_after open_limit (events_of xs)))

abbrev pub Joins : Option Datagram → JoinerState → List Taken → Option Taken → Type 0
Joins None joiner xs next = joiners.JoinerStandsFor joiner (events_of xs)
Joins (Some d) joiner xs next = WaitsFor d joiner xs next

-- A tally stands for some packets that were taken, the latest first. `next` is the packet that is known to come next,
-- if one is.
pub record TallyStands (t : TallyState) (xs : List Taken) (next : Option Taken) : Type 0 where
  pub place : t.place ≡ length xs
  pub classes : t.classes ≡ counts_of (report_classes t.reads xs)
  pub joined : t.joined ≡ joined_in xs
  pub talks : talks.TalksStandFor t.talks (units_for t.reads xs)
  pub joins : Joins t.waiting t.joiner xs next

-- a waiting datagram fits into the numbers
abbrev pub WaitingFits : Option Datagram → ℕ → Type 0
WaitingFits None place = ⊤
WaitingFits (Some d) place = FitsDatagram d

abbrev pub one_if_waiting : Option Datagram → ℕ
one_if_waiting None = 0
one_if_waiting (Some d) = 1

pub record IsSoundTally (t : TallyState) : Type 0 where
  pub taken : List Taken
  pub next : Option Taken
  pub stands : TallyStands t taken next
  pub few : t.place ≤ 2 ^ 62
  pub places : t.joiner.next ≤ t.place + one_if_waiting t.waiting
  pub bytes : bytes_in t.talks.rows ≤ frames_in t.talks.rows * 2 ^ 32
  pub fits : WaitingFits t.waiting t.place

-- the bytes of a joined datagram that waits
abbrev pub waiting_bytes : Option Datagram → ℕ
waiting_bytes None = 0
waiting_bytes (Some d) = length d.payload.items

-- the lines of a tally, with those of these conversations, in a form
unfoldable pub tally_text_in : Form → List Conversation → TallyState → List ℕ
tally_text_in form rows t =
    line_in form (frames_facts_for t.reads t.classes) ++ line_in form (joined_facts t.joined t.joiner.given_up)
    ++ (line_in form (talks_facts (length t.talks.rows)) ++ talk_texts_in form rows)

-- one, of a class that counts
abbrev pub counted_one : Class → ℕ
counted_one c = if is_class class.Counted c then 1 else 0

-- If it is returned that a packet was counted, the tally stands for it too; else a datagram waits.
abbrev pub Looks : TallyState → Taken → Bool → TallyState → Type 0
Looks old x true new = (xs : List Taken) → TallyStands old xs (Some x) → TallyStands new xs (Some x)
Looks old x false new =
    (xs : List Taken) → TallyStands old xs (Some x) → (is_limit_for old.reads xs x ≡ false)
    × ((next : Option Taken) → TallyStands new (x ∷ xs) next)

-- a datagram waits, if that is returned
abbrev pub WaitsIf : Option Datagram → Bool → Type 0
WaitsIf None waits = waits ≡ false
WaitsIf (Some d) waits = waits ≡ true

-- What a call for one packet more returns: `Limit` exactly if the packet's conversation would be one too many.
abbrev pub LimitBy : Result (Unit {0}) ConversationsFault → Bool → Type 0
LimitBy (Ok _) limit = limit ≡ false
LimitBy (Err faults.Limit) limit = limit ≡ true
LimitBy (Err faults.Memory) limit = ⊤
