-- The report of a run of packets.
use Rattle.std.specs.Prelude.{ℕ, List, [], ◌∷◌, Bool, false, Option, Some, None, if◌then◌else◌}
use Rattle.cap_bytes.specs.declared.faults.Refusal.{Refusal}
use Rattle.cap_merge.specs.Run.{Clocked}
use Rattle.cap_print.specs.declared.forms.Form.{Form}
use Rattle.cap_print.specs.declared.forms.Form.TheVariants.{Text}
use Rattle.cap_print.specs.declared.forms.TimeForm.TheVariants.{Exact}
use Rattle.cap_source.specs.Feed.{Item, packet, refused}
use Rattle.cap_source.specs.declared.feeds.FileEnd.{FileEnd}
use Rattle.cap_time.specs.declared.stamps.Stamp.{Stamp}
use Rattle.cap_class.specs.Runs.{taken_after, with_item}
use Rattle.cap_class.specs.Taken.{Taken}
use Rattle.cap_talks.specs.table.Conversations.{rows_of}
use Rattle.cap_talks.specs.table.CountedUnits.{is_limit_for, limit_refusal, units_for}
use Rattle.cap_talks.specs.table.TakenText.{text_for, text_showing_for}
use Rattle.cap_talks.specs.table.TopRows.{top_rows}
use Rattle.cap_talks.specs.talks.InfoText.{or_else}

-- the refusal of a packet that would open a conversation too many, and the one that ends a run
abbrev pub refusal_here_for : Bool → List Taken → Option Stamp → Item → Option Refusal
refusal_here_for reads xs clock (packet meta frame) =
    if is_limit_for reads xs (record { clock = clock; meta = meta; frame = frame }) then Some (limit_refusal meta)
    else None
refusal_here_for reads xs clock (refused refusal) = Some refusal

-- the same of a report that doesn't read IPv6 packets
abbrev pub refusal_here : List Taken → Option Stamp → Item → Option Refusal
refusal_here xs clock item = refusal_here_for false xs clock item

-- the first refusal of a run after those that were taken
unfoldable pub refusal_for : Bool → List Taken → List (Clocked Item) → Option Refusal
refusal_for reads xs [] = None
refusal_for reads xs (x ∷ run) =
    or_else (refusal_here_for reads xs x.clock x.item) (refusal_for reads (with_item x.clock x.item xs) run)

-- the same of a report that doesn't read IPv6 packets
abbrev pub refusal_after : List Taken → List (Clocked Item) → Option Refusal
refusal_after xs run = refusal_for false xs run

-- The report of a run of `count` files with those endings, in a form; it reads IPv6 packets or not.
abbrev pub report_text_for : Bool → Form → ℕ → (ℕ → FileEnd) → List (Clocked Item) → List ℕ
report_text_for reads form count endings run = text_for reads form count (Some endings) (taken_after [] run)

-- The same with the lines of the conversations with the most bytes, so many of them.
abbrev pub report_top_for : Bool → Form → ℕ → ℕ → (ℕ → FileEnd) → List (Clocked Item) → List ℕ
report_top_for reads form most count endings run =
    text_showing_for reads form (top_rows most (rows_of (units_for reads (taken_after [] run)))) count (Some endings)
    (taken_after [] run)

-- The same with the lines of all conversations, or of those with the most bytes.
abbrev pub report_for : Bool → Form → Option ℕ → ℕ → (ℕ → FileEnd) → List (Clocked Item) → List ℕ
report_for reads form None = report_text_for reads form
report_for reads form (Some most) = report_top_for reads form most

-- the refusal that is returned instead, if there is one
abbrev pub report_refusal_for : Bool → List (Clocked Item) → Option Refusal
report_refusal_for reads run = refusal_for reads [] run

-- ---- a report that doesn't read IPv6 packets

abbrev pub report_text_in : Form → ℕ → (ℕ → FileEnd) → List (Clocked Item) → List ℕ
report_text_in form count endings run = report_text_for false form count endings run

-- the same in text
abbrev pub report_text : ℕ → (ℕ → FileEnd) → List (Clocked Item) → List ℕ
report_text count endings run = report_text_in (Text Exact) count endings run

abbrev pub report_top_in : Form → ℕ → ℕ → (ℕ → FileEnd) → List (Clocked Item) → List ℕ
report_top_in form most count endings run = report_top_for false form most count endings run

abbrev pub report_shown_in : Form → Option ℕ → ℕ → (ℕ → FileEnd) → List (Clocked Item) → List ℕ
report_shown_in form top = report_for false form top

abbrev pub report_refusal : List (Clocked Item) → Option Refusal
report_refusal run = report_refusal_for false run
