-- The words that capt itself puts into a line of JSON. It puts each between quotation marks as it is: none has a
-- character that JSON escapes.
use Rattle.std.specs.Prelude.{◌≡◌, ◌<◌, ◌^◌, Bool, ℕ, nat_abs, List, [], ◌∷◌, Option, Some, flat_map, ⊤}
use Rattle.std.specs.List.{AllByRecursion}
use Rattle.cap_blocks.specs.declared.blocks.Block.{Block}
use Rattle.cap_bytes.specs.declared.faults.Refusal.{Refusal}
use Rattle.cap_check.specs.CheckText.{check_facts}
use Rattle.cap_check.specs.declared.checked.Check.{Check}
use Rattle.cap_check.specs.declared.checked.CheckLine.{CheckLine}
use Rattle.cap_commands.specs.BlockText.{block_facts}
use Rattle.cap_commands.specs.DiffText.{Compared, difference_words, same_line}
use Rattle.cap_commands.specs.ListText.{facts_before, facts_showing}
use Rattle.cap_commands.specs.Skipping.{left_out_facts}
use Rattle.cap_laws.specs.JsonLines.{ValueFits, line_members, object}
use Rattle.cap_tool.specs.Objects.{escaped_character}
use Rattle.cap_line.specs.declared.jobs.Ignored.{Ignored}
use Rattle.cap_print.specs.declared.forms.Form.TheVariants.{Json}
use Rattle.cap_print.specs.declared.forms.TimeForm.{TimeForm}
use Rattle.cap_print.specs.declared.forms.TimeForm.TheVariants.{Exact}
use Rattle.cap_print.specs.Facts.{line_in}
use Rattle.cap_print.specs.Facts.{Facts, Field, Value, coded, group, hex, moment, number, one, word}
use Rattle.cap_source.specs.declared.feeds.Ending.{Ending}
use Rattle.cap_source.specs.declared.packets.Meta.{Meta}
use Rattle.cap_time.specs.Time.{Printed}
use Rattle.cap_talks.specs.counts.FileLines.{file_facts, files_facts}
use Rattle.cap_talks.specs.declared.counts.counts.Counts.{Counts}
use Rattle.cap_class.specs.declared.counts.ClassCounts.{ClassCounts}
use Rattle.cap_talks.specs.declared.table.descriptions.Description.{Description}
use Rattle.cap_talks.specs.declared.table.rows.TalkKey.{TalkKey}
use Rattle.cap_talks.specs.declared.table.rows.TalkRow.{TalkRow}
use Rattle.cap_talks.specs.table.Descriptions.{description_fields}
use Rattle.cap_talks.specs.table.TakenText.{frames_facts_for, joined_facts, total_facts}
use Rattle.cap_talks.specs.table.TalkLines.{talk_facts, talks_facts}

-- the word of a value, if it is one
abbrev pub word_of : Value → List (List ℕ)
word_of (word (Some known)) = known ∷ []
word_of other = []

-- the names and words of a field
abbrev pub field_words : Field → List (List ℕ)
field_words (one fact) = fact.key ∷ word_of fact.value
field_words (group key fact facts) = key ∷ flat_map (λ it. it.key ∷ word_of it.value) (fact ∷ facts)

-- The kind of a line, its names and its words have no character that is escaped.
abbrev pub HasPlainWords : Facts → Type 0
HasPlainWords line =
    AllByRecursion (λ text. flat_map escaped_character text ≡ text) (line.kind ∷ flat_map field_words line.fields)

-- The lines of `info` and `report` have such words.
pub record ReportWordsPlain : Type 0 where
  pub left_out : (refusal : Refusal) → HasPlainWords (left_out_facts refusal)
  pub files : (count : ℕ) → HasPlainWords (files_facts count)
  pub file : (number : ℕ) (counts : Counts) (ending : Option Ending) → HasPlainWords (file_facts number counts ending)
  pub total : (packets bytes truncated : ℕ) → HasPlainWords (total_facts packets bytes truncated)
  pub frames : (reads : Bool) (counts : ClassCounts) → HasPlainWords (frames_facts_for reads counts)
  pub joined : (joined given_up : ℕ) → HasPlainWords (joined_facts joined given_up)
  pub talks : (count : ℕ) → HasPlainWords (talks_facts count)
  pub talk : (key : TalkKey) (row : TalkRow) → HasPlainWords (talk_facts key row)

-- So have those of `list`, with a class or without, `blocks`, `check`, `digest` and `diff`.
pub record ListedWordsPlain : Type 0 where
  pub packet : (n : ℕ) (meta : Meta) (shown : List ℕ) → HasPlainWords (facts_showing n meta shown)
  pub classed : (it : Description) (n : ℕ) (meta : Meta) (shown : List ℕ)
      → HasPlainWords (facts_before (description_fields it) n meta shown)
  pub block : (n : ℕ) (block : Block) → HasPlainWords (block_facts n block)
  pub checked : (which : CheckLine) (file : ℕ) (check : Check) → HasPlainWords (check_facts which file check)
  pub same : (times : TimeForm) (n : ℕ) (cuts : _)
      → (line : Facts) × (same_line (Json times) n cuts ≡ line_in (Json times) line) × HasPlainWords line
  pub differ : (ignored : Ignored) (a b : Option Compared)
      → AllByRecursion (λ text. flat_map escaped_character text ≡ text) (difference_words ignored a b)

-- the numbers that are printed of a time have up to 64 digits; a fraction with a point is below 1
abbrev pub TimeNumbersFit : TimeForm → Printed → Type 0
TimeNumbersFit Exact time =
    (nat_abs time.seconds < 10 ^ 64) × (time.numerator < 10 ^ 64) × (time.denominator < 10 ^ 64)
TimeNumbersFit other time = (nat_abs time.seconds < 10 ^ 64) × (time.numerator < time.denominator)

-- the numbers of a value have up to 64 digits, and the bytes that it shows are below 256
abbrev pub NumbersFit : TimeForm → Value → Type 0
NumbersFit times (number n) = n < 10 ^ 64
NumbersFit times (coded text n) = n < 10 ^ 64
NumbersFit times (moment (Some time)) = TimeNumbersFit times time
NumbersFit times (hex bytes) = AllByRecursion (λ byte. byte < 256) bytes
NumbersFit times other = ⊤

-- the same of a field
abbrev pub FieldFits : TimeForm → Field → Type 0
FieldFits times (one fact) = NumbersFit times fact.value
FieldFits times (group key fact facts) = AllByRecursion (λ it. NumbersFit times it.value) (fact ∷ facts)

-- The object of a line with such words and such numbers fits, so the line is its text (`json_lines`).
abbrev pub PlainLinesFit : Type 0
PlainLinesFit =
    (times : TimeForm) (line : Facts) → HasPlainWords line → AllByRecursion (FieldFits times) line.fields
    → ValueFits 4 (object (line_members times line))
