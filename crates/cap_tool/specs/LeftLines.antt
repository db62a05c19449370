-- The lines that tell what a command that writes a capture leaves out, or leaves as it was.
use Rattle.std.specs.Prelude.{ℕ, ◌==◌, ◌&&◌, ◌-◌, Bool, List, [], ◌++◌, codes, decimal, if◌then◌else◌}
use Rattle.cap_commands.specs.declared.left.DroppedInfo.{DroppedInfo}
use Rattle.cap_tool.specs.declared.outcomes.Outcome.{Outcome}
use Rattle.cap_tool.specs.declared.outcomes.Outcome.TheVariants as outcomes

-- a label, a count and what is counted, unless the count is 0
abbrev pub count_text : List ℕ → ℕ → List ℕ → List ℕ → List ℕ
count_text label count one many = if count == 0 then [] else label ++ decimal count
    ++ (if count == 1 then one else many)

-- the skipped blocks that are neither blocks of secrets nor blocks of names
abbrev pub other_blocks : DroppedInfo → ℕ
other_blocks left = left.skipped - left.secret_blocks - left.name_blocks

-- whether no block of secrets was skipped, whether no block of names was either, whether no block was, whether no
-- interface has a name either, and whether no comment was counted either
abbrev pub no_secrets : DroppedInfo → Bool
no_secrets left = left.secret_blocks == 0

abbrev pub no_kinds : DroppedInfo → Bool
no_kinds left = no_secrets left && (left.name_blocks == 0)

abbrev pub no_blocks : DroppedInfo → Bool
no_blocks left = no_kinds left && (other_blocks left == 0)

abbrev pub no_names : DroppedInfo → Bool
no_names left = no_blocks left && (left.named == 0)

abbrev pub drops_nothing : DroppedInfo → Bool
drops_nothing left = no_names left && (left.comments == 0)

-- The parts of the line of what isn't carried on. Each begins the line or follows another. The blocks of names:
abbrev pub name_blocks_text : Bool → ℕ → List ℕ
name_blocks_text is_first count =
    if is_first then count_text (codes "not carried on: ") count (codes " block of names") (codes " blocks of names")
    else count_text (codes ", ") count (codes " of names") (codes " of names")

-- the blocks of other kinds:
abbrev pub other_blocks_text : Bool → ℕ → List ℕ
other_blocks_text is_first count =
    if is_first then count_text (codes "not carried on: ") count (codes " block") (codes " blocks")
    else count_text (codes ", ") count (codes " of another kind") (codes " of other kinds")

-- what stands before the number of interfaces with a name,
abbrev pub names_label : Bool → List ℕ
names_label is_first = if is_first then codes "not carried on: names of " else codes ", names of "

-- and what stands before the number of comments.
abbrev pub comments_label : Bool → List ℕ
comments_label is_first = if is_first then codes "not carried on: " else codes ", "

-- the line of what isn't carried on: the blocks of secrets, those of names, the others, the interfaces with names, and
-- the comments, each unless there is none
abbrev pub dropped_text : DroppedInfo → List ℕ
dropped_text left =
    count_text (codes "not carried on: ") left.secret_blocks (codes " block of secrets") (codes " blocks of secrets")
    ++ name_blocks_text (no_secrets left) left.name_blocks
    ++ other_blocks_text (no_kinds left) (other_blocks left)
    ++ count_text (names_label (no_blocks left)) left.named (codes " interface") (codes " interfaces")
    ++ count_text (comments_label (no_names left)) left.comments (codes " comment") (codes " comments")
    ++ (if drops_nothing left then [] else codes "\n")

-- the lines of what is left
abbrev pub left_text : DroppedInfo → List ℕ
left_text left =
    dropped_text left
    ++ count_text (codes "ran back: ") left.ran_back (codes " packet\n") (codes " packets\n")

-- these, if all was done
abbrev pub left_told : Outcome → DroppedInfo → List ℕ
left_told outcomes.Done left = left_text left
left_told outcomes.Differ left = []
left_told outcomes.NotWhole left = []
left_told (outcomes.Line fault) left = []
left_told (outcomes.Fault fault) left = []
left_told (outcomes.Open file) left = []
left_told outcomes.List left = []
left_told (outcomes.ListLine line) left = []
left_told outcomes.Create left = []
