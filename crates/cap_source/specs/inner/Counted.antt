-- What counting the comments of a file changes of how it ends.
use Rattle.std.specs.Prelude.{◌≡◌, ◌&&◌, ℕ, Bool, List, None, is_some}
use Rattle.cap_bytes.specs.declared.faults.Tail.{Tail}
use Rattle.cap_source.specs.Items.{counted_ending, file_ending, is_pcapng}
use Rattle.cap_source.specs.declared.feeds.FileEnd.{FileEnd}

-- how a file ends, without its comments
abbrev pub without_comments : FileEnd → FileEnd
without_comments end = record end { comments = None }

-- Counting the comments of a file changes nothing else of how the file ends. Their number is known exactly if they are
-- counted and it is a pcapng file.
abbrev pub CommentsApart : Type 0
CommentsApart = (comments : Bool) (tail : Tail) (file : ℕ) (bytes : List ℕ)
    → (without_comments (counted_ending comments tail file bytes) ≡ file_ending tail file bytes)
    × (is_some (counted_ending comments tail file bytes).comments ≡ (comments && is_pcapng bytes))
