-- How far a pcapng file was read, as it is kept.
use Rattle.std.specs.Prelude.{◌+◌, ℕ, nat_lt, Bool, true, length, Option, Some, None, unwrap_or, vec_len, vec_capacity}
use Rattle.cap_source.specs.Items.{SectionProgress}
use Rattle.cap_source.specs.declared.section_states.SectionState.{SectionState}

abbrev pub progress_of : SectionState → SectionProgress
progress_of reached =
    record {
      interfaces = reached.interfaces.items;
      base = reached.base;
      skipped = reached.skipped;
      kinds = reached.kinds;
      named = reached.named;
      first = reached.first;
      comments = reached.comments;
    }

-- how many blocks and comments of the file are counted in it: the blocks of interfaces with a name, of secrets and of
-- names twice
abbrev pub counted_blocks : SectionProgress → ℕ
counted_blocks progress =
    progress.base + length progress.interfaces + progress.skipped + progress.named + progress.kinds.secrets
    + progress.kinds.names + unwrap_or progress.comments 0

-- whether there is room for an interface, once a read has failed
abbrev pub has_room : Option ℕ → SectionState → Bool
has_room None reached = true
has_room (Some first) reached = nat_lt (vec_len reached.interfaces) (vec_capacity reached.interfaces)
