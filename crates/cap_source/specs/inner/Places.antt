-- What is known at a block of a pcapng file, by the blocks before it and the kinds that they have, whatever reads them.
use Rattle.std.specs.Prelude.{◌≡◌, ◌≤◌, ◌==◌, ◌&&◌, ◌+◌, ℕ, not, Bool, List, [], ◌∷◌, ◌++◌, map, length, drop}
use Rattle.std.specs.Prelude.{slice_get, Option, None}
use Rattle.std.specs.List.{filter, count_by, before_last, after_last}
use Rattle.cap_bytes.specs.Items as pieces
use Rattle.cap_blocks.specs.Grammar.{section_kind, interface_kind, is_known_kind}
use Rattle.cap_blocks.specs.OptionList.{options_of}
use Rattle.cap_blocks.specs.declared.blocks.Block.{Block}
use Rattle.cap_source.specs.Feed.{Item}
use Rattle.cap_source.specs.declared.feeds.FileEnd.{FileEnd}
use Rattle.cap_source.specs.Contents.{content_in}
use Rattle.cap_source.specs.Items.{SectionProgress, fresh, items_at_block, items_of_blocks, items_of_stop, ending_with}
use Rattle.cap_source.specs.Items.{ending_in, names_kind, secrets_kind}
use Rattle.cap_source.specs.Items.{unless_faulty, first_in, unless_item}
use Rattle.cap_source.specs.TimeBases.{interface_at, is_named}
use Rattle.cap_time.specs.declared.resolutions.Interface.{Interface}

-- a block of a file, and its body
abbrev pub Standing : Type 0
Standing = Block × List ℕ

abbrev pub is_header : Standing → Bool
is_header b = b.0.kind == section_kind

abbrev pub is_interface : Standing → Bool
is_interface b = b.0.kind == interface_kind

-- a block that is skipped: its kind is none of those that are known
abbrev pub is_other : Standing → Bool
is_other b = not (is_known_kind b.0.kind)

-- the interface that an interface block tells of, by its own body
abbrev pub told : Standing → Interface
told b = interface_at b.0.order b.1 (options_of b.0.order (drop 8 b.1))

-- a block of secrets, and one of names, both of which are skipped. draft-ietf-opsawg-pcapng, 4.8 and 4.5.
abbrev pub is_secrets : Standing → Bool
is_secrets b = b.0.kind == secrets_kind

abbrev pub is_names : Standing → Bool
is_names b = b.0.kind == names_kind

-- a block of an interface with a name
abbrev pub is_named_interface : Standing → Bool
is_named_interface b = is_interface b && is_named b.0.order b.1

-- the interfaces of some blocks, in their order
abbrev pub interfaces_of : List Standing → List Interface
interfaces_of bs = map told (filter is_interface bs)

-- What is known behind these blocks of a file: the interfaces of those after the last section header; how many
-- interface blocks stand before that header; how many blocks were skipped, and how many of these have secrets or names;
-- how many interfaces have a name; and the first interface of all. Comments aren't counted.
unfoldable pub known_behind : List Standing → SectionProgress
known_behind before =
    record {
      interfaces = interfaces_of (after_last is_header before);
      base = count_by is_interface (before_last is_header before);
      skipped = count_by is_other before;
      kinds = record { secrets = count_by is_secrets before; names = count_by is_names before };
      named = count_by is_named_interface before;
      first = slice_get (interfaces_of before) 0;
      comments = None;
    }

-- The items of a file's rest, how it ends, and its first interface, by what is known at each block behind all those
-- before it.
unfoldable pub items_behind : ℕ → List Standing → List (pieces.PieceItem Block) → List Item
items_behind file before [] = []
items_behind file before (pieces.stopped stop ∷ rest) = items_of_stop stop
items_behind file before (pieces.given block body ∷ rest) =
    items_at_block file (known_behind before) block body
    (content_in (known_behind before).interfaces block.kind block.order body)
    (items_behind file (before ++ (block, body) ∷ []) rest)

unfoldable pub ending_behind : List Standing → List (pieces.PieceItem Block) → FileEnd
ending_behind before [] = ending_with (known_behind before) None
ending_behind before (pieces.stopped stop ∷ rest) = ending_with (known_behind before) (pieces.cut_of stop)
ending_behind before (pieces.given block body ∷ rest) =
    unless_faulty (content_in (known_behind before).interfaces block.kind block.order body)
    (ending_with (known_behind before) None) (ending_behind (before ++ (block, body) ∷ []) rest)

unfoldable pub first_behind : List Standing → List (pieces.PieceItem Block) → Option Interface
first_behind before [] = (known_behind before).first
first_behind before (pieces.stopped stop ∷ rest) = (known_behind before).first
first_behind before (pieces.given block body ∷ rest) =
    unless_item (content_in (known_behind before).interfaces block.kind block.order body)
    (known_behind before).first (first_behind (before ++ (block, body) ∷ []) rest)

-- The items of every file are those by places, however many blocks it has and whatever ends them,
abbrev pub ItemsByPlaces : Type 0
ItemsByPlaces = (file : ℕ) (items : List (pieces.PieceItem Block))
    → items_of_blocks file fresh items ≡ items_behind file [] items

-- so is how it ends,
abbrev pub EndingByPlaces : Type 0
EndingByPlaces = (items : List (pieces.PieceItem Block)) → ending_in fresh items ≡ ending_behind [] items

-- and so is its first interface.
abbrev pub FirstByPlaces : Type 0
FirstByPlaces = (items : List (pieces.PieceItem Block)) → first_in fresh items ≡ first_behind [] items

-- An interface's number in the file: behind any blocks, the interfaces that are known end with the last one of all.
abbrev pub NumbersByPlaces : Type 0
NumbersByPlaces = (before : List Standing) → (known_behind before).base + length (known_behind before).interfaces
    ≡ count_by is_interface before

-- The blocks of secrets and those of names are among the skipped ones.
abbrev pub KindsByPlaces : Type 0
KindsByPlaces = (before : List Standing) → (known_behind before).kinds.secrets + (known_behind before).kinds.names
    ≤ (known_behind before).skipped
