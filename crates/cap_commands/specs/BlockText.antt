-- What `capt blocks` prints.
use Rattle.std.specs.Prelude.{ℕ, ◌+◌, List, [], ◌∷◌, ◌++◌, codes, Option, Some, None}
use Rattle.hex.specs.Hex.{encode_lower}
use Rattle.cap_bytes.specs.Number.{bytes_of}
use Rattle.cap_bytes.specs.declared.faults.Refusal.{Refusal}
use Rattle.cap_bytes.specs.declared.faults.Tail.{Tail}
use Rattle.cap_bytes.specs.declared.numbers.Order.{Order}
use Rattle.cap_bytes.specs.declared.numbers.Order.TheVariants.{Big, Little}
use Rattle.cap_bytes.specs.Items.{PieceItem, cut_of, given, stopped}
use Rattle.cap_blocks.specs.Split.{block_items_from}
use Rattle.cap_blocks.specs.declared.blocks.Block.{Block}
use Rattle.cap_print.specs.Facts.{Facts, line_in, named, number, one, word}
use Rattle.cap_print.specs.declared.forms.Form.{Form}
use Rattle.cap_print.specs.declared.forms.Form.TheVariants.{Json, Text}
use Rattle.cap_print.specs.declared.forms.TimeForm.TheVariants.{Exact}
use Rattle.cap_bytes.specs.declared.stops.CutRest.{CutRest}
use Rattle.cap_bytes.specs.declared.stops.Stop.{Stop}
use Rattle.cap_bytes.specs.declared.stops.Stop.TheVariants as stops

-- the order of a block's numbers
abbrev pub order_text : Order → List ℕ
order_text Big = codes "big"
order_text Little = codes "little"

-- a block's kind, in eight lower case hex digits
abbrev pub kind_text : ℕ → List ℕ
kind_text kind = encode_lower (bytes_of Big 4 kind)

-- the facts of the block number n
abbrev pub block_facts : ℕ → Block → Facts
block_facts n block = record {
  kind = codes "block";
  fields =
      one (record { label = codes " "; key = codes "n"; value = number n })
      ∷ one (named (codes "offset") (number block.offset))
      ∷ one (named (codes "order") (word (Some (order_text block.order))))
      ∷ one (named (codes "kind") (word (Some (kind_text block.kind))))
      ∷ one (named (codes "total") (number block.total))
      ∷ [];
}

-- the line of the block number n in a form
abbrev pub block_line : Form → ℕ → Block → List ℕ
block_line form n block = line_in form (block_facts n block)

-- the lines of the blocks of a pcapng file, numbered from n on; `line` gives the line of each
unfoldable pub block_lines : (ℕ → Block → List ℕ) → ℕ → List (PieceItem Block) → List ℕ
block_lines line n [] = []
block_lines line n (given block body ∷ items) = line n block ++ block_lines line (n + 1) items
block_lines line n (stopped stop ∷ items) = []

-- the refusal that ends the blocks, if one does
abbrev pub refusal_of_stop : Stop → Option Refusal
refusal_of_stop stops.End = None
refusal_of_stop (stops.Cut rest) = None
refusal_of_stop (stops.Refused refusal) = Some refusal

unfoldable pub blocks_refusal : List (PieceItem Block) → Option Refusal
blocks_refusal [] = None
blocks_refusal (given block body ∷ items) = blocks_refusal items
blocks_refusal (stopped stop ∷ items) = refusal_of_stop stop

-- what `blocks` prints in a form of a file with those bytes
abbrev pub block_list_in : Form → Tail → List ℕ → List ℕ
block_list_in form tail bytes = block_lines (block_line form) 1 (block_items_from None tail 1 0 bytes)

-- what it prints in text
abbrev pub block_list : Tail → List ℕ → List ℕ
block_list = block_list_in (Text Exact)

-- what it prints in JSON
abbrev pub block_list_json : Tail → List ℕ → List ℕ
block_list_json = block_list_in (Json Exact)

-- the refusal that ends `blocks` of a file with those bytes in either form, if there is one
abbrev pub block_refusal : Tail → List ℕ → Option Refusal
block_refusal tail bytes = blocks_refusal (block_items_from None tail 1 0 bytes)

-- the rest that is dropped at the end of the blocks, if it is cut
unfoldable pub blocks_cut : List (PieceItem Block) → Option CutRest
blocks_cut [] = None
blocks_cut (given block body ∷ items) = blocks_cut items
blocks_cut (stopped stop ∷ items) = cut_of stop

-- that of a file with those bytes
abbrev pub block_cut : Tail → List ℕ → Option CutRest
block_cut tail bytes = blocks_cut (block_items_from None tail 1 0 bytes)
