-- What the lines of a file's blocks still give.
use Rattle.std.specs.Prelude.{◌≡◌, ◌+◌, ℕ, List, [], ◌++◌, Option, Some, None, Result, Ok, Err}
use Rattle.cap_blocks.specs.Split.{block_items_from}
use Rattle.cap_blocks.specs.declared.blocks.Block.{Block}
use Rattle.cap_blocks.specs.inner.Reader.{blocks_to_come}
use Rattle.cap_bytes.specs.Items.{PieceItem}
use Rattle.cap_bytes.specs.declared.faults.Fault.{Fault}
use Rattle.cap_bytes.specs.declared.faults.Fault.TheVariants.{Refused, Read, Write, Memory}
use Rattle.cap_bytes.specs.declared.faults.Tail.{Tail}
use Rattle.cap_bytes.specs.declared.numbers.Order.{Order}
use Rattle.cap_bytes.specs.inner.Reader.{ReaderState}
use Rattle.cap_commands.specs.BlockText.{block_line, block_lines, blocks_refusal}
use Rattle.cap_commands.specs.declared.jobs.Finding.TheVariants.{Nothing}
use Rattle.cap_print.specs.declared.forms.Form.{Form}
use Rattle.capt_c.specs.JobRests.{JobRest, end_by}
use Rattle.capt_c.specs.declared.job_ends.JobEnd.TheVariants as ends

-- the lines of blocks, from that number on
abbrev pub pieces_rest : Form → ℕ → List (PieceItem Block) → JobRest
pieces_rest form number items = record {
  text = block_lines (block_line form) number items;
  end = end_by (blocks_refusal items);
}

-- the lines of a file with those bytes
abbrev pub file_blocks_rest : Form → Tail → List ℕ → JobRest
file_blocks_rest form tail bytes = pieces_rest form 1 (block_items_from None tail 1 0 bytes)

-- the lines of the block that was read and not passed, if there is one, and of those that a reader still gives
abbrev pub blocks_rest : Form → ℕ → Option Block → ReaderState Order → JobRest
blocks_rest form number None reader = pieces_rest form number (blocks_to_come reader)
blocks_rest form number (Some block) reader = record {
  text =
      block_line form number block ++ (pieces_rest form (number + 1) (blocks_to_come reader)).text;
  end = (pieces_rest form (number + 1) (blocks_to_come reader)).end;
}

-- The block that comes next is known, and the same is to come. Or none comes, or the file is refused, or no memory was
-- found.
abbrev pub PeeksBlock : Form → ℕ → Option Block → ReaderState Order → Result (Option Block) Fault → Option Block
    → ReaderState Order → Type 0
PeeksBlock form number next old (Ok (Some block)) later new =
    (later ≡ Some block) × (blocks_rest form number later new ≡ blocks_rest form number next old)
PeeksBlock form number next old (Ok None) later new =
    (blocks_rest form number next old ≡ record { text = []; end = ends.Found Nothing })
    × (blocks_rest form number later new ≡ blocks_rest form number next old)
PeeksBlock form number next old (Err (Refused refusal)) later new =
    (blocks_rest form number next old ≡ record { text = []; end = ends.Refused refusal })
    × (blocks_rest form number later new ≡ blocks_rest form number next old)
PeeksBlock form number next old (Err (Read file offset)) later new = ⊥
PeeksBlock form number next old (Err Write) later new = ⊥
PeeksBlock form number next old (Err Memory) later new =
    blocks_rest form number later new ≡ blocks_rest form number next old
