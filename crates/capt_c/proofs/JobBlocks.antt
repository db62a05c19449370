-- A step of a job that lists blocks, by what its reader gives.
use Rattle.std.proofs.Common.{◌≡◌, ◌+◌, ◌≤◌, ◌<◌, ◌^◌, ◌++◌, [], ℕ, List, Option, Some, None, Ok}
use Rattle.std.proofs.Common.{Err, false, refl, sym, ap, subst, ◌∙◌, arith, append_assoc}
use Rattle.std.proofs.lemmas.Bool.{false≢true}
use Rattle.cap_blocks.specs.declared.blocks.Block.{Block}
use Rattle.cap_blocks.specs.inner.Reader.{GivesNextBlock, TakesBlock, blocks_to_come}
use Rattle.cap_bytes.specs.Items.{IsEnd}
use Rattle.cap_bytes.specs.declared.faults.Fault.{Fault}
use Rattle.cap_bytes.specs.declared.faults.Fault.TheVariants.{Refused, Read, Write, Memory}
use Rattle.cap_bytes.specs.declared.numbers.Order.{Order}
use Rattle.cap_bytes.specs.declared.stops.Stop.{Stop}
use Rattle.cap_bytes.specs.declared.stops.Stop.TheVariants as stops
use Rattle.cap_bytes.specs.inner.Reader.{ReaderState}
use Rattle.cap_commands.specs.BlockText.{block_line, block_lines, blocks_refusal, refusal_of_stop}
use Rattle.cap_commands.specs.declared.jobs.Finding.TheVariants.{Nothing}
use Rattle.cap_print.specs.declared.forms.Form.{Form}
use Rattle.capt_c.specs.BlockRests.{PeeksBlock, blocks_rest, pieces_rest}
use Rattle.capt_c.specs.JobRests.{JobRest, StepsJob, end_by}
use Rattle.capt_c.specs.JobStands.{BlocksStand, blocks_left, blocks_read}

-- ---- the block that comes next

no_refusal : (stop : Stop) → IsEnd stop → refusal_of_stop stop ≡ None
no_refusal stops.End e = refl
no_refusal (stops.Cut rest) e = refl
no_refusal (stops.Refused refusal) e = absurd e

-- a call for it answers so
taken : (form : Form) (n : ℕ) (old new : ReaderState Order) (answer : Option Block)
    → TakesBlock old (Ok answer) new → PeeksBlock form n None old (Ok answer) answer new
unfolding block_lines blocks_refusal
taken form n old new (Some block) takes = (refl, sym (ap (pieces_rest form n) takes))
taken form n old new None takes = (
  ap (pieces_rest form n) takes.2 ∙ ap (λ r. record { text = []; end = end_by r }) (no_refusal takes.0 takes.1),
  ap (pieces_rest form n) takes.3,
)

pub peeks-taken : (form : Form) (n : ℕ) (old new : ReaderState Order) (next answer : Option Block) → next ≡ None
    → TakesBlock old (Ok answer) new → PeeksBlock form n next old (Ok answer) answer new
peeks-taken form n old new next answer is takes =
    subst (λ (b : Option Block). PeeksBlock form n b old (Ok answer) answer new) (sym is)
    (taken form n old new answer takes)

faulted : (form : Form) (n : ℕ) (old new : ReaderState Order) (fault : Fault) → old.can_fail ≡ false
    → GivesNextBlock old (Err fault) new → TakesBlock old (Err fault) new
    → PeeksBlock form n None old (Err fault) None new
unfolding block_lines blocks_refusal
faulted form n old new (Refused refusal) never gives takes =
    (ap (pieces_rest form n) takes.0, ap (pieces_rest form n) takes.1)
faulted form n old new (Read file offset) never gives takes = false≢true (sym never ∙ gives.can_fail)
faulted form n old new Write never gives takes = gives
faulted form n old new Memory never gives takes = ap (pieces_rest form n) takes

pub peeks-fault : (form : Form) (n : ℕ) (old new : ReaderState Order) (next : Option Block) (fault : Fault)
    → next ≡ None → old.can_fail ≡ false → GivesNextBlock old (Err fault) new → TakesBlock old (Err fault) new
    → PeeksBlock form n next old (Err fault) next new
peeks-fault form n old new next fault is never gives takes =
    subst (λ (b : Option Block). PeeksBlock form n b old (Err fault) b new) (sym is)
    (faulted form n old new fault never gives takes)

-- ---- a step

pub steps-block-fault : (form : Form) (n : ℕ) (text : List ℕ) (old new : ReaderState Order) (next later : Option Block)
    (fault : Fault) → PeeksBlock form n next old (Err fault) later new
    → StepsJob (blocks_rest form n next old) text (Err fault) text (blocks_rest form n later new)
steps-block-fault form n text old new next later (Refused refusal) peeks = (peeks.0, refl, peeks.1)
steps-block-fault form n text old new next later (Read file offset) peeks = peeks
steps-block-fault form n text old new next later Write peeks = peeks
steps-block-fault form n text old new next later Memory peeks = (refl, peeks)

pub steps-block-end : (form : Form) (n : ℕ) (text : List ℕ) (old new : ReaderState Order) (next later : Option Block)
    → PeeksBlock form n next old (Ok None) later new
    → StepsJob (blocks_rest form n next old) text (Ok (Some Nothing)) text (blocks_rest form n later new)
steps-block-end form n text old new next later peeks = (peeks.0, refl, peeks.1)

-- there is no memory for the line
pub steps-block-kept : (form : Form) (n : ℕ) (text after : List ℕ) (old new : ReaderState Order)
    (next later : Option Block) (block : Block) → PeeksBlock form n next old (Ok (Some block)) later new
    → after ≡ text → StepsJob (blocks_rest form n next old) text (Err Memory) after (blocks_rest form n later new)
steps-block-kept form n text after old new next later block peeks kept = (kept, peeks.1)

-- the line is made
pub steps-block-more : (form : Form) (n : ℕ) (text after : List ℕ) (old new : ReaderState Order)
    (next later : Option Block) (block : Block) → PeeksBlock form n next old (Ok (Some block)) later new
    → after ≡ text ++ block_line form n block
    → StepsJob (blocks_rest form n next old) text (Ok None) after (blocks_rest form (n + 1) None new)
steps-block-more form n text after old new next later block peeks wrote =
    let rest = pieces_rest form (n + 1) (blocks_to_come new) in
    let was : blocks_rest form n next old ≡ blocks_rest form n (Some block) new =
    sym peeks.1 ∙ ap (λ (b : Option Block). blocks_rest form n b new) peeks.0 in (
      ap (λ (t : List ℕ). t ++ rest.text) wrote ∙ (append_assoc text (block_line form n block) rest.text
          ∙ ap (λ (r : JobRest). text ++ r.text) (sym was)),
      ap (λ (r : JobRest). r.end) (sym was),
    )

-- ---- the block is passed

pub passed-place : (reader : ReaderState Order) (next : Option Block) (block : Block) (n : ℕ)
    → BlocksStand reader next n → next ≡ Some block → BlocksStand reader None (n + 1)
passed-place reader next block n stands is =
    let read : blocks_read next ≡ 1 = ap blocks_read is in
    record {
      told = stands.told;
      reads = stands.reads;
      place = omega (arith, stands.place, read);
      limit = stands.limit;
    }

pub passed-number : (reader : ReaderState Order) (next : Option Block) (block : Block) (n : ℕ)
    → BlocksStand reader next n → next ≡ Some block → n + 1 ≤ 2 ^ 41
passed-number reader next block n stands is =
    let read : blocks_read next ≡ 1 = ap blocks_read is in omega (arith, stands.place, stands.limit, read)

pub passed-fewer : (reader : ReaderState Order) (next : Option Block) (block : Block) → next ≡ Some block → (most : ℕ)
    → blocks_left reader next ≤ most → blocks_left reader None < most
passed-fewer reader next block is most within =
    let read : blocks_read next ≡ 1 = ap blocks_read is in
    omega (arith, within, read)
