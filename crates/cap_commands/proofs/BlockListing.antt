-- The lines of a file's blocks, written one by one.
use Rattle.std.proofs.Common.{◌≡◌, ℕ, ◌+◌, ◌^◌, ◌≤◌, List, ◌∷◌, ◌++◌, length, take, drop, Bool, IsTrue, Option}
use Rattle.std.proofs.Common.{Some, None, Ok, Err, refl, sym, ap, ◌∙◌, subst, arith, take_at, drop_at, append-nil}
use Rattle.std.proofs.Common.{length-append}
use Rattle.cap_bytes.proofs.Putting.{Putting, Putting-more}
use Rattle.cap_bytes.specs.Device.{Writer}
use Rattle.cap_bytes.specs.declared.faults.Fault.{Fault}
use Rattle.cap_bytes.specs.declared.faults.Fault.TheVariants.{Refused, Read, Write, Memory}
use Rattle.cap_bytes.specs.declared.faults.Refusal.{Refusal}
use Rattle.cap_bytes.specs.Items.{IsEnd, PieceItem, cut_by, given}
use Rattle.cap_bytes.specs.inner.Reader.{ReaderState, ReaderKeeps}
use Rattle.cap_bytes.specs.declared.numbers.Order.{Order}
use Rattle.cap_blocks.specs.inner.Reader.{GivesBlock, TakesBlock, blocks_to_come}
use Rattle.cap_blocks.specs.declared.blocks.Block.{Block}
use Rattle.cap_bytes.specs.declared.stops.CutRest.{CutRest}
use Rattle.cap_bytes.specs.declared.stops.Stop.{Stop}
use Rattle.cap_bytes.proofs.Putting.{Putting-all}
use Rattle.cap_commands.specs.inner.BlockWalk.{BlockWalkLasts}
use Rattle.cap_commands.specs.BlockText.{block_lines, blocks_cut, refusal_of_stop, blocks_refusal}
use Rattle.cap_bytes.specs.Printing.{Prints}

-- the lines so far of a reader that was `old`, by what makes a block's line, are written by a writer that was `from`
pub record Printing (line_of : ℕ → Block → List ℕ) (old new : ReaderState Order) (failed_old failed_new : Bool)
    (from to : Writer) (n : ℕ) : Type 0
  where
    pub number : n ≤ new.offset + 1
    pub limit : n ≤ 2 ^ 41
    pub failed : failed_new ≡ failed_old
    pub file : new.file ≡ old.file
    pub can_fail : IsTrue new.can_fail → IsTrue old.can_fail
    pub offset : old.offset ≤ new.offset
    pub lasts : BlockWalkLasts old new
    pub told : IsTrue old.told → IsTrue new.told
    pub writer_told : IsTrue from.told → IsTrue to.told
    pub writer_cannot : IsTrue to.can_fail → IsTrue from.can_fail
    pub lines : IsTrue old.told
        → Putting from to (block_lines line_of 1 (blocks_to_come old)) (block_lines line_of n (blocks_to_come new))
    pub refusal_same : IsTrue old.told → blocks_refusal (blocks_to_come new) ≡ blocks_refusal (blocks_to_come old)
    pub cut_same : IsTrue old.told → blocks_cut (blocks_to_come new) ≡ blocks_cut (blocks_to_come old)

-- no line is written yet
pub Printing-none : (line_of : ℕ → Block → List ℕ) (reader : ReaderState Order) (failed : Bool) (writer : Writer)
    → Printing line_of reader reader failed failed writer writer 1
Printing-none line_of reader failed writer = record {
  number = omega arith;
  limit = omega arith;
  failed = refl;
  file = refl;
  can_fail = λ t. t;
  offset = omega arith;
  lasts = record { broken = refl; failed = refl };
  told = λ t. t;
  writer_told = λ t. t;
  writer_cannot = λ t. t;
  lines = λ t. record {
    at = 0;
    within = omega arith;
    left = refl;
    written = λ w. sym (append-nil writer.held);
    told = λ w. w;
    cannot = λ f. f;
  };
  refusal_same = λ t. refl;
  cut_same = λ t. refl;
}

-- the lines of a block and of those after it
pub block_lines-given : (line_of : ℕ → Block → List ℕ) (n : ℕ) (block : Block) (body : List ℕ)
    (items rest : List (PieceItem Block))
    → items ≡ given block body ∷ rest
    → block_lines line_of n items ≡ line_of n block ++ block_lines line_of (n + 1) rest
unfolding block_lines
block_lines-given line_of n block body items rest is = ap (block_lines line_of n) is

pub refusal_of-given : (block : Block) (body : List ℕ) (items rest : List (PieceItem Block))
    → items ≡ given block body ∷ rest
    → blocks_refusal items ≡ blocks_refusal rest
unfolding blocks_refusal
refusal_of-given block body items rest is = ap blocks_refusal is

cut_of-given : (block : Block) (body : List ℕ) (items rest : List (PieceItem Block))
    → items ≡ given block body ∷ rest → blocks_cut items ≡ blocks_cut rest
unfolding blocks_cut
cut_of-given block body items rest is = ap blocks_cut is

-- what ended the blocks says what was cut
stop-cut : (new : ReaderState Order) (stop : Stop) → new.stop ≡ Some stop
    → cut_by new.stop ≡ blocks_cut (blocks_to_come new)
unfolding blocks_cut
stop-cut new stop is = rw is refl

-- it is what is cut of all blocks, if a call answers that there is none
pub Cuts-block_end : (cut : Option CutRest) (stop : Stop) (old new : ReaderState Order)
    → blocks_cut (blocks_to_come old) ≡ cut → new.stop ≡ Some stop → TakesBlock old (Ok None) new
    → cut_by new.stop ≡ cut
Cuts-block_end cut stop old new same is took = stop-cut new stop is ∙ (ap blocks_cut took.3 ∙ same)

-- what is written if a call for the next block answers a fault
pub Prints-block_fault : (line_of : ℕ → Block → List ℕ) (fault : Fault) (text : List ℕ) (refusal : Option Refusal)
    (from to : Writer) (n : ℕ) (old new : ReaderState Order)
    → Putting from to text (block_lines line_of n (blocks_to_come old)) → IsTrue from.told
    → blocks_refusal (blocks_to_come old) ≡ refusal
    → TakesBlock old (Err fault) new → Prints {A = Unit {0}} text refusal from.held (Err fault) to.held
unfolding block_lines blocks_refusal
Prints-block_fault line_of (Refused r) text refusal from to n old new p t same took = (
  sym same ∙ ap blocks_refusal took.0,
  Putting-all from to text (block_lines line_of n (blocks_to_come old)) p
      (ap (block_lines line_of n) took.0) t,
)
Prints-block_fault line_of (Read file offset) text refusal from to n old new p t same took = (p.at, p.written t)
Prints-block_fault line_of Write text refusal from to n old new p t same took = absurd took
Prints-block_fault line_of Memory text refusal from to n old new p t same took = (p.at, p.written t)

-- An end that isn't a refusal tells none.
no_refusal : (stop : Stop) → IsEnd stop → refusal_of_stop stop ≡ None
no_refusal stop e = grind arith

-- what is written if it answers that there is none
pub Prints-block_end : (line_of : ℕ → Block → List ℕ) (text : List ℕ) (refusal : Option Refusal) (from to : Writer)
    (n : ℕ) (old new : ReaderState Order)
    → Putting from to text (block_lines line_of n (blocks_to_come old)) → IsTrue from.told
    → blocks_refusal (blocks_to_come old) ≡ refusal
    → TakesBlock old (Ok None) new → (refusal ≡ None) × (to.held ≡ from.held ++ text)
unfolding block_lines blocks_refusal
Prints-block_end line_of text refusal from to n old new p t same took = (
  sym same ∙ (ap blocks_refusal took.2 ∙ no_refusal took.0 took.1),
  Putting-all from to text (block_lines line_of n (blocks_to_come old)) p (ap (block_lines line_of n) took.2) t,
)

-- one more block is given, and its line written
pub Printing-more : (line_of : ℕ → Block → List ℕ) (old mid new : ReaderState Order) (fo fm fn : Bool)
    (from m to : Writer) (n : ℕ) (block : Block) (body line : List ℕ)
    → Printing line_of old mid fo fm from m n
    → GivesBlock mid block new → ReaderKeeps mid new
    → (IsTrue mid.told → blocks_to_come mid ≡ given block body ∷ blocks_to_come new)
    → line ≡ line_of n block
    → (IsTrue m.told → to.held ≡ m.held ++ line) → (IsTrue m.told → IsTrue to.told)
    → (IsTrue to.can_fail → IsTrue m.can_fail) → fn ≡ fm
    → Printing line_of old new fo fn from to (n + 1)
Printing-more line_of old mid new fo fm fn from m to n block body line p gives keeps took is wrote told cannot failed =
    record {
      number = omega (arith, p.number, gives.gives.next, gives.least);
      limit = omega (arith, p.number, gives.gives.next, gives.least, keeps.limit);
      failed = failed ∙ p.failed;
      file = keeps.file ∙ p.file;
      can_fail = λ c. p.can_fail (keeps.can_fail c);
      offset = omega (arith, p.offset, keeps.offset);
      lasts = record {
        broken = gives.gives.goes.after ∙ sym gives.gives.goes.before
            ∙ p.lasts.broken;
        failed = gives.gives.goes.failed ∙ p.lasts.failed;
      };
      told = λ t. keeps.told (p.told t);
      writer_told = λ t. told (p.writer_told t);
      writer_cannot = λ c. p.writer_cannot (cannot c);
      lines = λ t.
          let next = block_lines line_of (n + 1) (blocks_to_come new) in
          let split : block_lines line_of n (blocks_to_come mid) ≡ line ++ next =
          block_lines-given line_of n block body (blocks_to_come mid) (blocks_to_come new) (took (p.told t))
          ∙ ap (λ l. l ++ next) (sym is) in
          subst (Putting from to (block_lines line_of 1 (blocks_to_come old)))
          (ap (drop (length line)) split ∙ drop_at line next (length line) refl)
          (Putting-more from m to (block_lines line_of 1 (blocks_to_come old))
          (block_lines line_of n (blocks_to_come mid)) (length line) (p.lines t)
          (omega (arith, ap length split, length-append line next))
          (λ w. wrote w ∙ ap (λ l. m.held ++ l) (sym (ap (take (length line)) split
          ∙ take_at line next (length line) refl)))
          told cannot);
      refusal_same = λ t. sym (refusal_of-given block body (blocks_to_come mid) (blocks_to_come new) (took (p.told t)))
          ∙ p.refusal_same t;
      cut_same = λ t. sym (cut_of-given block body (blocks_to_come mid) (blocks_to_come new) (took (p.told t)))
          ∙ p.cut_same t;
    }
