use Rattle.std.proofs.Common.{◌≡◌, ℕ, Bool, Option, Some, None, Result, Ok, Err, IsOkUnless, OnErr, OnOk, refl, sym}
use denote.RawPtr.{Ptr}
use Rattle.cap_bytes.specs.declared.faults.Fault.{Fault}
use Rattle.cap_bytes.specs.declared.faults.Fault.TheVariants.{Memory}
use Rattle.cap_commands.specs.Jobs.{tail_of}
use Rattle.capt_c.specs.Answers.{status_of_result, status_of_unit}
use Rattle.capt_c.specs.HandleValue.{IsClosed}
use Rattle.capt_c.specs.Tables.{OpensTable}
use Rattle.capt_c.specs.declared.handles.HandleValue.{HandleValue}
use Rattle.capt_c.specs.declared.handles.HandleValue.TheVariants as helds
use Rattle.capt_c.proofs.SameReaders.{same-readers}
use Rattle.capt_c.proofs.tables.open_table.Goals as goal

-- either the value is held, or nothing is for want of memory
opens-held : (Opens : ℕ → Option HandleValue → Type 0) (value : HandleValue) (answer : Result Unit Fault)
    (new : Option HandleValue)
    (address : Ptr) (is_open : Bool) → OnOk answer (new ≡ Some value) → OnErr answer (IsClosed new address is_open)
    → IsOkUnless answer Memory → Opens 0 (Some value) → Opens 5 None
    → Opens (status_of_result status_of_unit answer) new
opens-held Opens value (Ok u) new address is_open ok closed fault opened none = rw ok opened
opens-held Opens value (Err f) new address is_open ok closed fault opened none = rw (closed.value, fault) none

pub returns-clause-opens : goal.returns-clause-opens
returns-clause-opens c =
    let sources = c.in_ok-sources.sources.items in let after = c.hold.new.self in
    let Opens = OpensTable (tail_of c.args.set.allow_cut) c.args.set.ipv6 c.args.files.now in
    opens-held Opens (helds.Table c.in_ok-opened.opened) c.hold.result after.kept.value after.kept.at
    after.is_open c.hold.ensures.value c.hold.ensures.closed c.hold.ensures.fault (
      refl,
      rw (
        sym c.tail_of.ensures,
        sym (same-readers sources c.args.files.now c.in_ok-sources.ensures.bytes),
        c.in_ok-opened.ensures.ok,
        c.reading.ensures.parts,
      ) c.in_ok-merged.ensures.unread,
      rw c.in_ok-opened.ensures.ok c.reading.ensures.stands,
      rw c.in_ok-opened.ensures.ok c.reading.ensures.going,
      rw c.in_ok-opened.ensures.ok c.reading.ensures.reads,
    ) refl
