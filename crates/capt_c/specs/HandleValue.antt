-- What a handle owns.
use Rattle.std.specs.Prelude.{◌≡◌, Bool, false, Option, Some, None}
use base.Fml.{Fml, ftrue}
use denote.RawPtr.{Ptr, null_ptr}
use Rattle.std.specs.Box.Ownership.{box_owns}
use Rattle.std.specs.contracts.impls.GlobalAllocator.TheImpl.{ghosts}
use mir.Syntax.{Ty}
use Rattle.capt_c.specs.declared.handles.HandleValue.{HandleValue}
use Rattle.capt_c.specs.contracts.handles.HandleValue.{the_row as held_row}

-- the right to free a block
abbrev pub token : Ty → Ptr → Fml
token = ghosts.dealloc_token (record { memory = record { seal = tt } })

-- the block of a box with that value, if there is one
abbrev pub owned : Ptr → Option HandleValue → Fml
owned p None = ftrue
owned p (Some x) = box_owns token held_row p x

-- A handle is {0}: it holds nothing, at no address, and isn't open.
pub record IsClosed (held : Option HandleValue) (address : Ptr) (is_open : Bool) : Type 0 where
  pub value : held ≡ None
  pub at : address ≡ null_ptr
  pub shut : is_open ≡ false
