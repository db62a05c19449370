-- What an iterator over options still gives.
use Rattle.std.specs.Prelude.{ℕ, List, Result, Ok, Err}
use Rattle.std.specs.Borrow.{Bor}
use Rattle.cap_bytes.specs.declared.faults.Rule.{Rule}
use Rattle.cap_blocks.specs.OptionList.{OptionItem, options_of}
use Rattle.cap_blocks.specs.declared.options.Options.{Options}

-- the options to come
abbrev pub options_to_come : Options → List OptionItem
options_to_come options = options_of options.order options.rest.now

-- an option without where its value lies in memory
abbrev pub option_item : Result (ℕ × Bor (List ℕ)) Rule → OptionItem
option_item (Ok option) = Ok (option.0, option.1.now)
option_item (Err rule) = Err rule
