use Rattle.std.proofs.Common.{◌≡◌, drop}
use Rattle.std.specs.List.{list_any}
use Rattle.cap_blocks.specs.OptionList.{options_of}
use Rattle.cap_blocks.specs.inner.Options.{options_to_come}
use Rattle.cap_source.specs.TimeBases.{is_name}
use Rattle.cap_source.proofs.interfaces.is_named.Given as goal

-- a name is among the options to come if it is among all of them
abbrev pub invariant-loop-option : goal.invariant-loop-option
invariant-loop-option l =
    (goal.iterator-loop-option).can_next l.option-iterator ×
    (goal.iterator-loop-option).is_finite l.option-iterator ×
    (list_any is_name (options_to_come l.option-iterator) ≡ list_any is_name (options_of l.fn.order (drop 8 l.body)))
