use Rattle.std.proofs.Common.{◌≡◌}
use Rattle.cap_blocks.specs.OptionList.{options_of}
use Rattle.cap_blocks.specs.inner.Options.{options_to_come}
use Rattle.cap_source.specs.TimeBases.{options_read, no_base}
use Rattle.cap_source.proofs.interfaces.time_base_of.Given as goal

-- what the options so far and those to come say is what all of them say
abbrev pub invariant-loop-option : goal.invariant-loop-option
invariant-loop-option l =
    (goal.iterator-loop-option).can_next l.option-iterator ×
    (goal.iterator-loop-option).is_finite l.option-iterator ×
    (options_read l.order l.base (options_to_come l.option-iterator)
    ≡ options_read l.order no_base (options_of l.order l.options))
