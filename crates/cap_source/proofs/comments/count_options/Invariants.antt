use Rattle.std.proofs.Common.{◌≡◌, ◌+◌, count_by}
use Rattle.cap_blocks.specs.OptionList.{options_of}
use Rattle.cap_blocks.specs.inner.Options.{options_to_come}
use Rattle.cap_source.specs.Comments.{is_comment}
use Rattle.cap_source.proofs.comments.count_options.Given as goal

-- the comments so far and those to come are all
abbrev pub invariant-loop-option : goal.invariant-loop-option
invariant-loop-option l =
    (goal.iterator-loop-option).can_next l.option-iterator ×
    (goal.iterator-loop-option).is_finite l.option-iterator ×
    (l.count + count_by is_comment (options_to_come l.option-iterator)
    ≡ count_by is_comment (options_of l.fn.order l.fn.options))
