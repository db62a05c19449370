use Rattle.std.proofs.Common.{sym, ap, subst, ◌∙◌, ◌+◌, ◌≤◌, ℕ, length, arith, count_by}
use Rattle.cap_blocks.specs.inner.Options.{options_to_come}
use Rattle.cap_source.specs.Comments.{is_comment}
use Rattle.cap_source.proofs.OptionCounts.{count_comment, count_done, count_other, few_comments}
use Rattle.cap_source.proofs.comments.count_options.Goals as goal

pub loop-option-init : goal.loop-option-init
loop-option-init c = (
  tt,
  tt,
  ap (λ options. 0 + count_by is_comment (options_to_come options))
      c.into_iter-option-iterator.ensures.into_iter_gives
      ∙ (ap (λ items. 0 + count_by is_comment items) c.new-option-items.ensures.items ∙ omega arith),
)

pub overflow_add-count : goal.overflow_add-count
overflow_add-count c =
    let one = count_comment _ _ _ _ _ c.in-Some.ensures.steps (sym c.is_comment.ensures ∙ c.if-is_comment.true)
    c.loop-option.invariant.2 in
    omega (arith, one, few_comments c.args.order c.args.options.now)

pub loop-option-preserved-then-is_comment : goal.loop-option-preserved-then-is_comment
loop-option-preserved-then-is_comment c = (
  tt,
  tt,
  count_comment _ _ _ _ _ c.in-Some.ensures.steps (sym c.is_comment.ensures ∙ c.if-is_comment.true)
      c.loop-option.invariant.2,
)

pub loop-option-preserved : goal.loop-option-preserved
loop-option-preserved c = (
  tt,
  tt,
  count_other _ _ _ _ _ c.in-Some.ensures.steps (sym c.is_comment.ensures ∙ c.if-is_comment.false)
      c.loop-option.invariant.2,
)

pub returns : goal.returns
returns c =
    let all = count_done _ _ _ c.in-None.ensures.steps.0 c.loop-option.invariant.2 in record {
      count = all;
      few = subst (λ (n : ℕ). n ≤ length c.args.options.now) (sym all)
          (few_comments c.args.order c.args.options.now);
    }
